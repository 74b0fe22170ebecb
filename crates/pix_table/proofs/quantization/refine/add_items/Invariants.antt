-- What holds at each turn of the loop over `k` in `add_items`.
use Rattle.std.proofs.Common.{◌≡◌, ℕ, ◌-◌, ◌*◌, ◌≤◌, List, get_or, length, map}
use Rattle.pix_table.specs.matching.Nearest.{numbers}
use Rattle.pix_table.specs.quantization.Groups.{AreItemGroups}
use Rattle.pix_table.specs.declared.quantization.box_sums.Sums.{Sums}
use Rattle.pix_table.specs.declared.quantization.sums64.Sums64.{Sums64}
use Rattle.pix_table.proofs.lemmas.quantization.FewGroups.{AreLittle, AreTogether}
use Rattle.pix_table.proofs.quantization.refine.add_items.Given as goal

-- together with the sums before they are those of the first k items, and none has more than those from the start on
abbrev pub invariant-loop-k : goal.invariant-loop-k
invariant-loop-k g l = record {
  grouped : (entries : List (List ℕ)) → g.N.NearestSearch.finds l.fn.search entries → length l.sums ≡ length entries
      → AreItemGroups entries (map numbers l.colors) l.items.pairs l.start l.sums
      → (all : List Sums) × AreTogether l.sums l.few all × AreItemGroups entries (map numbers l.colors) l.items.pairs l.k all;
  long : length l.few ≡ 256;
  little : AreLittle (65535 * (l.k - l.start)) l.few;
  same : (entries : List (List ℕ)) → g.N.NearestSearch.finds l.fn.search entries → g.N.NearestSearch.finds l.search entries;
}
