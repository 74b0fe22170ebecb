-- What holds at each turn of the loop over `start` in `visit` of `Grouping`.
use Rattle.std.proofs.Common.{◌≡◌, ℕ, ◌+◌, ◌-◌, ◌≤◌, List, length, map}
use Rattle.pix_table.specs.matching.Nearest.{numbers}
use Rattle.pix_table.specs.quantization.Groups.{AreItemGroups}
use Rattle.pix_table.proofs.quantization.refine.GroupingSearchVisitorSums.visit.Given as goal

-- the sums are those of the items before the start
abbrev pub invariant-loop-start : goal.invariant-loop-start
invariant-loop-start g l = record {
  within : l.start ≤ l.self.items.pairs + l.self.items.singles;
  long : length l.items ≡ length l.fn.items;
  grouped : (entries : List (List ℕ)) → g.N.NearestSearch.finds l.fn.search entries → length l.items ≡ length entries
      → AreItemGroups entries (map numbers l.self.colors.now) l.self.items.pairs l.start l.items;
  same : (entries : List (List ℕ)) → g.N.NearestSearch.finds l.fn.search entries → g.N.NearestSearch.finds l.search entries;
}

abbrev pub decreases-loop-start : goal.decreases-loop-start
decreases-loop-start g l = l.self.items.pairs + l.self.items.singles - l.start
