-- What holds at each turn of the loop over `i` in `count_levels`.
use Rattle.std.proofs.Common.{◌≡◌, ℕ, ◌<◌, All, length, get_or, take}
use Rattle.pix_table.specs.declared.color.Color.{Color}
use Rattle.pix_table.proofs.lemmas.quantization.LevelLemmas.{having}
use Rattle.pix_table.proofs.quantization.gray_levels.count_levels.Given as goal

-- the levels of the first i colors are counted
abbrev pub invariant-loop-i : goal.invariant-loop-i
invariant-loop-i l = record {
  long : length l.counts ≡ 256;
  each : (v : ℕ) → v < 256 → get_or l.counts v 0 ≡ having (take l.i l.colors) v;
  bytes : All (λ (color : Color). color.red < 256) (take l.i l.colors);
}
