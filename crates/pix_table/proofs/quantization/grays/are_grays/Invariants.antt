-- What holds at each turn of the loop over `i` in `are_grays`.
use Rattle.std.proofs.Common.{All, take}
use Rattle.pix_table.specs.quantization.Grays.{IsGray}
use Rattle.pix_table.specs.matching.Nearest.{numbers}
use Rattle.pix_table.specs.declared.color.Color.{Color}
use Rattle.pix_table.proofs.quantization.grays.are_grays.Given as goal

-- the first i colors are grays
abbrev pub invariant-loop-i : goal.invariant-loop-i
invariant-loop-i l = All (λ (color : Color). IsGray (numbers color)) (take l.i l.colors)
