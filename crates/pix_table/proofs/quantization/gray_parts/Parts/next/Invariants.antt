-- What holds at each turn of the loop over `i` in `next`.
use Rattle.std.proofs.Common.{get_or}
use Rattle.pix_table.specs.quantization.GrayLevels.{error_of}
use Rattle.pix_table.proofs.lemmas.quantization.PartLemmas.{AreFound}
use Rattle.pix_table.proofs.quantization.gray_parts.Parts.next.Given as goal

-- the errors of the i greatest numbers of levels are found
abbrev pub invariant-loop-i : goal.invariant-loop-i
invariant-loop-i l = AreFound (error_of l.sums) l.len (λ b. get_or l.self.errors b 0) l.errors l.starts l.latest l.i
