-- What holds at each turn of the loop over `index` in `read_lines`.
use Rattle.std.proofs.Common.{length}
use Rattle.pix_script.specs.Lines.{lines_of}
use Rattle.pix_script.specs.Reading.{held}
use Rattle.pix_script.proofs.ReadingLemmas.{SoFar}
use Rattle.pix_script.proofs.script.read_lines.Given as goal

-- what the lines so far have given
abbrev pub invariant-loop-index : goal.invariant-loop-index
invariant-loop-index l = SoFar (lines_of l.script) (length l.yielded) (held l.read)
