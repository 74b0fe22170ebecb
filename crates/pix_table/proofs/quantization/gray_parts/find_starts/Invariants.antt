-- What holds at each turn of the loop over `k` in `find_starts`.
use Rattle.pix_table.specs.quantization.GrayLevels.{error_of}
use Rattle.pix_table.proofs.lemmas.quantization.PartLemmas.{HasParts}
use Rattle.pix_table.proofs.quantization.gray_parts.find_starts.Given as goal

-- the starts of k parts are found
abbrev pub invariant-loop-k : goal.invariant-loop-k
invariant-loop-k l = HasParts (error_of l.sums) l.len l.sums l.starts l.parts.errors l.parts.starts l.k
