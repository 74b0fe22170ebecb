-- Of `Sums::with`: that the numbers of a color are bytes.
use Rattle.std.proofs.Common.{arith}
use Rattle.pix_table.proofs.lemmas.quantization.PartedSums.{color_bytes}
use Rattle.pix_table.proofs.quantization.box_sums.Sums.with.Goals as goal

pub returns-clause-bytes : goal.returns-clause-bytes
returns-clause-bytes c = color_bytes c.args.clr (omega arith) (omega arith) (omega arith)
