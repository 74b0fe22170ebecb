-- Of `Sums64::with`: that the numbers of a color are bytes.
use Rattle.std.proofs.Common.{arith}
use Rattle.pix_table.proofs.lemmas.quantization.PartedSums.{color_bytes}
use Rattle.pix_table.proofs.quantization.sums64.Sums64.with.Goals as goal

pub returns-clause-bytes : goal.returns-clause-bytes
returns-clause-bytes c = color_bytes c.args.clr (omega arith) (omega arith) (omega arith)
