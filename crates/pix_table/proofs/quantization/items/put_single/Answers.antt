-- Of `put_single`: that the numbers of the colors are those with one more.
use Rattle.std.proofs.Common.{◌+◌, ◌*◌}
use Rattle.std.proofs.lemmas.List.{map-set}
use Rattle.pix_table.proofs.quantization.items.put_single.Goals as goal

pub returns-clause-written : goal.returns-clause-written
returns-clause-written g c = map-set g.C.Counted.parts c.args.colors.now (2 * c.args.items.pairs + c.args.items.singles) c.args.clr
