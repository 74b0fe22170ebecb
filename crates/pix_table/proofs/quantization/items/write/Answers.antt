-- Of `write`: that the numbers of the colors are those with one written.
use Rattle.std.proofs.lemmas.List.{map-set}
use Rattle.pix_table.proofs.quantization.items.write.Goals as goal

pub returns : goal.returns
returns g c = map-set g.C.Counted.parts c.args.colors.now c.args.at c.args.clr
