-- Of `are_few`: how many colors the box has.
use Rattle.std.proofs.Common.{◌<◌, arith}
use Rattle.std.proofs.lemmas.Bool.{ltb-true}
use Rattle.pix_table.proofs.lemmas.quantization.GroupLemmas.{box_count}
use Rattle.pix_table.proofs.quantization.color_items.SumsBoxSums.are_few.Goals as goal

pub returns : goal.returns
returns c = λ few box is.
    let less : c.args.self.count < 4194304 = ltb-true _ _ few in
    omega (arith, box_count box c.args.self is, less)
