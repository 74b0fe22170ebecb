-- Of `are_few`: how many colors the box has.
use Rattle.std.proofs.Common.{◌<◌, arith}
use Rattle.std.proofs.lemmas.Bool.{ltb-true}
use Rattle.pix_table.proofs.lemmas.quantization.GroupLemmas.{seen_box_count}
use Rattle.pix_table.proofs.rgba.items.SeenSumsBoxSums.are_few.Goals as goal

pub returns : goal.returns
returns c = λ few box is.
    let less : c.args.self.count < 4194304 = ltb-true _ _ few in
    omega (arith, seen_box_count box c.args.self is, less)
