-- Of `four`: what its places hold.
use Rattle.std.proofs.Common.{◌≡◌, ◌+◌, get_or, arith, ap}
use Rattle.pix_table.proofs.lemmas.quantization.Places.{four_places}
use Rattle.pix_table.proofs.packing.row.four.Goals as goal

pub returns : goal.returns
returns c =
    let at_first : get_or c.args.indices.now (c.args.first + 0) 0 ≡ get_or c.args.indices.now c.args.first 0 =
    ap (λ i. get_or c.args.indices.now i 0) (omega arith) in
    four_places (λ t. get_or c.args.indices.now (c.args.first + t) 0) _ (omega arith)
