use Rattle.std.proofs.Common.{◌∙◌, arith, map}
use Rattle.std.proofs.lemmas.List.{length-map}
use Rattle.pix_el.proofs.TwoPixels.{first_alphas}
use Rattle.pix_el.proofs.planes.graya_x8.alphas.Goals as goal

pub returns : goal.returns
returns g c =
    let v = g.C.Channel.number in
    let each = c.split2-last.result in
    c.first_in_turn.ensures
    ∙ first_alphas (map v each.0) (map v each.1) (map v c.args.pixels) _ (omega (arith, length-map each.0 v)) (omega (arith, length-map each.1 v)) (omega (arith, length-map c.args.pixels v)) c.split2-last.ensures
