use Rattle.std.proofs.Common.{◌∙◌, ◌++◌, ap, arith, map}
use Rattle.std.proofs.lemmas.List.{length-map}
use Rattle.pix_el.proofs.EightPixels.{first_turns}
use Rattle.pix_el.proofs.planes.rgba_x8.spread.Goals as goal

pub returns : goal.returns
returns g c =
    let v = g.C.Channel.number in
    let vs = c.args.values.now in
    let all = c.join4-a.result in
    c.joined.ensures
    ∙ first_turns v vs c.MIN-none.result c.index-values-0.result c.index-values-1.result c.index-values-2.result c.index-values-3.result c.index-values-4.result c.index-values-5.result c.index-values-6.result c.index-values-7.result
    (map v all.0) (map v all.1) (map v all.2 ++ map v all.3) (omega arith) (omega (arith, length-map all.0 v)) (omega (arith, length-map all.1 v))
    c.index-values-0.is c.index-values-1.is c.index-values-2.is c.index-values-3.is c.index-values-4.is c.index-values-5.is c.index-values-6.is c.index-values-7.is c.join4-a.ensures
