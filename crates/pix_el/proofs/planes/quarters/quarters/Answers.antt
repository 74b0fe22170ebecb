use Rattle.std.proofs.Common.{◌∙◌, ap, sym, arith, map, take, drop}
use Rattle.std.proofs.lemmas.List.{length-map}
use Rattle.pix_el.proofs.FourPlanes.{by_parts, parts}
use Rattle.pix_el.proofs.planes.quarters.quarters.Goals as goal

pub returns : goal.returns
returns g c =
    let v = g.P.Chan.Channel.number in
    let n = g.D.Stored.reads in
    let p = c.args.p.now in
    let a = c.four_pixels.result in
    let b = c.four_pixels-2.result in
    let d = c.four_pixels-3.result in
    let e = c.four_pixels-4.result in
    sym (by_parts n (take 4 p) (take 4 (drop 4 p)) (take 4 (drop 8 p)) (take 4 (drop 12 p)) (map v a) (map v b) (map v d) (map v e)
    (omega (arith, length-map a v)) (omega (arith, length-map b v)) (omega (arith, length-map d v)) (omega (arith, length-map e v))
    (sym c.four_pixels.ensures) (sym c.four_pixels-2.ensures) (sym c.four_pixels-3.ensures) (sym c.four_pixels-4.ensures))
    ∙ ap (map n) (parts p (omega arith))
