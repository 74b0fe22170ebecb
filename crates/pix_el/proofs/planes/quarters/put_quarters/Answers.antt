use Rattle.std.proofs.Common.{◌∙◌, ap, arith, map}
use Rattle.std.proofs.lemmas.List.{length-map}
use Rattle.pix_el.proofs.FourPlanes.{by_parts, parts_put}
use Rattle.pix_el.proofs.planes.quarters.put_quarters.Goals as goal

pub returns : goal.returns
returns g c =
    let v = g.P.Chan.Channel.number in
    let n = g.D.Stored.reads in
    let args = c.args in
    let w = c.put_four_pixels.new.p in
    let x = c.put_four_pixels-2.new.p in
    let y = c.put_four_pixels-3.new.p in
    let z = c.put_four_pixels-4.new.p in
    ap (map n) (parts_put args.p.now w x y z (omega arith) c.put_four_pixels.ensures.size c.put_four_pixels-2.ensures.size c.put_four_pixels-3.ensures.size c.put_four_pixels-4.ensures.size)
    ∙ by_parts n w x y z (map v args.a) (map v args.b) (map v args.c) (map v args.d)
    (omega (arith, length-map args.a v)) (omega (arith, length-map args.b v)) (omega (arith, length-map args.c v)) (omega (arith, length-map args.d v))
    c.put_four_pixels.ensures.pixels c.put_four_pixels-2.ensures.pixels c.put_four_pixels-3.ensures.pixels c.put_four_pixels-4.ensures.pixels
