use Rattle.std.proofs.Common.{◌++◌, arith, map}
use Rattle.std.proofs.lemmas.List.{length-map}
use Rattle.pix_el.proofs.FourPlanes.{are_planes}
use Rattle.pix_el.proofs.planes.planes_x16.planes.Goals as goal

pub returns : goal.returns
returns g c =
    let v = g.P.Chan.Channel.number in
    let all = c.quarters-a.result in
    let each = c.split4.result in
    are_planes g.P.Chan.Channel.max (map v each.0) (map v each.1) (map v each.2) (map v each.3) ((map v all.0 ++ map v all.1) ++ (map v all.2 ++ map v all.3)) (map g.D.Stored.reads c.args.p.now)
    c.split4.ensures c.quarters-a.ensures
    (omega (arith, length-map each.0 v, length-map each.1 v)) (omega (arith, length-map each.0 v, length-map each.2 v)) (omega (arith, length-map each.0 v, length-map each.3 v))
