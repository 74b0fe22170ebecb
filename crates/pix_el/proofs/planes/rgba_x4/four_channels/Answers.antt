-- Of `four_channels`: that the channels are those of the pixel.
use Rattle.std.proofs.Common.{◌∙◌, ap, sym, arith, map}
use Rattle.pix_el.proofs.FourPlanes.{mapped4}
use Rattle.pix_el.proofs.planes.rgba_x4.four_channels.Goals as goal

pub bounds-c-0 : goal.bounds-c-0
bounds-c-0 g c = omega arith

pub bounds-c-1 : goal.bounds-c-1
bounds-c-1 g c = omega arith

pub bounds-c-2 : goal.bounds-c-2
bounds-c-2 g c = omega arith

pub bounds-c-3 : goal.bounds-c-3
bounds-c-3 g c = omega arith

pub returns : goal.returns
returns g c =
    let v = g.P.Chan.Channel.number in
    mapped4 v c.channels-c.result.now c.index-c-0.result c.index-c-1.result c.index-c-2.result c.index-c-3.result (omega arith)
    (ap v c.index-c-0.is) (ap v c.index-c-1.is) (ap v c.index-c-2.is) (ap v c.index-c-3.is)
    ∙ ap (map v) c.channels-c.ensures.channels ∙ sym (g.met.P.Pixel.numbered c.args.p.now)
