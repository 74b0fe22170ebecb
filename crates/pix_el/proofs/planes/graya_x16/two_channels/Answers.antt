-- Of `two_channels`: that the channels are there, and that they are those of the pixel.
use Rattle.std.proofs.Common.{◌∙◌, ap, sym, arith, map}
use Rattle.pix_el.proofs.TwoPixels.{mapped2}
use Rattle.pix_el.proofs.planes.graya_x16.two_channels.Goals as goal

pub bounds-c-0 : goal.bounds-c-0
bounds-c-0 g c = omega arith

pub bounds-c-1 : goal.bounds-c-1
bounds-c-1 g c = omega arith

pub returns : goal.returns
returns g c =
    let v = g.P.Chan.Channel.number in
    mapped2 v c.channels-c.result.now c.index-c-0.result c.index-c-1.result (omega arith) (ap v c.index-c-0.is) (ap v c.index-c-1.is)
    ∙ ap (map v) c.channels-c.ensures.channels ∙ sym (g.met.P.Pixel.numbered c.args.p.now)
