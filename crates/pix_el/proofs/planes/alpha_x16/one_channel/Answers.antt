-- Of `one_channel`: that the channel is there, and that it is the pixel's.
use Rattle.std.proofs.Common.{◌∙◌, ap, sym, arith, map}
use Rattle.pix_el.proofs.OnePlane.{mapped1}
use Rattle.pix_el.proofs.planes.alpha_x16.one_channel.Goals as goal

pub bounds-channels-0 : goal.bounds-channels-0
bounds-channels-0 g c = omega arith

pub returns : goal.returns
returns g c =
    let v = g.P.Chan.Channel.number in
    mapped1 v c.channels.result.now c.index-channels-0.result (omega arith) (ap v c.index-channels-0.is)
    ∙ ap (map v) c.channels.ensures.channels ∙ sym (g.met.P.Pixel.numbered c.args.p.now)
