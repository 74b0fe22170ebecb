-- Of `store_channels`: that the invariant of its loop over `i` stays.
use Rattle.std.proofs.Common.{◌∙◌, map, length, get_or, ap, arith}
use Rattle.pix_el.proofs.InPixels.{pixel_written}
use Rattle.pix_el.proofs.stored.AnyStored.store_channels.Goals as goal

pub loop-i-preserved : goal.loop-i-preserved
loop-i-preserved g c =
    let v = g.P.Chan.Channel.number in
    let item = c.index-p-i.result in
    let own = c.copy_channels.new.to in
    let p = get_or c.loop-i.p c.loop-i.i item in
    let made = g.P.Pixel.with_channel_list p own in
    pixel_written v g.P.Pixel.numbers g.P.Pixel.layout.count (length c.channels_mut-to.result.now) c.loop-i.i c.loop-i.p made c.args.c.now
    c.channels_mut-to.ensures.count (omega arith) c.loop-i.invariant
    (g.met.P.Pixel.numbered made ∙ ap (map v) (g.met.P.Pixel.with_list p own ∙ c.copy_channels.ensures))
