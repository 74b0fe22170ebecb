-- Of `eight_pixels`: that there is a place for each channel, and that the channels are those of the pixels.
use Rattle.std.proofs.Common.{arith, map, refl}
use Rattle.std.proofs.lemmas.List.{length-map}
use Rattle.pix_el.proofs.InPixels.{twos_read}
use Rattle.pix_el.proofs.planes.graya_x8.eight_pixels.Goals as goal

pub load_channels-requires : goal.load_channels-requires
load_channels-requires g c = rw (c.requires.count, c.requires.size) refl

pub returns : goal.returns
returns g c =
    let v = g.P.Chan.Channel.number in
    let own = c.load_channels.new.to in
    twos_read g.P.Pixel.layout.count 8 _ (map v own) _ c.requires.count c.requires.size (omega (arith, length-map own v)) c.load_channels.ensures
