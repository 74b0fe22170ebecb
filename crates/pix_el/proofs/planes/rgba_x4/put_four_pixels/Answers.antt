-- Of `put_four_pixels`: that there is a channel for each place, and that the pixels are those of the channels.
use Rattle.std.proofs.Common.{arith, map}
use Rattle.std.proofs.lemmas.List.{length-map}
use Rattle.pix_el.proofs.InPixels.{fours_written}
use Rattle.pix_el.proofs.planes.rgba_x4.put_four_pixels.Goals as goal

pub store_channels-requires : goal.store_channels-requires
store_channels-requires g c = rw (c.requires.count, c.requires.size) (omega arith)

pub returns-clause-pixels : goal.returns-clause-pixels
returns-clause-pixels g c =
    let v = g.P.Chan.Channel.number in
    fours_written g.P.Pixel.layout.count 4 _ (map v c.args.c) _ c.requires.count c.requires.size (omega (arith, length-map c.args.c v)) c.store_channels.ensures
