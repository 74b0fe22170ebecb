-- Of `convert_known`: that its pixels are converted by what is known of both formats.
use Rattle.pix_bytes.proofs.RowConversions.{crossed_from, crossed_to}
use Rattle.pix_bytes.proofs.bitmap.row_conversion.convert_known.Goals as goal

pub returns : goal.returns
returns g c =
    let args = c.args in
    crossed_from g.C.Channel.max g.D.Channel.max args.known args.from args.to g.W.PixelConversion.makes args.count args.src.now c.convert_row_pixels.new.dst c.requires.same
    (crossed_to g.C.Channel.max g.D.Channel.max args.known args.to_known args.to g.W.PixelConversion.makes args.count args.src.now c.convert_row_pixels.new.dst c.requires.to_same c.convert_row_pixels.ensures)
