use Rattle.std.proofs.Common.{[], ◌∷◌}
use Rattle.pix_el.specs.Conversion.{Format}
use Rattle.pix_el.proofs.Conversions.{told_is}
use Rattle.pix_el.proofs.Gray.{rgba_is}
use Rattle.pix_el.proofs.conversion.gray.rgba_converted.Goals as goal

pub returns : goal.returns
returns g c =
    let own : Format = record { layout = record { max = g.P.Chan.Channel.max; count = g.P.Pixel.layout.count; hues = g.P.Model.ColorModel.CIRCULAR; alpha = g.P.Model.ColorModel.ALPHA }; kind = g.P.Model.ColorModel.KIND; colors = g.P.Model.ColorModel.LINEAR; to_rgb = g.P.Model.ColorModel.to_rgb; of_rgb = g.P.Model.ColorModel.of_rgb; alpha_mode = g.P.Alpha.Alpha.mode } in
    let to_own : Format = record { layout = record { max = g.D.Chan.Channel.max; count = g.D.Pixel.layout.count; hues = g.D.Model.ColorModel.CIRCULAR; alpha = g.D.Model.ColorModel.ALPHA }; kind = g.D.Model.ColorModel.KIND; colors = g.D.Model.ColorModel.LINEAR; to_rgb = g.D.Model.ColorModel.to_rgb; of_rgb = g.D.Model.ColorModel.of_rgb; alpha_mode = g.D.Alpha.Alpha.mode } in
    let gamma = g.P.Gamma.Gamma-2.mode in
    let to_gamma = g.D.Gamma.Gamma.mode in
    let v = g.P.Chan.Channel.number in
    let w = g.D.Chan.Channel.number in
    let four = c.into_four-red.result in
    let red = w c.reencoded_color-red.result in
    let green = w c.reencoded_color-green.result in
    let blue = w c.reencoded_color-blue.result in
    let alpha = w c.at_depth-alpha.result in
    rgba_is g.P.Pixel.format g.D.Pixel.format own to_own gamma to_gamma (g.P.Pixel.numbers c.args.p)
    (v four.0 ∷ v four.1 ∷ v four.2 ∷ v four.3 ∷ []) (red ∷ green ∷ blue ∷ alpha ∷ []) g.met.P.Pixel.formatted g.met.D.Pixel.formatted
    c.into_four-red.ensures
    (told_is own to_own gamma to_gamma (v four.0) (v four.1) (v four.2) (v four.3) red green blue alpha c.at_depth-alpha.ensures c.reencoded_color-red.ensures c.reencoded_color-green.ensures c.reencoded_color-blue.ensures)
