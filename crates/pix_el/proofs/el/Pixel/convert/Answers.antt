use Rattle.std.proofs.Common.{sym, ◌∙◌, [], ◌∷◌}
use Rattle.std.specs.Prelude.{◌≢◌}
use Rattle.pix_el.specs.Conversion.{Format}
use Rattle.pix_el.proofs.Conversions.{fits_model, across_is, told_is, converted_same, converted_other}
use Rattle.pix_el.proofs.el.Pixel.convert.Goals as goal

pub from_four-requires : goal.from_four-requires
from_four-requires g c = fits_model g.D.Pixel.layout _ g.met.D.Pixel.laid_out c.requires.few

pub returns-else-KIND : goal.returns-else-KIND
returns-else-KIND g c =
    let kinds : g.Self.Model.ColorModel.KIND ≢ g.D.Model.ColorModel.KIND = λ same. c.if-KIND.false (c.KIND.ensures ∙ same ∙ sym c.KIND-2.ensures) in
    let own : Format = record { layout = record { max = g.Self.Chan.Channel.max; count = g.Self.Pixel.layout.count; hues = g.Self.Model.ColorModel.CIRCULAR; alpha = g.Self.Model.ColorModel.ALPHA }; kind = g.Self.Model.ColorModel.KIND; colors = g.Self.Model.ColorModel.LINEAR; to_rgb = g.Self.Model.ColorModel.to_rgb; of_rgb = g.Self.Model.ColorModel.of_rgb; alpha_mode = g.Self.Alpha.Alpha.mode } in
    let to_own : Format = record { layout = record { max = g.D.Chan.Channel.max; count = g.D.Pixel.layout.count; hues = g.D.Model.ColorModel.CIRCULAR; alpha = g.D.Model.ColorModel.ALPHA }; kind = g.D.Model.ColorModel.KIND; colors = g.D.Model.ColorModel.LINEAR; to_rgb = g.D.Model.ColorModel.to_rgb; of_rgb = g.D.Model.ColorModel.of_rgb; alpha_mode = g.D.Alpha.Alpha.mode } in
    let format = g.Self.Pixel.format in
    let to = g.D.Pixel.format in
    let gamma = g.Self.Gamma.Gamma-2.mode in
    let to_gamma = g.D.Gamma.Gamma.mode in
    let v = g.Self.Chan.Channel.number in
    let w = g.D.Chan.Channel.number in
    let four = c.into_four-red.result in
    let r = v four.0 in
    let b = v four.1 in
    let e = v four.2 in
    let a = v four.3 in
    let red = w c.reencoded_color-red.result in
    let green = w c.reencoded_color-green.result in
    let blue = w c.reencoded_color-blue.result in
    let alpha = w c.at_depth-alpha.result in
    let pixel = g.Self.Pixel.numbers c.args.self in
    let made = g.D.Pixel.numbers c.from_four.result in
    converted_other format to own to_own gamma to_gamma pixel made g.met.Self.Pixel.formatted g.met.D.Pixel.formatted kinds
    (across_is format to own to_own gamma to_gamma pixel (r ∷ b ∷ e ∷ a ∷ []) (red ∷ green ∷ blue ∷ alpha ∷ []) made g.met.Self.Pixel.formatted g.met.D.Pixel.formatted
    c.into_four-red.ensures
    (told_is own to_own gamma to_gamma r b e a red green blue alpha c.at_depth-alpha.ensures c.reencoded_color-red.ensures c.reencoded_color-green.ensures c.reencoded_color-blue.ensures)
    c.from_four.ensures)

pub returns-then-KIND : goal.returns-then-KIND
returns-then-KIND g c =
    let own : Format = record { layout = record { max = g.Self.Chan.Channel.max; count = g.Self.Pixel.layout.count; hues = g.Self.Model.ColorModel.CIRCULAR; alpha = g.Self.Model.ColorModel.ALPHA }; kind = g.Self.Model.ColorModel.KIND; colors = g.Self.Model.ColorModel.LINEAR; to_rgb = g.Self.Model.ColorModel.to_rgb; of_rgb = g.Self.Model.ColorModel.of_rgb; alpha_mode = g.Self.Alpha.Alpha.mode } in
    let to_own : Format = record { layout = record { max = g.D.Chan.Channel.max; count = g.D.Pixel.layout.count; hues = g.D.Model.ColorModel.CIRCULAR; alpha = g.D.Model.ColorModel.ALPHA }; kind = g.D.Model.ColorModel.KIND; colors = g.D.Model.ColorModel.LINEAR; to_rgb = g.D.Model.ColorModel.to_rgb; of_rgb = g.D.Model.ColorModel.of_rgb; alpha_mode = g.D.Alpha.Alpha.mode } in
    converted_same g.Self.Pixel.format g.D.Pixel.format own to_own g.Self.Gamma.Gamma-2.mode g.D.Gamma.Gamma.mode (g.Self.Pixel.numbers c.args.self) (g.D.Pixel.numbers c.converted_within.result) g.met.Self.Pixel.formatted g.met.D.Pixel.formatted
    (sym c.KIND.ensures ∙ c.if-KIND.true ∙ c.KIND-2.ensures) c.converted_within.ensures
