use Rattle.std.proofs.Common.{◌+◌, ◌∙◌, ap, sym, refl, List, ℕ}
use Rattle.pix_chan.specs.Modes.{Linear}
use Rattle.pix_chan.specs.declared.chan.bits8.Ch8.{Ch8}
use Rattle.pix_el.specs.Conversion.{Format, converted}
use Rattle.pix_el.specs.Light.{in_light}
use Rattle.pix_bytes.specs.Bitmap.{light_format}
use Rattle.pix_bytes.specs.FourChannels.{as_list}
use Rattle.pix_bytes.specs.Models.{model_of}
use Rattle.pix_bytes.specs.Rows.{IsStep, alpha_mode_of, format_at}
use Rattle.pix_bytes.specs.BitmapFormats.{format_with}
use Rattle.pix_bytes.proofs.FourChannels.{same_in_light}
use Rattle.pix_bytes.proofs.bitmap.pixel_conversion.IntoLightPixelConversionCh8Ch16.go.Goals as goal

pub returns : goal.returns
returns c = λ q same.
    let format : Format = format_at 255 c.args.from in
    let to : Format = format_at 65535 c.args.to in
    let mode = alpha_mode_of c.args.to.is_premultiplied in
    let light : Format = light_format format mode in
    let s = c.between.result in
    let is = c.between.ensures in
    let step : IsStep format light 255 65535 s.count s.first s.end (alpha_mode_of s.is_premultiplied) (alpha_mode_of s.to_premultiplied) = record {
      from_max = refl;
      from_mode = ap alpha_mode_of (sym is.from_mode);
      max_is = refl;
      count_is = ap (λ (n : ℕ). n + 1) (sym c.places-end.ensures.alpha) ∙ sym is.count;
      colors_are = rw (is.first, is.end) refl;
      alpha_is = sym is.alpha;
      mode_is = ap alpha_mode_of (sym is.to_mode);
    } in
    let p : List ℕ = as_list (λ (x : Ch8). x.value) c.args.pixel in
    c.go.ensures (in_light format light p) (c.decoded-pixel.ensures format light step)
    ∙ ap (λ (n : ℕ). converted (format_with 65535 (model_of c.args.from.model) (n + 1) mode) Linear to Linear (in_light format light p)) c.places-end.ensures.alpha
    ∙ ap (converted light Linear to Linear) (same_in_light format light p q same)
