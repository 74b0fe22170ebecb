use Rattle.std.proofs.Common.{◌≡◌, ◌+◌, ◌∙◌, ap, sym, refl, take, List, ℕ, arith}
use Rattle.pix_chan.specs.Modes.{Linear}
use Rattle.pix_chan.specs.declared.chan.bits8.Ch8.{Ch8}
use Rattle.pix_chan.specs.declared.chan.bits16.Ch16.{Ch16}
use Rattle.pix_el.specs.Pixel.{channel}
use Rattle.pix_el.specs.Conversion.{Format, converted}
use Rattle.pix_bytes.specs.Bitmap.{light_format}
use Rattle.pix_bytes.specs.FourChannels.{as_list}
use Rattle.pix_bytes.specs.Models.{model_of}
use Rattle.pix_bytes.specs.Rows.{IsStep, alpha_mode_of, format_at}
use Rattle.pix_bytes.specs.BitmapFormats.{format_with}
use Rattle.pix_bytes.proofs.FourChannels.{channel_taken, same_as_srgb}
use Rattle.pix_bytes.proofs.bitmap.pixel_conversion.OutOfLightPixelConversionCh16Ch8.go.Goals as goal

pub returns : goal.returns
returns c = λ q same.
    let format : Format = format_at 65535 c.args.from in
    let to : Format = format_at 255 c.args.to in
    let mode = alpha_mode_of c.args.from.is_premultiplied in
    let light : Format = light_format to mode in
    let s = c.between.result in
    let is = c.between.ensures in
    let step : IsStep light to 65535 255 s.count s.first s.end (alpha_mode_of s.is_premultiplied) (alpha_mode_of s.to_premultiplied) = record {
      from_max = refl;
      from_mode = ap alpha_mode_of (sym is.from_mode);
      max_is = refl;
      count_is = sym is.count;
      colors_are = rw (is.first, is.end) refl;
      alpha_is = sym is.alpha;
      mode_is = ap alpha_mode_of (sym is.to_mode);
    } in
    let inner : List ℕ = as_list (λ (x : Ch16). x.value) c.go-pixel.result in
    let made : List ℕ = as_list (λ (x : Ch8). x.value) c.encoded.result in
    let n : ℕ = c.places-end.result.1 + 1 in
    let got : take n inner ≡ converted format Linear light Linear q =
    c.go-pixel.ensures q same ∙ ap (λ (k : ℕ). converted format Linear (format_with 65535 (model_of c.args.to.model) (k + 1) mode) Linear q) c.places-end.ensures.alpha in
    ap (λ (k : ℕ). take k made) (sym is.count)
    ∙ c.encoded.ensures light to step
    ∙ same_as_srgb light to n inner (converted format Linear light Linear q) (λ ch lt. sym (channel_taken 65535 n ch inner lt) ∙ ap (λ (l : List ℕ). channel 65535 l ch) got)
    (omega (arith, c.requires, c.places-end.ensures.alpha)) (omega (arith, c.places-end.ensures.alpha))
