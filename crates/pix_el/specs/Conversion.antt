-- How a pixel of one format is converted to another.
use Rattle.std.specs.Prelude.{ℕ, List, map, take, nat_eq, if◌then◌else◌}
use Rattle.std.specs.List.{range_with_len}
use Rattle.std.specs.declared.ops.Range.{Range}
use Rattle.pix_chan.specs.Depth.{to_16_bit, from_16_bit}
use Rattle.pix_chan.specs.Modes.{AlphaMode, alpha_kind, alpha_encoded, alpha_decoded, GammaMode, gamma_kind, to_linear, from_linear}
use Rattle.pix_el.specs.Pixel.{Layout, lies_in, channel, alpha_of}
use Rattle.pix_el.specs.Color.{rgba_of, of_rgba}

-- a format without its gamma mode: the layout of its channels, the `KIND` of its color model, the
-- channel numbers of the colors that are not hues, the model's formulas into red, green and blue
-- and from them, and the alpha mode
pub record Format : Type 0 where
  pub layout : Layout
  pub kind : ℕ
  pub colors : Range ℕ
  pub to_rgb : ℕ → ℕ → ℕ → ℕ → List ℕ
  pub of_rgb : ℕ → ℕ → ℕ → ℕ → List ℕ
  pub alpha_mode : AlphaMode

-- a channel at another depth, through sixteen bits
abbrev pub at_depth : ℕ → ℕ → ℕ → ℕ
at_depth max to_max x = from_16_bit to_max (to_16_bit max x)

-- a pixel at the depth of another format: a channel that is missing is the maximum, and one that is
-- left over is dropped
abbrev pub of_depth : Layout → Layout → List ℕ → List ℕ
of_depth layout to pixel = map (λ ch. at_depth layout.max to.max (channel layout.max pixel ch)) (range_with_len 0 to.count)

-- a color channel x at an alpha, where alpha mode or gamma mode differ: to linear, from the one
-- alpha mode to the other, from linear
abbrev pub reencoded : ℕ → AlphaMode → GammaMode → AlphaMode → GammaMode → ℕ → ℕ → ℕ
reencoded max mode gamma to_mode to_gamma alpha x =
    if nat_eq (alpha_kind mode) (alpha_kind to_mode)
    then (if nat_eq (gamma_kind gamma) (gamma_kind to_gamma) then x else from_linear to_gamma (to_linear gamma x))
    else from_linear to_gamma (alpha_encoded to_mode max (alpha_decoded mode max (to_linear gamma x) alpha) alpha)

-- the channel of a number of a pixel that has its depth: a color that is no hue is re-encoded at
-- the alpha, and any other stays
abbrev pub channel_reencoded : Format → GammaMode → Format → GammaMode → List ℕ → ℕ → ℕ
channel_reencoded format gamma to to_gamma pixel ch =
    if lies_in to.colors ch
    then reencoded to.layout.max format.alpha_mode gamma to.alpha_mode to_gamma (alpha_of to.layout pixel) (channel to.layout.max pixel ch)
    else channel to.layout.max pixel ch

-- within one color model: first the depth, then each channel
abbrev pub within_model : Format → GammaMode → Format → GammaMode → List ℕ → List ℕ
within_model format gamma to to_gamma pixel =
    map (channel_reencoded format gamma to to_gamma (of_depth format.layout to.layout pixel)) (range_with_len 0 to.layout.count)

-- the format of red, green, blue and alpha with the channels and the alpha mode of another
abbrev pub rgba_format : Format → Format
rgba_format format = record format {
  layout = record { max = format.layout.max; count = 4; hues = record { start = 0; end = 0 }; alpha = 3 };
  colors = record { start = 0; end = 3 };
}

-- from one color model to another: through red, green, blue and alpha, first in the source's
-- channels, then in the target's
abbrev pub across_models : Format → GammaMode → Format → GammaMode → List ℕ → List ℕ
across_models format gamma to to_gamma pixel = take to.layout.count (of_rgba to.of_rgb to.layout.max
    (within_model (rgba_format format) gamma (rgba_format to) to_gamma (rgba_of format.to_rgb format.layout.alpha format.layout.max pixel)))

-- the pixel in another format; the gamma modes are those of both formats
abbrev pub converted : Format → GammaMode → Format → GammaMode → List ℕ → List ℕ
converted format gamma to to_gamma pixel =
    if nat_eq format.kind to.kind then within_model format gamma to to_gamma pixel else across_models format gamma to to_gamma pixel
