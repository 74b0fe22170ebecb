-- The formats of pixels in buffers of bytes, by number.
use Rattle.std.specs.Prelude.{ℕ, List, [], ◌∷◌, slice_get}
use Rattle.std.specs.Option.{option_map_or}
use Rattle.pix_chan.specs.Modes.{AlphaMode, Straight, Premultiplied, GammaMode, Linear, Srgb}
use Rattle.pix_el.specs.Pixel.{Layout}
use Rattle.pix_el.specs.Model.{Model, Rgb, Bgr, Gray, row}
use Rattle.pix_el.specs.Color.{rgb_itself}
use Rattle.pix_el.specs.Conversion.{Format}
use Rattle.pix_color.specs.Bgr.{reversed}
use Rattle.pix_color.specs.Gray.{rgb_of_gray, gray_of_rgb}

-- the layout of so many channels up to a maximum, as a color model has them
abbrev pub layout_of : (max count : ℕ) → Model → Layout
layout_of max count model = record { max = max; count = count; hues = (row model).hues; alpha = (row model).alpha }

-- a format with its gamma mode
pub record BufferFormat : Type 0 where
  pub format : Format
  pub gamma : GammaMode

-- how many channels a pixel has
abbrev pub channels : BufferFormat → ℕ
channels buffer = buffer.format.layout.count

-- the format of a color model, its formulas into red, green and blue and from them, a number of
-- channels of eight bits, and both modes
abbrev pub bytes_of : Model → (ℕ → ℕ → ℕ → ℕ → List ℕ) → (ℕ → ℕ → ℕ → ℕ → List ℕ) → ℕ → AlphaMode → GammaMode → BufferFormat
bytes_of model to_rgb of_rgb count alpha_mode gamma = record {
  format = record {
    layout = layout_of 255 count model;
    kind = (row model).kind;
    colors = (row model).colors;
    to_rgb = to_rgb;
    of_rgb = of_rgb;
    alpha_mode = alpha_mode;
  };
  gamma = gamma;
}

-- red, green and blue, with an alpha where there are four channels
abbrev pub rgb : ℕ → AlphaMode → GammaMode → BufferFormat
rgb = bytes_of Rgb rgb_itself rgb_itself

-- blue, green and red, with an alpha where there are four channels
abbrev pub bgr : ℕ → AlphaMode → GammaMode → BufferFormat
bgr = bytes_of Bgr reversed reversed

-- gray
abbrev pub gray : ℕ → AlphaMode → GammaMode → BufferFormat
gray = bytes_of Gray rgb_of_gray gray_of_rgb

-- the formats in the order of their numbers, from 0 on: SRgba8, SRgba8p, Rgba8, Rgba8p, Bgra8,
-- Bgra8p, Rgb8, Gray8, SBgra8, SBgra8p, SRgb8 and SGray8
abbrev pub formats : List BufferFormat
formats =
    rgb 4 Straight Srgb
    ∷ rgb 4 Premultiplied Srgb
    ∷ rgb 4 Straight Linear
    ∷ rgb 4 Premultiplied Linear
    ∷ bgr 4 Straight Linear
    ∷ bgr 4 Premultiplied Linear
    ∷ rgb 3 Straight Linear
    ∷ gray 1 Straight Linear
    ∷ bgr 4 Straight Srgb
    ∷ bgr 4 Premultiplied Srgb
    ∷ rgb 3 Straight Srgb
    ∷ gray 1 Straight Srgb
    ∷ []

-- how many channels a pixel of the format of a number has, and 0 where there is no such format
abbrev pub channels_of : ℕ → ℕ
channels_of number = option_map_or channels (slice_get formats number) 0
