-- Formats that are known only at run time, by their parts.
use Rattle.std.specs.Prelude.{◌≡◌, ℕ, ◌+◌, ◌*◌, ◌<◌, List, slice_range, Bool, nat_le, ◌&&◌, if◌then◌else◌}
use Rattle.pix_chan.specs.Modes.{AlphaMode, Straight, Premultiplied, GammaMode, Linear, Srgb}
use Rattle.pix_el.specs.Pixel.{channel}
use Rattle.pix_el.specs.Model.{row}
use Rattle.pix_el.specs.Conversion.{Format}
use Rattle.pix_bytes.specs.Models.{model_of}
use Rattle.pix_bytes.specs.BitmapFormats.{StoredFormat, format_with, stored_with, sample_size, samples, padded}
use Rattle.pix_bytes.specs.declared.bitmap.format.Depth.{Depth}
use Rattle.pix_bytes.specs.declared.bitmap.format.Depth.TheVariants.{Srgb8, Linear8, Linear16}
use Rattle.pix_bytes.specs.declared.bitmap.format.FormatParts.{FormatParts}

-- the alpha mode
abbrev pub alpha_mode_of : Bool → AlphaMode
alpha_mode_of is_premultiplied = if is_premultiplied then Premultiplied else Straight

-- the maximum of channels of a depth, and their gamma mode
abbrev pub max_of : Depth → ℕ
max_of Srgb8 = 255
max_of Linear8 = 255
max_of Linear16 = 65535

abbrev pub gamma_of : Depth → GammaMode
gamma_of Srgb8 = Srgb
gamma_of Linear8 = Linear
gamma_of Linear16 = Linear

-- the format of its parts, with channels up to a maximum
abbrev pub format_at : ℕ → FormatParts → Format
format_at max stored = format_with max (model_of stored.model) stored.count (alpha_mode_of stored.is_premultiplied)

-- the format of its parts
abbrev pub stored_of : FormatParts → StoredFormat
stored_of stored =
    stored_with (max_of stored.depth) (model_of stored.model) stored.count (alpha_mode_of stored.is_premultiplied) (gamma_of stored.depth) stored.spare

-- The parts of two formats that decide how a pixel is converted within a color model: the maxima of
-- both, how many channels the other has, the channel numbers of its colors, which the alpha
-- follows, and the alpha modes of both.
pub record IsStep (format to : Format) (max to_max count first end : ℕ) (mode to_mode : AlphaMode) : Type 0 where
  pub from_max : format.layout.max ≡ max
  pub from_mode : format.alpha_mode ≡ mode
  pub max_is : to.layout.max ≡ to_max
  pub count_is : to.layout.count ≡ count
  pub colors_are : to.colors ≡ record { start = first; end = end }
  pub alpha_is : to.layout.alpha ≡ end
  pub mode_is : to.alpha_mode ≡ to_mode

-- a pixel has at most four samples, and no more channels than its model
abbrev pub is_sound : FormatParts → Bool
is_sound stored = nat_le (stored.count + stored.spare) 4 && nat_le stored.count ((row (model_of stored.model)).alpha + 1)

-- two pixels have the same channels; one that is missing is the maximum
abbrev pub IsSame : ℕ → List ℕ → List ℕ → Type 0
IsSame max p q = (ch : ℕ) → channel max p ch ≡ channel max q ch

-- each of so many pixels of `to_size` bytes has `all` samples: those of f of the first channels of
-- the source's pixel of `size` bytes
abbrev pub IsEach : (max to_max from_count all size to_size : ℕ) → (List ℕ → List ℕ) → (src dst : List ℕ) → (count : ℕ) → Type 0
IsEach max to_max from_count all size to_size f src dst count =
    (index : ℕ) → index < count → samples to_max all (slice_range dst (index * to_size) (index * to_size + to_size))
    ≡ padded to_max all (f (samples max from_count (slice_range src (index * size) (index * size + size))))

-- so many pixels of a row are what `makes` makes, between both formats, of those of the source, with
-- channels up to these maxima
abbrev pub IsRow : (max to_max : ℕ) → (Format → Format → List ℕ → List ℕ) → FormatParts → FormatParts → (count : ℕ) → (src dst : List ℕ) → Type 0
IsRow max to_max makes from to count src dst =
    IsEach max to_max from.count (to.count + to.spare) ((from.count + from.spare) * sample_size max) ((to.count + to.spare) * sample_size to_max)
    (makes (format_at max from) (format_at to_max to)) src dst count
