-- Bitmaps: images of bytes in any format, whose rows lie a stride apart, from top to bottom or from
-- bottom to top.
use Rattle.std.specs.Prelude.{◌≡◌, ◌≢◌, ℕ, ◌+◌, ◌-◌, ◌*◌, ◌<◌, ℤ, List, Option, Some, slice_get, slice_index_or, slice_range, Bool, true, false, nat_eq, nat_le, ◌&&◌, ◌||◌, if◌then◌else◌}
use lib.IntN.{pos, negsuc}
use Rattle.pix_chan.specs.Modes.{AlphaMode, gamma_kind, Linear}
use Rattle.pix_el.specs.Conversion.{Format, converted}
use Rattle.pix_el.specs.Light.{in_light, as_srgb}
use Rattle.pix_bytes.specs.Formats.{BufferFormat}
use Rattle.pix_bytes.specs.BitmapFormats.{StoredFormat, pixel_size, bytes_at, channels_read, all_samples, samples_of, stored_formats}

-- whether channels have sixteen bits, and whether colors are encoded by the sRGB curve
abbrev pub is_wide : BufferFormat → Bool
is_wide buffer = nat_eq buffer.format.layout.max 65535

abbrev pub is_srgb : BufferFormat → Bool
is_srgb buffer = nat_eq (gamma_kind buffer.gamma) 1

-- the linear format of sixteen bits of the color model of another, with an alpha, in an alpha mode
abbrev pub light_format : Format → AlphaMode → Format
light_format format alpha_mode = record format {
  layout = record format.layout { max = 65535; count = format.layout.alpha + 1 };
  alpha_mode = alpha_mode;
}

-- an sRGB pixel of eight bits in light, in a linear format of sixteen: decoded within its color
-- model, and then converted to the other's
abbrev pub into_light : Format → Format → List ℕ → List ℕ
into_light format to pixel =
    converted (light_format format to.alpha_mode) Linear to Linear (in_light format (light_format format to.alpha_mode) pixel)

-- a linear pixel of sixteen bits as sRGB of eight: converted to the color model, and then encoded
abbrev pub out_of_light : Format → Format → List ℕ → List ℕ
out_of_light format to pixel =
    as_srgb (light_format to format.alpha_mode) to (converted format Linear (light_format to format.alpha_mode) Linear pixel)

-- a pixel in another format: between sRGB of eight bits and channels of sixteen through light, and
-- else as converted
abbrev pub crossed : BufferFormat → BufferFormat → List ℕ → List ℕ
crossed from to pixel =
    if is_srgb from && is_wide to then into_light from.format to.format pixel
    else (if is_wide from && is_srgb to then out_of_light from.format to.format pixel
    else converted from.format from.gamma to.format to.gamma pixel)

-- each of so many pixels of a row is that of the source of the same index, in the other format
pub record IsConvertedBitmap (from to : StoredFormat) (count : ℕ) (src dst : List ℕ) : Type 0 where
  pub each : (index : ℕ) → index < count → all_samples to (bytes_at to dst index)
      ≡ samples_of to (crossed from.buffer to.buffer (channels_read from (bytes_at from src index)))

-- how many bytes the rows of a stride lie apart, and whether they go from bottom to top, as those
-- of a negative stride do
abbrev pub distance : ℤ → ℕ
distance (pos bytes) = bytes
distance (negsuc bytes) = bytes + 1

abbrev pub is_upward : ℤ → Bool
is_upward (pos bytes) = false
is_upward (negsuc bytes) = true

-- where row y starts in the bytes of an image, which start with the row that is lowest in memory:
-- the last row, where they go from bottom to top
abbrev pub row_start : ℤ → (height y : ℕ) → ℕ
row_start stride height y = (if is_upward stride then height - 1 - y else y) * distance stride

-- the bytes of row y, which has `wide` bytes
abbrev pub row_at : ℤ → (height wide : ℕ) → List ℕ → ℕ → List ℕ
row_at stride height wide bytes y = slice_range bytes (row_start stride height y) (row_start stride height y + wide)

-- the place is that of no byte of a row of so many bytes
abbrev pub IsBeside : ℤ → (height wide place : ℕ) → Type 0
IsBeside stride height wide place = (x y : ℕ) → x < wide → y < height → row_start stride height y + x ≢ place

-- A bitmap that was written from another.
pub record IsBitmapOf (from to : StoredFormat) (width height : ℕ) (src_stride dst_stride : ℤ) (src old new : List ℕ) : Type 0 where
  -- each pixel is that of the source at its point, in the other format
  pub rows : (y : ℕ) → y < height → IsConvertedBitmap from to width
      (row_at src_stride height (width * pixel_size from) src y) (row_at dst_stride height (width * pixel_size to) new y)
  -- bytes between the rows and after them stay as they are
  pub stays : (place : ℕ) → IsBeside dst_stride height (width * pixel_size to) place
      → slice_index_or new place 0 ≡ slice_index_or old place 0

-- the greatest width and height
abbrev pub limit : ℕ
limit = 2147483647

-- whether the rows of a bitmap, of so many bytes each, lie in its bytes and share none; none is
-- needed after the last row
abbrev pub is_held : (width height wide : ℕ) → ℤ → (count : ℕ) → Bool
is_held width height wide stride count =
    nat_le width limit && (nat_le height limit && (nat_le wide (distance stride)
    && (nat_eq height 0 || nat_le ((height - 1) * distance stride + wide) count)))

-- the status of a bitmap that is written from another: 6 where a format is missing, 1 where it is
-- not held in its bytes, 5 where the source is not, and else 0
abbrev pub formats_bitmap_status : Option StoredFormat → Option StoredFormat → (width height : ℕ) → (src_stride dst_stride : ℤ) → (src dst : ℕ) → ℕ
formats_bitmap_status (Some from) (Some to) width height src_stride dst_stride src dst =
    if is_held width height (width * pixel_size to) dst_stride dst
    then (if is_held width height (width * pixel_size from) src_stride src then 0 else 5) else 1
formats_bitmap_status from to width height src_stride dst_stride src dst = 6

abbrev pub bitmap_status : (from to width height : ℕ) → (src_stride dst_stride : ℤ) → (src dst : ℕ) → ℕ
bitmap_status from to = formats_bitmap_status (slice_get stored_formats from) (slice_get stored_formats to)
