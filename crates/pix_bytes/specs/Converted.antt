-- Buffers of pixels that are converted from one format to another.
use Rattle.std.specs.Prelude.{◌≡◌, ℕ, ◌+◌, ◌*◌, ◌<◌, List, Option, Some, slice_get, slice_range, nat_eq, ◌&&◌, if◌then◌else◌}
use Rattle.pix_el.specs.Conversion.{converted}
use Rattle.pix_bytes.specs.Formats.{BufferFormat, channels, formats}

-- the channels of the pixel of that index in a buffer: `wide` bytes, one a channel
abbrev pub pixel_at : ℕ → List ℕ → ℕ → List ℕ
pixel_at wide bytes index = slice_range bytes (index * wide) (index * wide + wide)

-- each pixel of an index below the count is that of the source of the same index, converted
pub record IsConverted (from to : BufferFormat) (count : ℕ) (src dst : List ℕ) : Type 0 where
  pub each : (index : ℕ) → index < count → pixel_at (channels to) dst index
      ≡ converted from.format from.gamma to.format to.gamma (pixel_at (channels from) src index)

-- the status of a conversion between two formats: 6 where one is missing, 7 where a length in bytes
-- is not that of `count` pixels, and else 0
abbrev pub formats_status : Option BufferFormat → Option BufferFormat → ℕ → ℕ → ℕ → ℕ
formats_status (Some from) (Some to) src_len dst_len count =
    if nat_eq src_len (count * channels from) && nat_eq dst_len (count * channels to) then 0 else 7
formats_status from to src_len dst_len count = 6

-- the status for the numbers of two formats
abbrev pub conversion_status : (from to src_len dst_len count : ℕ) → ℕ
conversion_status from to = formats_status (slice_get formats from) (slice_get formats to)
