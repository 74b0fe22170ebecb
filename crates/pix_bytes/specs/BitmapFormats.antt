-- The formats of bitmaps, by number: pixels of every format, as they lie in bytes.
use Rattle.std.specs.Prelude.{ℕ, ◌+◌, ◌*◌, List, [], ◌∷◌, ◌++◌, map, slice_get, slice_index_or, slice_range, nat_eq, if◌then◌else◌}
use Rattle.std.specs.List.{range_with_len}
use Rattle.std.specs.Option.{option_map_or}
use Rattle.pix_chan.specs.Modes.{AlphaMode, Straight, Premultiplied, GammaMode, Linear, Srgb}
use Rattle.pix_el.specs.Pixel.{channel}
use Rattle.pix_el.specs.Model.{Model, Rgb, Gray, Matte, Hsv, Hsl, Hwb, Bgr, Cmy, YCbCr, Xyz, row}
use Rattle.pix_el.specs.Color.{rgb_itself, rgb_of_matte, matte_of_rgb}
use Rattle.pix_el.specs.Conversion.{Format}
use Rattle.pix_color.specs.Bgr.{reversed}
use Rattle.pix_color.specs.Cmy.{complements}
use Rattle.pix_color.specs.Gray.{rgb_of_gray, gray_of_rgb}
use Rattle.pix_color.specs.Hsv.{rgb_of_hsv, hsv_of_rgb}
use Rattle.pix_color.specs.Hsl.{rgb_of_hsl, hsl_of_rgb}
use Rattle.pix_color.specs.Hwb.{rgb_of_hwb, hwb_of_rgb}
use Rattle.pix_color.specs.YCbCr.{rgb_of_ycc, ycc_of_rgb}
use Rattle.pix_color.specs.Xyz.{rgb_of_xyz, xyz_of_rgb}
use Rattle.pix_bytes.specs.Formats.{BufferFormat, layout_of, formats}

-- a format as it lies in memory, and how many samples of a pixel follow its channels: they are not
-- read, and are written as the maximum
pub record StoredFormat : Type 0 where
  pub buffer : BufferFormat
  pub spare : ℕ

-- the formula of a color model into red, green and blue
abbrev pub into_rgb : Model → ℕ → ℕ → ℕ → ℕ → List ℕ
into_rgb Rgb = rgb_itself
into_rgb Gray = rgb_of_gray
into_rgb Matte = rgb_of_matte
into_rgb Hsv = rgb_of_hsv
into_rgb Hsl = rgb_of_hsl
into_rgb Hwb = rgb_of_hwb
into_rgb Bgr = reversed
into_rgb Cmy = complements
into_rgb YCbCr = rgb_of_ycc
into_rgb Xyz = rgb_of_xyz

-- the formula of a color model from red, green and blue
abbrev pub out_of_rgb : Model → ℕ → ℕ → ℕ → ℕ → List ℕ
out_of_rgb Rgb = rgb_itself
out_of_rgb Gray = gray_of_rgb
out_of_rgb Matte = matte_of_rgb
out_of_rgb Hsv = hsv_of_rgb
out_of_rgb Hsl = hsl_of_rgb
out_of_rgb Hwb = hwb_of_rgb
out_of_rgb Bgr = reversed
out_of_rgb Cmy = complements
out_of_rgb YCbCr = ycc_of_rgb
out_of_rgb Xyz = xyz_of_rgb

-- the format of so many channels of a color model up to a maximum, in an alpha mode
abbrev pub format_with : (max : ℕ) → Model → (count : ℕ) → AlphaMode → Format
format_with max model count alpha_mode = record {
  layout = layout_of max count model;
  kind = (row model).kind;
  colors = (row model).colors;
  to_rgb = into_rgb model;
  of_rgb = out_of_rgb model;
  alpha_mode = alpha_mode;
}

-- the same in memory, with a number of samples after the channels
abbrev pub stored_with : (max : ℕ) → Model → (count : ℕ) → AlphaMode → GammaMode → (spare : ℕ) → StoredFormat
stored_with max model count alpha_mode gamma spare =
    record { buffer = record { format = format_with max model count alpha_mode; gamma = gamma }; spare = spare }

-- channels of eight bits, linear or encoded by the sRGB curve, and linear ones of sixteen, with
-- nothing after them
abbrev pub linear8 : Model → ℕ → AlphaMode → StoredFormat
linear8 model count alpha_mode = stored_with 255 model count alpha_mode Linear 0

abbrev pub srgb8 : Model → ℕ → AlphaMode → StoredFormat
srgb8 model count alpha_mode = stored_with 255 model count alpha_mode Srgb 0

abbrev pub linear16 : Model → ℕ → AlphaMode → StoredFormat
linear16 model count alpha_mode = stored_with 65535 model count alpha_mode Linear 0

-- the six linear formats of a model of three colors, such as Hsv8, Hsva8, Hsva8p, Hsv16, Hsva16 and
-- Hsva16p
abbrev pub six : Model → List StoredFormat
six model =
    linear8 model 3 Straight ∷ linear8 model 4 Straight ∷ linear8 model 4 Premultiplied
    ∷ linear16 model 3 Straight ∷ linear16 model 4 Straight ∷ linear16 model 4 Premultiplied ∷ []

-- its three sRGB formats, such as SHsv8, SHsva8 and SHsva8p
abbrev pub three : Model → List StoredFormat
three model = srgb8 model 3 Straight ∷ srgb8 model 4 Straight ∷ srgb8 model 4 Premultiplied ∷ []

-- the formats of red, green, blue and gray that are not among the first twelve, and the mattes:
-- Rgba16, Rgba16p, Rgb16, Bgra16, Bgra16p, Bgr16, Bgr8, SBgr8, Graya8, Graya8p, SGraya8, SGraya8p,
-- Gray16, Graya16, Graya16p, Matte8 and Matte16
abbrev pub common : List StoredFormat
common =
    linear16 Rgb 4 Straight ∷ linear16 Rgb 4 Premultiplied ∷ linear16 Rgb 3 Straight
    ∷ linear16 Bgr 4 Straight ∷ linear16 Bgr 4 Premultiplied ∷ linear16 Bgr 3 Straight
    ∷ linear8 Bgr 3 Straight ∷ srgb8 Bgr 3 Straight
    ∷ linear8 Gray 2 Straight ∷ linear8 Gray 2 Premultiplied ∷ srgb8 Gray 2 Straight ∷ srgb8 Gray 2 Premultiplied
    ∷ linear16 Gray 1 Straight ∷ linear16 Gray 2 Straight ∷ linear16 Gray 2 Premultiplied
    ∷ linear8 Matte 1 Premultiplied ∷ linear16 Matte 1 Premultiplied ∷ []

-- formats of three colors in four bytes, where the last is not read and is written as 255: SRgbx8,
-- SBgrx8, Rgbx8 and Bgrx8
abbrev pub opaque : List StoredFormat
opaque =
    stored_with 255 Rgb 3 Straight Srgb 1 ∷ stored_with 255 Bgr 3 Straight Srgb 1
    ∷ stored_with 255 Rgb 3 Straight Linear 1 ∷ stored_with 255 Bgr 3 Straight Linear 1 ∷ []

-- all formats in the order of their numbers: the twelve of buffers, `common`, those of Cmy, Hsv,
-- Hsl, Hwb, YCbCr and Xyz, and the opaque ones
abbrev pub stored_formats : List StoredFormat
stored_formats =
    map (λ buffer. record { buffer = buffer; spare = 0 }) formats ++ (common
    ++ (six Cmy ++ (three Cmy ++ (six Hsv ++ (three Hsv ++ (six Hsl ++ (three Hsl ++ (six Hwb ++ (three Hwb
    ++ (six YCbCr ++ (six Xyz ++ opaque)))))))))))

-- how many bytes a sample has: one up to 255, and else two
abbrev pub sample_size : ℕ → ℕ
sample_size max = if nat_eq max 255 then 1 else 2

-- the sample of a number in the bytes of a pixel: a byte, or two of sixteen bits, the lower first
abbrev pub sample_at : ℕ → List ℕ → ℕ → ℕ
sample_at max bytes number =
    if nat_eq max 255 then slice_index_or bytes number 0
    else slice_index_or bytes (2 * number) 0 + 256 * slice_index_or bytes (2 * number + 1) 0

-- the first samples in the bytes of a pixel
abbrev pub samples : ℕ → ℕ → List ℕ → List ℕ
samples max count bytes = map (sample_at max bytes) (range_with_len 0 count)

-- how many channels a pixel has, and how many samples in memory
abbrev pub channel_count : StoredFormat → ℕ
channel_count stored = stored.buffer.format.layout.count

abbrev pub sample_count : StoredFormat → ℕ
sample_count stored = channel_count stored + stored.spare

-- the maximum of its channels
abbrev pub maximum : StoredFormat → ℕ
maximum stored = stored.buffer.format.layout.max

-- how many bytes a pixel has
abbrev pub pixel_size : StoredFormat → ℕ
pixel_size stored = sample_count stored * sample_size (maximum stored)

-- how many bytes a pixel of the format of a number has, and 0 where there is no such format
abbrev pub pixel_size_of : ℕ → ℕ
pixel_size_of number = option_map_or pixel_size (slice_get stored_formats number) 0

-- the bytes of the pixel of an index in a row
abbrev pub bytes_at : StoredFormat → List ℕ → ℕ → List ℕ
bytes_at stored bytes index = slice_range bytes (index * pixel_size stored) (index * pixel_size stored + pixel_size stored)

-- the channels that are read in the bytes of a pixel
abbrev pub channels_read : StoredFormat → List ℕ → List ℕ
channels_read stored bytes = samples (maximum stored) (channel_count stored) bytes

-- a number of samples of these channels: after the channels the maximum
abbrev pub padded : (max count : ℕ) → List ℕ → List ℕ
padded max count channels = map (channel max channels) (range_with_len 0 count)

-- all samples in the bytes of a pixel, and those of these channels
abbrev pub all_samples : StoredFormat → List ℕ → List ℕ
all_samples stored bytes = samples (maximum stored) (sample_count stored) bytes

abbrev pub samples_of : StoredFormat → List ℕ → List ℕ
samples_of stored channels = padded (maximum stored) (sample_count stored) channels
