-- sRGB pixels of eight bits in linear light of sixteen, and back, within one color model.
use Rattle.std.specs.Prelude.{ℕ, List, map, nat_eq, if◌then◌else◌}
use Rattle.std.specs.List.{range_with_len}
use Rattle.pix_chan.specs.Modes.{AlphaMode, alpha_kind, alpha_encoded, alpha_decoded}
use Rattle.pix_chan.specs.Srgb16.{srgb_decoded16, srgb_encoded8}
use Rattle.pix_el.specs.Pixel.{lies_in, channel}
use Rattle.pix_el.specs.Conversion.{Format, at_depth}

-- a linear color channel from one alpha mode to another, at an alpha
abbrev pub mode_changed : ℕ → AlphaMode → AlphaMode → ℕ → ℕ → ℕ
mode_changed max mode to_mode alpha x =
    if nat_eq (alpha_kind mode) (alpha_kind to_mode) then x else alpha_encoded to_mode max (alpha_decoded mode max x alpha) alpha

-- the channel of a number in light: a color that is no hue is decoded by the curve, and then taken
-- to the alpha mode at the alpha of sixteen bits; any other keeps its fraction
abbrev pub channel_in_light : Format → Format → List ℕ → ℕ → ℕ
channel_in_light format to pixel ch =
    if lies_in to.colors ch
    then mode_changed to.layout.max format.alpha_mode to.alpha_mode
    (at_depth format.layout.max to.layout.max (channel format.layout.max pixel to.layout.alpha)) (srgb_decoded16 (channel format.layout.max pixel ch))
    else at_depth format.layout.max to.layout.max (channel format.layout.max pixel ch)

-- the channel of a number of a pixel in light, as sRGB: a color that is no hue is taken to the
-- alpha mode at the alpha of sixteen bits, and then encoded by the curve; any other keeps its upper
-- eight bits
abbrev pub channel_as_srgb : Format → Format → List ℕ → ℕ → ℕ
channel_as_srgb format to pixel ch =
    if lies_in to.colors ch
    then srgb_encoded8 (mode_changed format.layout.max format.alpha_mode to.alpha_mode
    (channel format.layout.max pixel to.layout.alpha) (channel format.layout.max pixel ch))
    else at_depth format.layout.max to.layout.max (channel format.layout.max pixel ch)

-- an sRGB pixel of eight bits in linear light of sixteen; a channel that it lacks is the maximum
abbrev pub in_light : Format → Format → List ℕ → List ℕ
in_light format to pixel = map (channel_in_light format to pixel) (range_with_len 0 to.layout.count)

-- a linear pixel of sixteen bits as sRGB of eight; a channel that it lacks is the maximum
abbrev pub as_srgb : Format → Format → List ℕ → List ℕ
as_srgb format to pixel = map (channel_as_srgb format to pixel) (range_with_len 0 to.layout.count)
