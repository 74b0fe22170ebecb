-- The composite of two pixels, and of a pixel through a matte.
use Rattle.std.specs.Prelude.{ℕ, List, map, if◌then◌else◌}
use Rattle.std.specs.List.{range_with_len}
use Rattle.pix_ops.specs.declared.ops.Op.{Op}
use Rattle.pix_chan.specs.Product.{channel_product}
use Rattle.pix_ops.specs.Composite.{channel_composite}
use Rattle.pix_ops.specs.Hue.{hue_composite}
use Rattle.pix_el.specs.declared.el.Pix.{Pix}
use Rattle.pix_el.specs.Pixel.{Layout, is_hue, channel, alpha_of}

-- the source's channel of a number, of alpha sa, composited with the destination's, of alpha da: a
-- hue along the shorter arc
abbrev pub composite_at : Layout → Op → ℕ → ℕ → List ℕ → List ℕ → ℕ → ℕ
composite_at layout op sa da source dest ch =
    if is_hue layout ch
    then hue_composite layout.max op (channel layout.max source ch) sa (channel layout.max dest ch) da
    else channel_composite layout.max op (channel layout.max source ch) sa (channel layout.max dest ch) da

-- each channel of the source, of alpha sa, composited with the destination's of the same number, of
-- alpha da
abbrev pub channels_composite : Layout → Op → ℕ → ℕ → List ℕ → List ℕ → List ℕ
channels_composite layout op sa da source dest = map (composite_at layout op sa da source dest) (range_with_len 0 layout.count)

-- the pixel `source` composited with `dest`, by their alphas from before
abbrev pub pixel_composite : Layout → Op → List ℕ → List ℕ → List ℕ
pixel_composite layout op source dest = channels_composite layout op (alpha_of layout source) (alpha_of layout dest) source dest

-- the source's channel of a number, multiplied by the matte; a hue as it is
abbrev pub matted_at : Layout → ℕ → List ℕ → ℕ → ℕ
matted_at layout matte source ch =
    if is_hue layout ch then channel layout.max source ch else channel_product layout.max (channel layout.max source ch) matte

-- the matted color: the color `source` multiplied by a matte
abbrev pub matted_color : Layout → ℕ → List ℕ → List ℕ
matted_color layout matte source = map (matted_at layout matte source) (range_with_len 0 layout.count)

-- the pixel `source` composited through a matte with `dest`: the matted color composited
abbrev pub matted_composite : Layout → Op → ℕ → List ℕ → List ℕ → List ℕ
matted_composite layout op matte source dest = pixel_composite layout op (matted_color layout matte source) dest

-- the numbers of the channels of a matte
abbrev pub matte_numbers : {N : ℕ} {C M A G : Type 0} → (C → ℕ) → Pix N C M A G → List ℕ
matte_numbers number matte = map number matte.channels

-- the value of a matte: its one channel
abbrev pub matte_value : Layout → List ℕ → ℕ
matte_value layout matte = channel layout.max matte 0
