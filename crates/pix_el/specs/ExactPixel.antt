-- How near a rounded composite of pixels is to the exact one, and how its hue moves.
use Rattle.std.specs.Prelude.{ℕ, ◌≡◌, ◌<◌, List, true}
use Rattle.pix_ops.specs.declared.ops.Op.{Op}
use Rattle.pix_ops.specs.ExactComposite.{IsNear, IsNearMatted}
use Rattle.pix_ops.specs.Hue.{hue_weight, IsHueMove}
use Rattle.pix_el.specs.Pixel.{Layout, is_hue, channel, alpha_of}
use Rattle.pix_el.specs.Premultiplied.{IsBounded}

-- each channel of `made` but a hue is near the exact composite of the channels of `source` and
-- `dest` of its number
abbrev pub IsNearExact : Layout → Op → List ℕ → List ℕ → List ℕ → Type 0
IsNearExact layout op source dest made =
    (ch : ℕ) → IsBounded layout ch
    → IsNear layout.max op (channel layout.max source ch) (alpha_of layout source) (channel layout.max dest ch) (alpha_of layout dest)
    (channel layout.max made ch)

-- the same through a matte
abbrev pub IsNearExactMatted : Layout → Op → ℕ → List ℕ → List ℕ → List ℕ → Type 0
IsNearExactMatted layout op matte source dest made =
    (ch : ℕ) → IsBounded layout ch
    → IsNearMatted layout.max op matte (channel layout.max source ch) (alpha_of layout source) (channel layout.max dest ch) (alpha_of layout dest)
    (channel layout.max made ch)

-- each hue of `made` is that of `dest`, moved along the shorter arc towards that of `source`
abbrev pub HuesMove : Layout → Op → List ℕ → List ℕ → List ℕ → Type 0
HuesMove layout op source dest made =
    (ch : ℕ) → ch < layout.count → is_hue layout ch ≡ true
    → IsHueMove layout.max (hue_weight layout.max op (alpha_of layout source) (alpha_of layout dest))
    (channel layout.max dest ch) (channel layout.max source ch) (channel layout.max made ch)
