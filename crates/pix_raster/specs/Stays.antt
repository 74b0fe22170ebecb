-- Transparent sources over a pixel: it stays.
use Rattle.std.specs.Prelude.{◌≡◌, ℕ, ◌<◌, Bool, true, false, List, All}
use Rattle.pix_ops.specs.declared.ops.Op.{Op}
use Rattle.pix_ops.specs.declared.ops.Op.TheVariants.{SrcOver}
use Rattle.pix_ops.specs.Operators.{Coefficient, Zero, One, OtherAlpha, OneMinusAlpha, row}
use Rattle.pix_el.specs.Pixel.{Layout}
use Rattle.pix_el.specs.Transparent.{IsTransparent, IsUnchanged}
use Rattle.pix_raster.specs.Image.{Image, point, region_of}
use Rattle.pix_raster.specs.Run.{Effect, Cleared, Copied, Composited, Matted, effects_at}
use Rattle.pix_raster.specs.declared.command.Command.{Command}

-- the effect composites a transparent source with `SrcOver`, as it is or through a matte
abbrev pub IsTransparentOver : Layout → Effect → Type 0
IsTransparentOver layout Cleared = ⊥
IsTransparentOver layout (Copied source) = ⊥
IsTransparentOver layout (Composited op source) = (op ≡ SrcOver) × IsTransparent layout source
IsTransparentOver layout (Matted op matte source) = (op ≡ SrcOver) × IsTransparent layout source

-- a pixel that only such effects reach stays as it was
abbrev pub StaysUnderTransparent : {P M : Type 0} → Layout → (P → List ℕ) → (M → List ℕ) → List (Command P M) → (old new : Image P) → Type 0
StaysUnderTransparent layout numbers mattes commands old new =
    (x y : ℕ) → x < old.width → y < old.height → All (IsTransparentOver layout) (effects_at numbers mattes (region_of old) commands x y)
    → IsUnchanged layout (point numbers old x y) (point numbers new x y)

-- whether a coefficient is one where the other side's alpha is 0
abbrev pub is_one_at_none : Coefficient → Bool
is_one_at_none Zero = false
is_one_at_none One = true
is_one_at_none OtherAlpha = false
is_one_at_none OneMinusAlpha = true

-- whether an operator keeps a pixel under a transparent source, as the destination's coefficient
-- tells
abbrev pub keeps_under : Op → Bool
keeps_under op = is_one_at_none (row op).dest
