-- What a run of premultiplied sources keeps.
use Rattle.std.specs.Prelude.{IsTrue, ℕ, ◌<◌, List, [], ◌∷◌, All, ⊤}
use Rattle.pix_ops.specs.Operators.{sum_fits}
use Rattle.pix_el.specs.Pixel.{Layout}
use Rattle.pix_el.specs.PixelComposite.{matted_color, matte_value}
use Rattle.pix_el.specs.Premultiplied.{IsPremultiplied, IsUncut}
use Rattle.pix_raster.specs.Image.{Image, point, region_of}
use Rattle.pix_raster.specs.Run.{Effect, Cleared, Copied, Composited, Matted, effects_at, apply}
use Rattle.pix_raster.specs.declared.command.Command.{Command}

-- the color or the source pixel that an effect brings is premultiplied
abbrev pub BringsPremultiplied : Layout → Effect → Type 0
BringsPremultiplied layout Cleared = ⊤
BringsPremultiplied layout (Copied source) = IsPremultiplied layout source
BringsPremultiplied layout (Composited op source) = IsPremultiplied layout source
BringsPremultiplied layout (Matted op matte source) = IsPremultiplied layout source

-- the effect on a pixel cuts no sum of terms of an operator whose sums fit: of all but `Plus`
abbrev pub CutsNoSum : Layout → List ℕ → Effect → Type 0
CutsNoSum layout pixel Cleared = ⊤
CutsNoSum layout pixel (Copied source) = ⊤
CutsNoSum layout pixel (Composited op source) = IsTrue (sum_fits op) → IsUncut layout op source pixel
CutsNoSum layout pixel (Matted op matte source) = IsTrue (sum_fits op) → IsUncut layout op (matted_color layout (matte_value layout matte) source) pixel

-- none of the effects does, each on the pixel that those before it left
abbrev pub CutNoSum : Layout → List ℕ → List Effect → Type 0
CutNoSum layout pixel [] = ⊤
CutNoSum layout pixel (effect ∷ effects) = CutsNoSum layout pixel effect × CutNoSum layout (apply layout pixel effect) effects

-- the effects on a pixel leave a premultiplied one, and cut no sum of an operator whose sums fit
pub record StaysPremultiplied (layout : Layout) (pixel : List ℕ) (effects : List Effect) (made : List ℕ) : Type 0 where
  pub premultiplied : IsPremultiplied layout made
  pub uncut : CutNoSum layout pixel effects

-- that holds at each point where a premultiplied pixel stood and that only effects of premultiplied
-- colors and source pixels reach
abbrev pub KeepsPremultiplied : {P M : Type 0} → Layout → (P → List ℕ) → (M → List ℕ) → List (Command P M) → (old new : Image P) → Type 0
KeepsPremultiplied layout numbers mattes commands old new =
    (x y : ℕ) → x < old.width → y < old.height → IsPremultiplied layout (point numbers old x y)
    → All (BringsPremultiplied layout) (effects_at numbers mattes (region_of old) commands x y)
    → StaysPremultiplied layout (point numbers old x y) (effects_at numbers mattes (region_of old) commands x y) (point numbers new x y)
