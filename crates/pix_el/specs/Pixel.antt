-- Pixels as the lists of their channels' numbers.
use Rattle.std.specs.Prelude.{ℕ, List, slice_index_or, slice_set, Bool, ◌&&◌, nat_le, nat_lt}
use Rattle.std.specs.Borrow.{Lends, MutBor, Fml, RattleType}
use Rattle.std.specs.declared.ops.Range.{Range}

-- the layout of a pixel: the maximum of its channels, how many they are, the channel numbers of
-- hues, and that of the alpha
pub record Layout : Type 0 where
  pub max : ℕ
  pub count : ℕ
  pub hues : Range ℕ
  pub alpha : ℕ

-- whether a number lies in a half-open range
abbrev pub lies_in : Range ℕ → ℕ → Bool
lies_in range ch = nat_le range.start ch && nat_lt ch range.end

-- whether the channel of a number is a hue
abbrev pub is_hue : Layout → ℕ → Bool
is_hue layout ch = lies_in layout.hues ch

-- the channel of a number, and the maximum where there is none
abbrev pub channel : ℕ → List ℕ → ℕ → ℕ
channel max numbers ch = slice_index_or numbers ch max

-- the alpha of a pixel
abbrev pub alpha_of : Layout → List ℕ → ℕ
alpha_of layout numbers = channel layout.max numbers layout.alpha

-- r lends the channel of a number: what is last written through r becomes that channel of the
-- pixel, and the others stay; `channels` reads the pixel's channels, and `with` replaces them
abbrev pub LendsChannel : (P C : RattleType) → (channels : P.Denot → List C.Denot) → (with : P.Denot → List C.Denot → P.Denot) → MutBor P.Denot → MutBor C.Denot → ℕ → Fml
LendsChannel P C channels with pixel r ch = Lends P C pixel r (λ c. with pixel.now (slice_set (channels pixel.now) ch c))
