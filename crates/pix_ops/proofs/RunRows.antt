-- Runs of one channel, computed.
use Rattle.std.proofs.Common.{◌≡◌, ℕ, ◌^◌, List, [], ◌∷◌, refl}
use Rattle.pix_ops.specs.declared.ops.Op.TheVariants.{Src, SrcOver, SrcIn}
use Rattle.pix_chan.specs.Product.{channel_product}
use Rattle.pix_ops.specs.ExactRun.{ChannelEffect, Replaced, Composited, Matted, Rounded, rounded_run, Exact, exact_run, Budget, rounding_budget, doubled_counts}

-- a rounded channel and alpha
abbrev at : ℕ → ℕ → Rounded
at channel alpha = record { channel = channel; alpha = alpha }

abbrev fraction : ℕ → ℕ → ℕ → Exact
fraction value alpha whole = record { value = value; alpha = alpha; whole = whole }

abbrev units : ℕ → ℕ → Budget
units channel alpha = record { channel = channel; alpha = alpha }

-- what effects come to: rounded, in exact fractions, in budgets and in doubled counts
abbrev Row : Rounded → List ChannelEffect → Rounded → Exact → Budget → ℕ → Type 0
Row start effects rounded exact budget doubled =
    (rounded_run 255 start effects ≡ rounded) × (exact_run 255 start effects ≡ exact)
    × (rounding_budget effects ≡ budget) × (doubled_counts effects ≡ doubled)

-- a transparent color over 5, three times, changes nothing
thrice : Row (at 5 5) (Composited SrcOver 0 0 ∷ Composited SrcOver 0 0 ∷ Composited SrcOver 0 0 ∷ [])
    (at 5 5) (fraction 82906875 82906875 (255 ^ 3)) (units 3 3) 6
unfolding channel_product
thrice = (refl, refl, refl, refl)

-- then the greatest color where that is
then_in : Row (at 5 5) (Composited SrcOver 0 0 ∷ Composited SrcOver 0 0 ∷ Composited SrcOver 0 0 ∷ Composited SrcIn 255 255 ∷ [])
    (at 5 5) (fraction 21141253125 21141253125 (255 ^ 4)) (units 4 4) 8
unfolding channel_product
then_in = (refl, refl, refl, refl)

-- green of half the alpha over red of half the alpha, through a matte of half: the red channel
red : Row (at 0x80 0x80) (Matted SrcOver 0x80 0 0x80 ∷ []) (at 96 160) (fraction 6226048 10403968 (255 ^ 2)) (units 3 3) 6
unfolding channel_product
red = (refl, refl, refl, refl)

-- .. and the green one
green : Row (at 0 0x80) (Matted SrcOver 0x80 0x80 0x80 ∷ []) (at 64 160) (fraction 4177920 10403968 (255 ^ 2)) (units 3 3) 6
unfolding channel_product
green = (refl, refl, refl, refl)

-- a copy ends what the budgets had, and not the doubled counts
abbrev replaced : ℕ → ℕ → ℕ → ℕ → ℕ → List ChannelEffect
replaced matte s sa copied copied_alpha = Matted Src matte s sa ∷ Replaced copied copied_alpha ∷ []

replaced_budget : (matte s sa copied copied_alpha : ℕ) → rounding_budget (replaced matte s sa copied copied_alpha) ≡ units 0 0
replaced_budget matte s sa copied copied_alpha = refl

replaced_whole : (matte s sa copied copied_alpha channel alpha : ℕ) → (exact_run 255 (at channel alpha) (replaced matte s sa copied copied_alpha)).whole ≡ 1
replaced_whole matte s sa copied copied_alpha channel alpha = refl

replaced_doubled : (matte s sa copied copied_alpha : ℕ) → doubled_counts (replaced matte s sa copied copied_alpha) ≡ 2
replaced_doubled matte s sa copied copied_alpha = refl
