-- The lesser numbers of lanes.
use Rattle.std.proofs.Common.{◌≡◌, ℕ, ◌-◌, ◌^◌, min, cond, List, [], ◌∷◌, map, refl, arith, ap, ap₂, ◌∙◌, inl, inr}
use Rattle.std.proofs.lemmas.Bool.{cases_lt, lt-ltb, le-ltb}
use Rattle.std.proofs.lemmas.Simd.{tops_compared}
use lib.Dec.{ltb}
use lib.Lanes.{zip2, sel_l, top}
use mir.Syntax.{Width}
use mir.Val.{bits, hbits}

lesser_chosen : (x y : ℕ) → cond (ltb x y) x y ≡ min x y
lesser_chosen x y = elim (cases_lt x y) [
  | inl b ↦ rw (lt-ltb x y b) (omega (arith, b))
  | inr b ↦ rw (le-ltb x y b) (omega (arith, b))
]

all_lesser : (xs ys : List ℕ) → sel_l (zip2 ltb xs ys) xs ys ≡ zip2 min xs ys
all_lesser [] ys = refl
all_lesser (x ∷ xs) [] = refl
all_lesser (x ∷ xs) (y ∷ ys) = ap₂ (λ (n : ℕ) (l : List ℕ). n ∷ l) (lesser_chosen x y) (all_lesser xs ys)

-- the lesser number of each lane, as it is chosen by a mask
pub lesser_lanes : (w : Width) (xs ys : List ℕ)
    → sel_l (map (top (hbits w)) (zip2 (λ a b. cond (ltb a b) (2 ^ bits w - 1) 0) xs ys)) xs ys ≡ zip2 min xs ys
lesser_lanes w xs ys = ap (λ ms. sel_l ms xs ys) (tops_compared w ltb xs ys) ∙ all_lesser xs ys
