-- Proofs of the laws of `Pixel`, which an impl takes from `specs/` alone. No public clause cites
-- this file.
use Rattle.std.specs.Prelude.{◌≡◌, ◌≤◌, ℕ, zero, suc, Bool, nat_eq, List, [], ◌∷◌, map, min, replicate, refl}
use Rattle.std.specs.Cmp.Lexicographic.{pointwise}
use Rattle.std.proofs.Common.{ap, ◌∙◌, arith, length, le_refl}
use Rattle.pix_chan.specs.Channel.{IsNumbered}
use Rattle.pix_el.specs.Pixel.{Layout, channel}

pub map_replicate : {X Y : Type 0} (f : X → Y) (x : X) (y : Y) (n : ℕ) → f x ≡ y → map f (replicate n x) ≡ replicate n y
map_replicate f x y zero e = refl
map_replicate {Y = Y} f x y (suc n) e = ap (λ (z : Y). z ∷ map f (replicate n x)) e ∙ ap (λ (zs : List Y). y ∷ zs) (map_replicate f x y n e)

-- the numbers of a default pixel
pub numbers_of_replicate : {C : Type 0} (number : C → ℕ) (none : C) (n : ℕ) (channels : List C) → channels ≡ replicate n none → number none ≡ 0
    → map number channels ≡ replicate n 0
numbers_of_replicate number none n channels is zero_is = ap (map number) is ∙ map_replicate number none 0 n zero_is

-- lists of channels are equal where their numbers are
pub equal_lists : {C : Type 0} (eq : C → C → Bool) (number : C → ℕ) → ((x y : C) → eq x y ≡ nat_eq (number x) (number y))
    → (a b : List C) → pointwise eq a b ≡ pointwise nat_eq (map number a) (map number b)
equal_lists eq number same [] [] = refl
equal_lists eq number same [] (y ∷ b) = refl
equal_lists eq number same (x ∷ a) [] = refl
equal_lists eq number same (x ∷ a) (y ∷ b) = rw (same x y, equal_lists eq number same a b) refl

abbrev head_or_zero : List ℕ → ℕ
head_or_zero [] = 0
head_or_zero (n ∷ ns) = n

abbrev tail_of : List ℕ → List ℕ
tail_of [] = []
tail_of (n ∷ ns) = ns

-- lists of channels of equal numbers are equal
pub equal_by_numbers : {C : Type 0} (number : C → ℕ) → ((x y : C) → number x ≡ number y → x ≡ y) → (a b : List C) → map number a ≡ map number b → a ≡ b
equal_by_numbers number injective [] [] e = refl
equal_by_numbers number injective [] (y ∷ b) e = absurd (let z : 0 ≡ suc (length (map number b)) = ap length e in omega arith)
equal_by_numbers number injective (x ∷ a) [] e = absurd (let z : suc (length (map number a)) ≡ 0 = ap length e in omega arith)
equal_by_numbers {C = C} number injective (x ∷ a) (y ∷ b) e =
    ap (λ (c : C). c ∷ a) (injective x y (ap head_or_zero e)) ∙ ap (λ (cs : List C). y ∷ cs) (equal_by_numbers number injective a b (ap tail_of e))

-- no number of a list of channels is above the maximum
pub fit_at : {C : Type 0} (max : ℕ) (number : C → ℕ) (channels : List C) (ch : ℕ) → IsNumbered max number → channel max (map number channels) ch ≤ max
fit_at max number [] ch numbered = le_refl max
fit_at max number (c ∷ channels) zero numbered = numbered.fits c
fit_at max number (c ∷ channels) (suc ch) numbered = fit_at max number channels ch numbered

-- no number of a pixel
pub numbers_fit : {P C : Type 0} (l : Layout) (max : ℕ) (number : C → ℕ) (numbers : P → List ℕ) (list : P → List C) → IsNumbered max number → l.max ≡ max
    → ((p : P) → numbers p ≡ map number (list p)) → (p : P) (ch : ℕ) → channel l.max (numbers p) ch ≤ l.max
numbers_fit l max number numbers list numbered e n p ch = rw (e, n p) (fit_at max number (list p) ch numbered)

-- no number of one value that is cut to the maximum
pub cut_fits : (max value ch : ℕ) → channel max (min value max ∷ []) ch ≤ max
cut_fits max value zero = omega arith
cut_fits max value (suc ch) = le_refl max
