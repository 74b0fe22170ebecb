-- Lists that a loop writes, one element after the other.
use Rattle.std.specs.Prelude.{slice_get}
use Rattle.std.proofs.Common.{◌≡◌, ◌≢◌, ℕ, ◌+◌, ◌<◌, List, [], ◌∷◌, ◌++◌, length, map, take, set, get_or, refl, arith, sym, ap, ◌∙◌, subst, inl, inr, Some, length-set}
use Rattle.std.proofs.lemmas.Bool.{cases_lt}
use Rattle.std.proofs.lemmas.List.{get_or-set_other, length-map, map-append, map-set, take_more, take_more_set}
use Rattle.std.proofs.lemmas.Option.{slice_get_read, slice_get-get_or}
use Rattle.std.proofs.lemmas.Grind.{get_or-set_at}

-- what holds of each element below i, and of the one that is written there, holds of each below i +
-- 1
pub set_more : (P : ℕ → ℕ → Type 0) (xs : List ℕ) (i x : ℕ) → i < length xs → ((k : ℕ) → k < i → P k (get_or xs k 0)) → P i x
    → (k : ℕ) → k < i + 1 → P k (get_or (set xs i x) k 0)
set_more P xs i x inside before here k below = elim (cases_lt k i) [
  | inl b ↦ let apart : k ≢ i = (λ e. omega arith) in subst (P k) (sym (get_or-set_other xs i k x 0 apart)) (before k b)
  | inr b ↦
      let e : k ≡ i = omega arith in
      subst (P k) (sym (get_or-set_at xs i k x 0 e inside)) (subst (λ j. P j x) (sym e) here)
]

-- the first elements are copies, with one more that is
pub copy_more : {X Y Z : Type 0} (f : X → Z) (g : Y → Z) (xs : List X) (ys : List Y) (i : ℕ) (x : X) (y : Y) → i < length xs → i < length ys
    → y ≡ get_or ys i y → f x ≡ g y → map f (take i xs) ≡ map g (take i ys) → map f (take (i + 1) (set xs i x)) ≡ map g (take (i + 1) ys)
copy_more f g xs ys i x y inside there read same so_far =
    ap (map f) (take_more_set xs i x inside) ∙ map-append f (take i xs) (x ∷ [])
    ∙ ap (λ l. l ++ f x ∷ []) so_far ∙ ap (λ z. map g (take i ys) ++ z ∷ []) (same ∙ ap g read)
    ∙ sym (map-append g (take i ys) (get_or ys i y ∷ [])) ∙ ap (map g) (sym (take_more ys i y there))

-- the elements of a list at given places, with one more that is written
pub looked_more : {X : Type 0} (entries xs : List X) (at : ℕ → ℕ) (i : ℕ) (x : X) → i < length xs → at i < length entries
    → x ≡ get_or entries (at i) x → ((k : ℕ) → k < i → slice_get xs k ≡ slice_get entries (at k))
    → (k : ℕ) → k < i + 1 → slice_get (set xs i x) k ≡ slice_get entries (at k)
looked_more entries xs at i x inside there read before k below = elim (cases_lt k i) [
  | inl b ↦
      let apart : k ≢ i = (λ e. omega arith) in
      let long : k < length xs = omega arith in
      slice_get-get_or (set xs i x) k x (omega (arith, length-set xs i x)) ∙ ap Some (get_or-set_other xs i k x x apart)
      ∙ sym (slice_get-get_or xs k x long) ∙ before k b
  | inr b ↦
      let e : k ≡ i = omega arith in
      slice_get-get_or (set xs i x) k x (omega (arith, length-set xs i x)) ∙ ap Some (get_or-set_at xs i k x x e inside)
      ∙ sym (slice_get_read entries (length entries) (at i) x refl there read) ∙ ap (λ j. slice_get entries (at j)) (sym e)
]

-- what holds of what f makes of each element below i, and of the one that is written there, holds
-- of each below i + 1
pub mapped_more : {X : Type 0} (f : X → List ℕ) (P : ℕ → List ℕ → Type 0) (xs : List X) (i : ℕ) (x : X) → i < length xs
    → ((k : ℕ) → k < i → P k (get_or (map f xs) k [])) → P i (f x) → (k : ℕ) → k < i + 1 → P k (get_or (map f (set xs i x)) k [])
mapped_more f P xs i x inside before here k below =
    let written : get_or (map f (set xs i x)) k [] ≡ get_or (set (map f xs) i (f x)) k [] = ap (λ l. get_or l k []) (map-set f xs i x) in
    elim (cases_lt k i) [
      | inl b ↦
          let apart : k ≢ i = (λ e. omega arith) in
          subst (P k) (sym (written ∙ get_or-set_other (map f xs) i k (f x) [] apart)) (before k b)
      | inr b ↦
          let e : k ≡ i = omega arith in
          subst (P k) (sym (written ∙ get_or-set_at (map f xs) i k (f x) [] e (omega (arith, length-map xs f)))) (subst (λ j. P j (f x)) (sym e) here)
    ]
