-- Lists whose numbers rise or never fall, found by going over neighbours.
use Rattle.std.proofs.Common.{◌≡◌, ℕ, zero, suc, ◌<◌, ◌≤◌, List, [], ◌∷◌, length, true, Bool, ◌&&◌, nat_le, leb-true, inl, inr, arith}
use Rattle.std.specs.Prelude.{slice_index_or}
use Rattle.std.proofs.lemmas.Bool.{and_parts, cases_order}

-- each number of the list, which follows x, is at least f of the one before it
abbrev pub follows : (ℕ → ℕ) → ℕ → List ℕ → Bool
follows f x [] = true
follows f x (y ∷ ys) = nat_le (f x) y && follows f y ys

abbrev pub rises_by : (ℕ → ℕ) → List ℕ → Bool
rises_by f [] = true
rises_by f (x ∷ xs) = follows f x xs

from_first : (f : ℕ → ℕ) (grows : (x : ℕ) → x ≤ f x) (x : ℕ) (xs : List ℕ) → follows f x xs ≡ true → (n : ℕ) → n < length xs → f x ≤ slice_index_or xs n 0
from_first f grows x [] h n lt = absurd (omega arith)
from_first f grows x (y ∷ ys) h zero lt = leb-true (f x) y (and_parts (nat_le (f x) y) (follows f y ys) h).0
from_first f grows x (y ∷ ys) h (suc n) lt =
    let parts = and_parts (nat_le (f x) y) (follows f y ys) h in
    let first : f x ≤ y = leb-true (f x) y parts.0 in
    let up : y ≤ f y = grows y in
    let rest : f y ≤ slice_index_or ys n 0 = from_first f grows y ys parts.1 n (omega arith) in
    omega arith

-- each later number of the list is at least f of an earlier one
pub rising : (f : ℕ → ℕ) (grows : (x : ℕ) → x ≤ f x) (xs : List ℕ) → rises_by f xs ≡ true → (m n : ℕ) → m < n → n < length xs
    → f (slice_index_or xs m 0) ≤ slice_index_or xs n 0
rising f grows [] h m n less lt = absurd (omega arith)
rising f grows (x ∷ xs) h m zero less lt = absurd (omega arith)
rising f grows (x ∷ xs) h zero (suc n) less lt = from_first f grows x xs h n (omega arith)
rising f grows (x ∷ []) h (suc m) (suc n) less lt = absurd (omega arith)
rising f grows (x ∷ (y ∷ ys)) h (suc m) (suc n) less lt =
    rising f grows (y ∷ ys) (and_parts (nat_le (f x) y) (follows f y ys) h).1 m n (omega arith) (omega arith)

-- whether a list never falls
abbrev pub never_falls : List ℕ → Bool
never_falls xs = rises_by (λ x. x) xs

pub rising_list : (xs : List ℕ) → never_falls xs ≡ true → (m n : ℕ) → m ≤ n → n < length xs → slice_index_or xs m 0 ≤ slice_index_or xs n 0
rising_list xs h m n le lt =
    elim (cases_order m n) [
      | inl same ↦ rw same (omega arith)
      | inr other ↦ elim other [
        | inl less ↦ rising (λ x. x) (λ x. omega arith) xs h m n less lt
        | inr more ↦ absurd (omega arith)
      ]
    ]
