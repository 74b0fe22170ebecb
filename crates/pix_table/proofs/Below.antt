-- Indices that are below a number, one index after the other.
use Rattle.std.proofs.Common.{◌≡◌, ℕ, zero, suc, ◌+◌, ◌<◌, ◌≤◌, Bool, true, false, ◌&&◌, List, [], ◌∷◌, length, drop, get_or, arith, refl, sym, ap, ◌∙◌, inl, inr}
use Rattle.std.proofs.lemmas.Bool.{lt-ltb, le-ltb, ltb-true, cases_lt, true≢false}
use Rattle.std.proofs.lemmas.List.{drop_more, drop_all}
use Rattle.pix_table.specs.packing.LookUp.{all_below}

-- an index that is below is passed over
pub below_more : (count : ℕ) (indices : List ℕ) (i : ℕ) → i < length indices → get_or indices i 0 < count
    → all_below count indices ≡ all_below count (drop i indices) → all_below count indices ≡ all_below count (drop (i + 1) indices)
below_more count indices i inside below h =
    h ∙ ap (all_below count) (drop_more indices i 0 inside)
    ∙ ap (λ b. b && all_below count (drop (i + 1) indices)) (lt-ltb (get_or indices i 0) count below)

-- one that is not stops it
pub below_past : (count : ℕ) (indices : List ℕ) (i : ℕ) → i < length indices → count ≤ get_or indices i 0
    → all_below count indices ≡ all_below count (drop i indices) → false ≡ all_below count indices
below_past count indices i inside past h = sym (
    h ∙ ap (all_below count) (drop_more indices i 0 inside)
    ∙ ap (λ b. b && all_below count (drop (i + 1) indices)) (le-ltb (get_or indices i 0) count past))

pub below_all : (count : ℕ) (indices : List ℕ) (i : ℕ) → length indices ≤ i
    → all_below count indices ≡ all_below count (drop i indices) → true ≡ all_below count indices
below_all count indices i end h = sym (h ∙ ap (all_below count) (drop_all i indices end))

head_below : (b c : Bool) → (b && c) ≡ true → b ≡ true
head_below true c h = refl
head_below false c h = h

tail_below : (b c : Bool) → (b && c) ≡ true → c ≡ true
tail_below true c h = h
tail_below false c h = absurd (true≢false (sym h))

-- each is below, where all are
pub each_below : (count : ℕ) (indices : List ℕ) → all_below count indices ≡ true → (k : ℕ) → k < length indices → get_or indices k 0 < count
each_below count [] h k below = absurd (omega arith)
each_below count (i ∷ indices) h zero below = ltb-true i count (head_below _ _ h)
each_below count (i ∷ indices) h (suc k) below = each_below count indices (tail_below _ _ h) k (omega arith)

past_zero : (xs : List ℕ) (k : ℕ) → length xs ≤ k → get_or xs k 0 ≡ 0
past_zero [] k past = refl
past_zero (x ∷ xs) zero past = absurd (omega arith)
past_zero (x ∷ xs) (suc k) past = past_zero xs k (omega arith)

-- past the end it is 0
pub at_below : (count : ℕ) (indices : List ℕ) → 0 < count → all_below count indices ≡ true → (k : ℕ) → get_or indices k 0 < count
at_below count indices some h k = elim (cases_lt k (length indices)) [
  | inl b ↦ each_below count indices h k b
  | inr b ↦ omega (arith, past_zero indices k b)
]
