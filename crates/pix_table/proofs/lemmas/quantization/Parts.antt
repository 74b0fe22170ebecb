-- Parts of a list that swaps bring about: what is below a value comes first.
use Rattle.std.specs.List.{SwappedAt}
use Rattle.std.proofs.Common.{◌≡◌, ◌≢◌, ℕ, ◌+◌, ◌<◌, ◌≤◌, List, get_or, arith, sym, subst, inl, inr}
use Rattle.std.proofs.lemmas.Bool.{cases_lt}

-- the first `at` are below the value
abbrev pub AreBelow : {X : Type 0} → (X → ℕ) → ℕ → List X → ℕ → Type 0
AreBelow {X} f value xs at = (j : ℕ) (d : X) → j < at → f (get_or xs j d) < value

-- those from `at` to i are not
abbrev pub AreOthers : {X : Type 0} → (X → ℕ) → ℕ → List X → ℕ → ℕ → Type 0
AreOthers {X} f value xs at i = (j : ℕ) (d : X) → at ≤ j → j < i → value ≤ f (get_or xs j d)

-- one that is below is swapped with the first that is not
pub below_swapped : {X : Type 0} (f : X → ℕ) (value : ℕ) (xs ys : List X) (at i : ℕ) → at ≤ i → SwappedAt xs ys at i → AreBelow f value xs at
    → ((d : X) → f (get_or xs i d) < value) → AreBelow f value ys (at + 1)
below_swapped f value xs ys at i within s h here j d before = elim (cases_lt j at) [
  | inl b ↦
      let one : j ≢ at = (λ e. omega arith) in
      let two : j ≢ i = (λ e. omega arith) in
      subst (λ x. f x < value) (sym (s.2 j d one two)) (h j d b)
  | inr b ↦
      let e : at ≡ j = omega arith in
      subst (λ k. f (get_or ys k d) < value) e (subst (λ x. f x < value) (sym (s.0 d)) (here d))
]

pub others_swapped : {X : Type 0} (f : X → ℕ) (value : ℕ) (xs ys : List X) (at i : ℕ) → at ≤ i → SwappedAt xs ys at i → AreOthers f value xs at i
    → AreOthers f value ys (at + 1) (i + 1)
others_swapped f value xs ys at i within s h j d from to = elim (cases_lt j i) [
  | inl b ↦
      let one : j ≢ at = (λ e. omega arith) in
      let two : j ≢ i = (λ e. omega arith) in
      subst (λ x. value ≤ f x) (sym (s.2 j d one two)) (h j d (omega arith) b)
  | inr b ↦
      let e : i ≡ j = omega arith in
      subst (λ k. value ≤ f (get_or ys k d)) e (subst (λ x. value ≤ f x) (sym (s.1 d)) (h at d (omega arith) (omega arith)))
]

-- one that is not is swapped with the first that is not
pub below_kept : {X : Type 0} (f : X → ℕ) (value : ℕ) (xs ys : List X) (at i : ℕ) → at ≤ i → SwappedAt xs ys at i → AreBelow f value xs at
    → AreBelow f value ys at
below_kept f value xs ys at i within s h j d before =
    let one : j ≢ at = (λ e. omega arith) in
    let two : j ≢ i = (λ e. omega arith) in
    subst (λ x. f x < value) (sym (s.2 j d one two)) (h j d before)

pub others_kept : {X : Type 0} (f : X → ℕ) (value : ℕ) (xs ys : List X) (at i : ℕ) → at ≤ i → SwappedAt xs ys at i → AreOthers f value xs at i
    → ((d : X) → value ≤ f (get_or xs i d)) → AreOthers f value ys at (i + 1)
others_kept f value xs ys at i within s h here j d from to = elim (cases_lt at j) [
  | inr b ↦
      let e : at ≡ j = omega arith in
      subst (λ k. value ≤ f (get_or ys k d)) e (subst (λ x. value ≤ f x) (sym (s.0 d)) (here d))
  | inl after ↦ elim (cases_lt j i) [
    | inl b ↦
        let one : j ≢ at = (λ e. omega arith) in
        let two : j ≢ i = (λ e. omega arith) in
        subst (λ x. value ≤ f x) (sym (s.2 j d one two)) (h j d from b)
    | inr b ↦
        let e : i ≡ j = omega arith in
        subst (λ k. value ≤ f (get_or ys k d)) e (subst (λ x. value ≤ f x) (sym (s.1 d)) (h at d (omega arith) (omega arith)))
  ]
]
