-- Where the last part begins, of the parts with the least error: no sooner where there is one part more, and no later
-- where there are fewer levels (D. Knuth, Optimum binary search trees, 1971; F. Yao, 1980).
use Rattle.std.proofs.Common.{◌⊎◌, ◌≡◌, ℕ, zero, suc, ◌+◌, ◌<◌, ◌≤◌, arith, inl, inr}
use Rattle.std.proofs.lemmas.Bool.{cases_lt}
use Rattle.pix_table.specs.quantization.Turns.{IsFirst, IsNext, NoneSooner}

-- crossed errors
abbrev pub AreCrossed : (c : ℕ → ℕ → ℕ) (d : ℕ) → Type 0
AreCrossed c d = (i j a b : ℕ) → i ≤ j → j ≤ a → a ≤ b → b ≤ d → c i a + c j b ≤ c i b + c j a

-- one part more begins at some level so that it gains no less of more levels
abbrev pub CanTurn : (c : ℕ → ℕ → ℕ) (d : ℕ) → (ℕ → ℕ) → Type 0
CanTurn c d e = (i a b : ℕ) → i ≤ a → a ≤ suc b → b < d → (j : ℕ) × (j ≤ b) × (e j + c j (suc b) + e a ≤ e i + c i a + e (suc b))

module _ (c : ℕ → ℕ → ℕ) (d : ℕ) (none : (a : ℕ) → a ≤ d → c a a ≡ 0) (crossed : AreCrossed c d) where
  pub first_turns : (e : ℕ → ℕ) → IsFirst c d e → CanTurn c d e
  first_turns e first i a b p q in' = elim (cases_lt i (suc b)) [
    | inl l ↦ (
      i,
      omega arith,
      omega (arith, crossed 0 i a (suc b) (omega arith) p q in', first a (omega arith), first (suc b) in'),
    )
    | inr l ↦
        let same : i ≡ suc b = omega arith in
        let also : a ≡ suc b = omega arith in
        (0, omega arith, rw (same, also) (omega (arith, first 0 (omega arith), first (suc b) in', none 0 (omega arith), none (suc b) in')))
  ]

  module _ (e f start : ℕ → ℕ) (turns : CanTurn c d e) (before : e 0 ≡ 0) (next : IsNext c d e f start) where
    -- a part more is no worse
    pub no_worse : (b : ℕ) → b ≤ d → f b ≤ e b
    no_worse zero in' = omega (arith, next.none)
    no_worse (suc b) in' =
        let t = turns (suc b) (suc b) b (omega arith) (omega arith) in' in
        omega (arith, t.2, next.least t.0 b t.1 in', none (suc b) in')

    -- it gains no less of more levels
    pub gains : (a b : ℕ) → a ≤ b → b ≤ d → f b + e a ≤ f a + e b
    gains zero b h in' = omega (arith, no_worse b in', next.none, before)
    gains (suc a) zero h in' = absurd (omega arith)
    gains (suc a) (suc b) h in' =
        let l : start a ≤ a = next.stands a (omega arith) in
        let t = turns (start a) (suc a) b (omega arith) h in' in
        omega (arith, t.2, next.made a (omega arith), next.least t.0 b t.1 in')

    pub no_sooner : NoneSooner c d f start
    no_sooner a b in' h =
        let l : start b ≤ b = next.stands b in' in
        omega (arith, gains a (start b) (omega arith) (omega arith), next.made b in', next.least a b (omega arith) in')

    at_most : (a b : ℕ) → a ≤ b → b ≤ d → f b ≤ e a + c a b
    at_most a zero h in' = omega (arith, next.none)
    at_most a (suc b) h in' = elim (cases_lt a (suc b)) [
      | inl l ↦ next.least a b (omega arith) in'
      | inr l ↦ let same : a ≡ suc b = omega arith in rw same (omega (arith, no_worse (suc b) in', none (suc b) in'))
    ]

    pub next_turns : CanTurn c d f
    next_turns i a b p q in' =
        let j : ℕ = start b in
        let l : start b ≤ b = next.stands b in' in
        elim (cases_lt i (start b)) [
          | inl sooner ↦ (
            start b,
            l,
            omega (arith, gains i (start b) (omega arith) (omega arith), next.made b in', at_most i a p (omega arith)),
          )
          | inr later ↦ elim (cases_lt i (suc b)) [
            | inl m ↦ (
              i,
              omega arith,
              omega (arith, crossed (start b) i a (suc b) later p q in', next.made b in', at_most (start b) a (omega arith) (omega arith)),
            )
            | inr m ↦
                let same : i ≡ suc b = omega arith in
                let also : a ≡ suc b = omega arith in
                (start b, l, rw (same, also) (omega (arith, no_worse (start b) (omega arith), next.made b in', none (suc b) in')))
          ]
        ]

  -- the best place of those that are tried is the best of all. s is that with one part less, and latest that with one level more
  module _ (e start : ℕ → ℕ) (sooner : NoneSooner c d e start) (stands : (b : ℕ) → b < d → start b ≤ b) where
    pub best_of_all : (b latest first last error : ℕ) → b < d → ((a : ℕ) → latest < a → a ≤ b → e latest + c latest (suc b) ≤ e a + c a (suc b))
        → (last ≡ latest × last ≤ b) ⊎ (last ≡ b × last ≤ latest) → (first ≡ start b × first ≤ last) ⊎ (first ≡ last × first ≤ start b)
        → ((a : ℕ) → first ≤ a → a ≤ last → error ≤ e a + c a (suc b)) → (a : ℕ) → a ≤ b → error ≤ e a + c a (suc b)
    best_of_all b latest first last error in' later ends begins least a h = elim (cases_lt last a) [
      | inl after ↦ elim ends [
        | inl o ↦
            let back : e last + c last (suc b) ≤ e a + c a (suc b) = (rw (o.0) (later a (omega (arith, o.0)) h)) in
            omega (arith, back, least last (elim begins [ inl p ↦ omega (arith, p.1) | inr p ↦ omega (arith, p.0) ]) (omega arith))
        | inr o ↦ absurd (omega (arith, o.0))
      ]
      | inr within ↦ elim (cases_lt a first) [
        | inl sooner' ↦ elim begins [
          | inl p ↦
              let at : e first + c first (suc b) ≤ e a + c a (suc b) = rw (p.0) (sooner a b in' (omega (arith, p.0))) in
              omega (arith, at, least first (omega arith) p.1)
          | inr p ↦ elim (cases_lt last (start b)) [
            | inl s ↦ elim ends [
              | inl o ↦
                  let back : e last + c last (suc b) ≤ e (start b) + c (start b) (suc b) = (rw (o.0) (later (start b) (omega (arith, o.0)) (stands b in'))) in
                  omega (arith, back, least last (omega (arith, p.0)) (omega arith), sooner a b in' (omega (arith, p.1)))
              | inr o ↦ absurd (omega (arith, o.0, stands b in'))
            ]
            | inr s ↦
                let same : first ≡ start b = omega (arith, p.0, p.1) in
                let at : e first + c first (suc b) ≤ e a + c a (suc b) = rw same (sooner a b in' (omega (arith, same))) in
                omega (arith, at, least first (omega arith) (omega (arith, p.0)))
          ]
        ]
        | inr l ↦ least a l within
      ]
    ]

    -- where that of one level more is the best of all, no later place is better for one level less
    pub none_later : (b latest : ℕ) → suc b < d → latest ≤ suc b → ((a : ℕ) → a ≤ suc b → e latest + c latest (suc (suc b)) ≤ e a + c a (suc (suc b)))
        → (a : ℕ) → latest < a → a ≤ b → e latest + c latest (suc b) ≤ e a + c a (suc b)
    none_later b latest in' h best a l m =
        omega (arith, crossed latest a (suc b) (suc (suc b)) (omega arith) (omega arith) (omega arith) in', best a (omega arith))
