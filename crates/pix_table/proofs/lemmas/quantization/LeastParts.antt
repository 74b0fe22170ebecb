-- No entries show levels of gray with a smaller error than the parts that are found.
use Rattle.std.proofs.Common.{◌≡◌, ℕ, zero, suc, ◌+◌, ◌*◌, ◌-◌, ◌<◌, ◌≤◌, List, [], ◌∷◌, length, All, refl, arith, ap, inl, inr}
use Rattle.std.proofs.lemmas.Bool.{cases_lt}
use Rattle.std.proofs.lemmas.Nat.{mul-le}
use Rattle.std.proofs.lemmas.List.Elements.{All-cons, All-nil, All-head, All-tail, All-weaker}
use Rattle.pix_table.specs.matching.Nearest.{squared_difference}
use Rattle.pix_table.specs.quantization.Totals.{total, error_between}
use Rattle.pix_table.specs.quantization.GrayLevels.{near, AreLeast}
use Rattle.pix_table.specs.quantization.Turns.{IsFirst, IsNext}
use Rattle.pix_table.proofs.lemmas.quantization.Totals.{at_most}
use Rattle.pix_table.proofs.lemmas.quantization.SpanErrors.{error_to}
use Rattle.pix_table.proofs.lemmas.quantization.Crossed.{farther, no_less}

-- the same in another order
near_swapped : (e f : ℕ) (es : List ℕ) (v : ℕ) → near e (f ∷ es) v ≡ near f (e ∷ es) v
near_swapped e f [] v = omega arith
near_swapped e f (g ∷ es) v = omega arith

-- the least of some numbers, and the others
least_first : (e : ℕ) (es : List ℕ) → (m : ℕ) × (rest : List ℕ) × (length rest ≡ length es) × (m ≤ e) × All (λ k. m ≤ k) rest × ((v : ℕ) → near e es v ≡ near m rest v)
least_first e [] = (e, [], refl, omega arith, All-nil (λ k. e ≤ k), λ v. refl)
least_first e (f ∷ es) =
    let h = least_first f es in
    elim (cases_lt h.0 e) [
      | inl l ↦ (
        h.0,
        e ∷ h.1,
        omega (arith, h.2),
        omega arith,
        All-cons (λ k. h.0 ≤ k) e h.1 (omega arith) h.4,
        λ v. omega (arith, h.5 v, near_swapped e h.0 h.1 v),
      )
      | inr l ↦ (
        e,
        h.0 ∷ h.1,
        omega (arith, h.2),
        omega arith,
        All-cons (λ k. e ≤ k) h.0 h.1 l (All-weaker (λ k. h.0 ≤ k) (λ k. e ≤ k) (λ k p. omega arith) h.1 h.4),
        λ v. omega (arith, h.5 v),
      )
    ]

-- a greater number that is as near to a level is as near to each above
wins_at : (m k u v : ℕ) → m ≤ k → u ≤ v → squared_difference k u ≤ squared_difference m u → squared_difference k v ≤ squared_difference m v
wins_at m k u v p q h = elim (cases_lt ((m - u) + (u - m)) ((k - u) + (u - k))) [
  | inl l ↦
      let less : ((m - u) + (u - m)) * ((m - u) + (u - m)) + 1 ≤ ((k - u) + (u - k)) * ((k - u) + (u - k)) =
      omega (arith, mul-le (suc ((m - u) + (u - m))) (suc ((m - u) + (u - m))) ((k - u) + (u - k)) ((k - u) + (u - k)) l l) in
      absurd (omega arith)
  | inr l ↦ farther k m v (omega arith)
]

wins : (m k : ℕ) (es : List ℕ) (u v : ℕ) → u ≤ v → m ≤ k → All (λ j. m ≤ j) es → near k es u ≤ squared_difference m u → near k es v ≤ squared_difference m v
wins m k [] u v q p all h = wins_at m k u v p q h
wins m k (f ∷ es) u v q p all h = elim (cases_lt (squared_difference m u) (squared_difference k u)) [
  | inl l ↦
      let rest : near f es v ≤ squared_difference m v =
      wins m f es u v q (All-head (λ j. m ≤ j) f es all) (All-tail (λ j. m ≤ j) f es all) (omega arith) in
      omega arith
  | inr l ↦ let one : squared_difference k v ≤ squared_difference m v = wins_at m k u v p q l in omega arith
]

module _ (w x : ℕ → ℕ) (d : ℕ) (some : (i : ℕ) → i < d → 0 < w i) (falls : (i j : ℕ) → i ≤ j → j < d → x j ≤ x i) where
  pub first_least : (f : ℕ → ℕ) → IsFirst (error_between w x) d f → AreLeast w x d 1 f
  first_least f first e [] b in' h = omega (arith, first b in', no_less w x d some falls e 0 b (omega arith) in')
  first_least f first e (g ∷ es) b in' h = absurd (omega arith)

  -- the last levels go to the least entry, and the others to the rest
  parted : (m k : ℕ) (es : List ℕ) → m ≤ k → All (λ j. m ≤ j) es → (n : ℕ) → n ≤ d
      → (a : ℕ) × (a ≤ n) × (total w x (near k es) a + error_to w x m n ≤ total w x (near m (k ∷ es)) n + error_to w x m a)
  parted m k es p all zero in' = (0, omega arith, omega arith)
  parted m k es p all (suc n) in' = elim (cases_lt (squared_difference m (x n)) (near k es (x n))) [
    | inl l ↦
        let h = parted m k es p all n (omega arith) in
        let one : near m (k ∷ es) (x n) ≡ squared_difference m (x n) = omega arith in
        (h.0, omega (arith, h.1), omega (arith, h.2, ap (λ j. w n * j) one))
    | inr l ↦ (
      suc n,
      omega arith,
      omega (arith, at_most w x (near k es) (near m (k ∷ es)) (suc n) (λ i q. omega (arith, wins m k es (x n) (x i) (falls i n (omega arith) in') p all l))),
    )
  ]

  module _ (k : ℕ) (e f start : ℕ → ℕ) (next : IsNext (error_between w x) d e f start) (no_worse : (b : ℕ) → b ≤ d → f b ≤ e b) (least : AreLeast w x d k e) where
    next_by : (m : ℕ) (es : List ℕ) → All (λ j. m ≤ j) es → (b : ℕ) → b ≤ d → length es < suc k → 0 < k → f b ≤ total w x (near m es) b
    next_by m es all zero in' h pos = omega (arith, next.none)
    next_by m [] all (suc b) in' h pos = omega (arith, no_worse (suc b) in', least m [] (suc b) in' pos)
    next_by m (j ∷ es) all (suc b) in' h pos =
        let s = parted m j es (All-head (λ i. m ≤ i) j es all) (All-tail (λ i. m ≤ i) j es all) (suc b) in' in
        let rest : e s.0 ≤ total w x (near j es) s.0 = least j es s.0 (omega (arith, s.1)) (omega arith) in
        elim (cases_lt s.0 (suc b)) [
          | inl l ↦ omega (arith, rest, s.2, next.least s.0 b (omega arith) in', no_less w x d some falls m s.0 (suc b) s.1 in')
          | inr l ↦
              let same : s.0 ≡ suc b = omega (arith, s.1) in
              omega (arith, no_worse (suc b) in', (rw same at rest), (rw same at s.2))
        ]

    pub next_least : 0 < k → AreLeast w x d (suc k) f
    next_least pos m es b in' h =
        let first = least_first m es in
        omega (
          arith,
          next_by first.0 first.1 first.4 b in' (omega (arith, first.2)) pos,
          at_most w x (near first.0 first.1) (near m es) b (λ i q. omega (arith, first.5 (x i))),
        )
