-- The errors of levels of gray that lie crossed: those of two spans of which neither is within the other are in all no
-- more than those of the two that begin and end where these do.
use Rattle.std.proofs.Common.{◌≡◌, ℕ, zero, suc, ◌+◌, ◌-◌, ◌<◌, ◌≤◌, arith, inl, inr}
use Rattle.std.proofs.lemmas.Bool.{cases_lt}
use Rattle.std.proofs.lemmas.Nat.{mul-le}
use Rattle.pix_table.specs.matching.Nearest.{squared_difference}
use Rattle.pix_table.specs.quantization.Totals.{error_between}
use Rattle.pix_table.proofs.lemmas.quantization.Totals.{grows}
use Rattle.pix_table.proofs.lemmas.quantization.SpanErrors.{mean, error_to, made, none, least, last_below, first_above}

-- a number that is farther from another one on the same side
pub farther : (p q v : ℕ) → (p - v) + (v - p) ≤ (q - v) + (v - q) → squared_difference p v ≤ squared_difference q v
farther p q v h = mul-le ((p - v) + (v - p)) ((p - v) + (v - p)) ((q - v) + (v - q)) ((q - v) + (v - q)) h h

module _ (w x : ℕ → ℕ) (d : ℕ) (some : (i : ℕ) → i < d → 0 < w i) (falls : (i j : ℕ) → i ≤ j → j < d → x j ≤ x i) where
  pub no_less : (e a b : ℕ) → a ≤ b → b ≤ d → error_between w x a b + error_to w x e a ≤ error_to w x e b
  no_less e a b h in' = elim (cases_lt a b) [
    | inl l ↦ least w x d some falls e a b l in'
    | inr l ↦ let same : a ≡ b = omega arith in rw same (omega (arith, none w x b))
  ]

  -- the first mean is no smaller than the second
  high : (i j a b : ℕ) → i ≤ j → j ≤ a → suc a ≤ b → b ≤ d → mean w x j (suc a) ≤ mean w x i b
      → error_between w x i (suc a) + error_between w x j b ≤ error_between w x i b + error_between w x j (suc a)
  high i j a b p q r in' less =
      let e : ℕ = mean w x i b in
      let f : ℕ = mean w x j (suc a) in
      let more = grows w x (λ v. squared_difference f v) (λ v. squared_difference e v) (suc a) b r
      (λ k l m. farther f e (x k) (omega (arith, less, falls a k (omega arith) (omega arith), last_below w x d some falls j a q (omega arith)))) in
      omega (
        arith,
        more,
        no_less e i (suc a) (omega arith) (omega arith),
        no_less f j b (omega arith) in',
        made w x i b (omega arith),
        made w x j (suc a) (omega arith),
      )

  low : (i j a b : ℕ) → i ≤ j → j < a → a ≤ b → b ≤ d → mean w x i b ≤ mean w x j a
      → error_between w x i a + error_between w x j b ≤ error_between w x i b + error_between w x j a
  low i j a b p q r in' less =
      let e : ℕ = mean w x i b in
      let f : ℕ = mean w x j a in
      let more = grows w x (λ v. squared_difference f v) (λ v. squared_difference e v) i j p
      (λ k l m. farther f e (x k) (omega (arith, less, falls k j (omega arith) (omega arith), first_above w x d some falls j a q (omega arith)))) in
      omega (
        arith,
        more,
        no_less f i a (omega arith) (omega arith),
        no_less e j b (omega arith) in',
        made w x i b (omega arith),
        made w x j a (omega arith),
      )

  -- one span within another
  parted : (i a b : ℕ) → i ≤ a → a ≤ b → b ≤ d → error_between w x i a + error_between w x a b ≤ error_between w x i b
  parted i a b p q in' =
      let e : ℕ = mean w x i b in
      omega (arith, no_less e i a p (omega arith), no_less e a b q in', made w x i b (omega arith))

  crossed_at : (i j a b : ℕ) → i ≤ j → j < a → a ≤ b → b ≤ d
      → error_between w x i a + error_between w x j b ≤ error_between w x i b + error_between w x j a
  crossed_at i j zero b p q r in' = absurd (omega arith)
  crossed_at i j (suc a) b p q r in' = elim (cases_lt (mean w x i b) (mean w x j (suc a))) [
    | inl l ↦ low i j (suc a) b p q r in' (omega arith)
    | inr l ↦ high i j a b p (omega arith) r in' l
  ]

  pub crossed : (i j a b : ℕ) → i ≤ j → j ≤ a → a ≤ b → b ≤ d
      → error_between w x i a + error_between w x j b ≤ error_between w x i b + error_between w x j a
  crossed i j a b p q r in' = elim (cases_lt j a) [
    | inl l ↦ crossed_at i j a b p l r in'
    | inr l ↦ let same : j ≡ a = omega arith in rw same (omega (arith, parted i a b (omega arith) r in', none w x a))
  ]
