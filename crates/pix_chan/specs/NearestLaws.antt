-- The laws of the nearest ratio. No public clause cites this file.
use Rattle.std.specs.Prelude.{◌≡◌, ℕ, ℤ, suc, pos, negsuc, ◌+ℤ◌, ◌*ℤ◌, ◌<ℤ◌, ◌≤ℤ◌, ◌+◌, ◌-◌, ◌*◌, ◌/◌, ◌<◌, ◌≤◌, ◌⊎◌, min, refl}
use Rattle.std.proofs.Common.{arith, ap, subst, sym, inl, inr}
use Rattle.std.proofs.Math.Nat.{mul-le-mul_right, div-mul-le_self, lt-mul-div-succ, eq-or-lt_of_le}
use Rattle.std.proofs.lemmas.Nat.{div_below}
use Rattle.std.proofs.lemmas.Bool.{cases_lt}
use Rattle.std.proofs.lemmas.Int.{ints}
use Rattle.pix_chan.specs.Nearest.{cut_below, nearest, distance, IsNearest}

-- how far a natural number a is from k times d
away_up : (a d k : ℕ) → distance (pos a) (pos d) k ≡ (k * d - a) + (a - k * d)
away_up a d k = omega (arith, ints)

away_down : (a d k : ℕ) → distance (negsuc a) (pos d) k ≡ k * d + suc a
away_down a d k = omega (arith, ints)

-- r is the nearest to a / d: 2 * a + d is between 2 * r * d and 2 * (r + 1) * d, but where r is 0
-- or the maximum
record Rounded (max a d r : ℕ) : Type 0 where
  pub fits : r ≤ max
  pub low : (r ≡ 0) ⊎ (2 * (r * d) ≤ 2 * a + d)
  pub high : (r ≡ max) ⊎ (2 * a < 2 * (r * d) + d)

-- no greater number is as near
greater : (a d r j : ℕ) → 0 < d → 2 * a < 2 * (r * d) + d → (r * d - a) + (a - r * d) < ((r + 1 + j) * d - a) + (a - (r + 1 + j) * d)
greater a d r j h u =
    let e : (r + 1 + j) * d ≡ r * d + d + j * d = omega arith in
    omega arith

-- no smaller number is nearer
smaller : (a d k j : ℕ) → 0 < d → 2 * ((k + 1 + j) * d) ≤ 2 * a + d → ((k + 1 + j) * d - a) + (a - (k + 1 + j) * d) ≤ (k * d - a) + (a - k * d)
smaller a d k j h u =
    let e : (k + 1 + j) * d ≡ k * d + d + j * d = omega arith in
    omega arith

greater_by : (max a d r k : ℕ) → Rounded max a d r → 0 < d → k ≤ max → r < k → (r * d - a) + (a - r * d) < (k * d - a) + (a - k * d)
greater_by max a d r k g h fits l =
    let e : k ≡ r + 1 + (k - r - 1) = omega arith in
    elim g.high [
      | inl z ↦ absurd (omega arith)
      | inr u ↦ subst (λ n. (r * d - a) + (a - r * d) < (n * d - a) + (a - n * d)) (sym e) (greater a d r (k - r - 1) h u)
    ]

smaller_by : (max a d r k : ℕ) → Rounded max a d r → 0 < d → k < r → (r * d - a) + (a - r * d) ≤ (k * d - a) + (a - k * d)
smaller_by max a d r k g h l =
    let e : r ≡ k + 1 + (r - k - 1) = omega arith in
    elim g.low [
      | inl z ↦ absurd (omega arith)
      | inr u ↦ subst (λ n. (n * d - a) + (a - n * d) ≤ (k * d - a) + (a - k * d)) (sym e)
          (smaller a d k (r - k - 1) h (subst (λ n. 2 * (n * d) ≤ 2 * a + d) e u))
    ]

rounded_by : (max a d q : ℕ) → 2 * (q * d) ≤ 2 * a + d → 2 * a < 2 * (q * d) + d → Rounded max a d (min max q)
rounded_by max a d q lo hi = elim (cases_lt q max) [
  | inl v ↦ let e : min max q ≡ q = omega arith in
      record { fits = omega arith; low = inr (subst (λ n. 2 * (n * d) ≤ 2 * a + d) (sym e) lo); high = inr (subst (λ n. 2 * a < 2 * (n * d) + d) (sym e) hi) }
  | inr u ↦ let e : min max q ≡ max = omega arith in
      let k : max * d ≤ q * d = mul-le-mul_right d u in
      record { fits = omega arith; low = inr (subst (λ n. 2 * (n * d) ≤ 2 * a + d) (sym e) (omega arith)); high = inl e }
]

rounded : (max a d : ℕ) → 0 < d → Rounded max a d (min max ((2 * a + d) / (2 * d)))
rounded max a d h =
    let lo : (2 * a + d) / (2 * d) * (2 * d) ≤ 2 * a + d = div-mul-le_self (2 * a + d) (2 * d) in
    let hi : 2 * a + d < 2 * d * ((2 * a + d) / (2 * d) + 1) = omega (arith, lt-mul-div-succ (2 * a + d) (let z : 0 < 2 * d = omega arith in z)) in
    rounded_by max a d ((2 * a + d) / (2 * d)) (omega arith) (omega arith)

-- an integer up to k stays up to k
cut_fits : (z : ℤ) (k : ℕ) → z ≤ℤ pos k → cut_below z ≤ k
cut_fits (pos n) k h = omega (arith, ints)
cut_fits (negsuc n) k h = omega arith

-- below 0 the nearest is 0
pub nearest_negative : (max a d : ℕ) → 0 < d → nearest max (negsuc a) (pos d) ≡ 0
unfolding nearest
nearest_negative max a d h =
    let few : cut_below (pos 2 *ℤ negsuc a +ℤ pos d) ≤ d = cut_fits (pos 2 *ℤ negsuc a +ℤ pos d) d (omega (arith, ints)) in
    omega (arith, div_below (cut_below (pos 2 *ℤ negsuc a +ℤ pos d)) (2 * d) 1 (omega arith) (omega arith))

-- from 0 on it is by natural numbers
pub nearest_natural : (max a d : ℕ) → nearest max (pos a) (pos d) ≡ min max ((2 * a + d) / (2 * d))
unfolding nearest
nearest_natural max a d = refl

-- the distances, by natural numbers
nearest_up : (max a d k : ℕ) → 0 < d → k ≤ max → (r : ℕ) → Rounded max a d r → distance (pos a) (pos d) r ≤ distance (pos a) (pos d) k
nearest_up max a d k h u r g = rw (away_up a d r, away_up a d k) (elim (cases_lt r k) [
  | inl l ↦ omega (arith, greater_by max a d r k g h u l)
  | inr l ↦ elim (eq-or-lt_of_le l) [
    | inl e ↦ omega (arith, ap (λ z. z * d) e)
    | inr v ↦ smaller_by max a d r k g h v
  ]
])

nearest_none_nearer : (max : ℕ) (n d : ℤ) (k : ℕ) → pos 0 <ℤ d → k ≤ max → distance n d (nearest max n d) ≤ distance n d k
nearest_none_nearer max n (negsuc d) k h u = absurd (omega (arith, ints))
nearest_none_nearer max (pos a) (pos d) k h u =
    let some : 0 < d = omega (arith, ints) in
    let g : Rounded max a d (nearest max (pos a) (pos d)) = rw (nearest_natural max a d) (rounded max a d some) in
    nearest_up max a d k some u _ g
nearest_none_nearer max (negsuc a) (pos d) k h u =
    let e : nearest max (negsuc a) (pos d) ≡ 0 = nearest_negative max a d (omega (arith, ints)) in
    subst (λ r. distance (negsuc a) (pos d) r ≤ distance (negsuc a) (pos d) k) (sym e) (omega (arith, away_down a d 0, away_down a d k))

nearest_ties_up : (max : ℕ) (n d : ℤ) (k : ℕ) → pos 0 <ℤ d → k ≤ max → nearest max n d < k → distance n d (nearest max n d) < distance n d k
nearest_ties_up max n (negsuc d) k h u l = absurd (omega (arith, ints))
nearest_ties_up max (pos a) (pos d) k h u l =
    let some : 0 < d = omega (arith, ints) in
    let g : Rounded max a d (nearest max (pos a) (pos d)) = rw (nearest_natural max a d) (rounded max a d some) in
    omega (arith, away_up a d (nearest max (pos a) (pos d)), away_up a d k, greater_by max a d _ k g some u l)
nearest_ties_up max (negsuc a) (pos d) k h u l =
    let some : 0 < d = omega (arith, ints) in
    let e : nearest max (negsuc a) (pos d) ≡ 0 = nearest_negative max a d some in
    let m : 0 < k = omega arith in
    let w : 1 * d ≤ k * d = mul-le-mul_right d m in
    subst (λ r. distance (negsuc a) (pos d) r < distance (negsuc a) (pos d) k) (sym e) (omega (arith, away_down a d 0, away_down a d k))

nearest_fits : (max : ℕ) (n d : ℤ) → nearest max n d ≤ max
unfolding nearest
nearest_fits max n d = omega arith

-- The nearest ratio keeps its laws, for every maximum.
pub nearest_laws : (max : ℕ) → IsNearest max (nearest max)
nearest_laws max = record { fits = nearest_fits max; none_nearer = nearest_none_nearer max; ties_up = nearest_ties_up max }
