-- The order of pictures at another size, and pictures of one value.
use Rattle.std.specs.Prelude.{◌≡◌, ℕ, zero, suc, pos, ◌+◌, ◌*◌, ◌/◌, ◌%◌, ◌<◌, ◌≤◌}
use Rattle.std.proofs.Common.{inl, inr, arith, ap, subst, ◌∙◌}
use Rattle.std.specs.Int.{IsGcd}
use Rattle.std.proofs.Math.Nat.{mul-le-mul_left, mul-le-mul, div-mul-le_self, mod-lt}
use Rattle.std.proofs.lemmas.Bool.{cases_lt}
use Rattle.std.proofs.lemmas.Nat.{div_below, le-div}
use Rattle.std.proofs.lemmas.Nat.Gcd.{IsGcd-swap, IsGcd-from_mod, IsGcd-from_zero}
use Rattle.pix_chan.specs.Nearest.{nearest}
use Rattle.pix_chan.specs.NearestLaws.{nearest_natural}
use Rattle.pix_scale.specs.Axis.{total, Axis, IsAxis, axis_of, kernel_of, lowest, axis, scaled}
use Rattle.pix_scale.specs.Table.{IsSide}
use Rattle.pix_scale.proofs.Places.{column}
use Rattle.pix_scale.specs.declared.filter.Filter.{Filter}
use Rattle.pix_scale.proofs.Draws.{whole_some}
use Rattle.pix_scale.proofs.Kernels.{adds_up}
use Rattle.pix_scale.proofs.Ratios.{lowest_is, side_by, shrinks_of}
use Rattle.pix_scale.proofs.Sums.{total_le, total_times}
use Rattle.pix_scale.proofs.Tables.{places_of}

-- the sums of all columns are monotone
column_le : (down : Axis) (y : ℕ) (f g : ℕ → ℕ) → ((v : ℕ) → v < down.places → f v ≤ g v) → column down y f ≤ column down y g
column_le down y f g h = total_le down.places (λ v. down.weight y v * f v) (λ v. down.weight y v * g v) (λ v l. mul-le-mul_left (down.weight y v) (h v l))

column_const : (down : Axis) (y a : ℕ) → total down.places (down.weight y) ≡ down.whole → column down y (λ v. a) ≡ down.whole * a
column_const down y a e = total_times down.places a (down.weight y) ∙ ap (λ n. n * a) e

-- the sum of the whole picture
whole_sum : Axis → Axis → (ℕ → ℕ → ℕ) → ℕ → ℕ → ℕ
whole_sum across down get x y = total across.places (λ u. across.weight x u * column down y (get u))

whole_le : (across down : Axis) (f g : ℕ → ℕ → ℕ) (x y : ℕ) → ((u v : ℕ) → u < across.places → v < down.places → f u v ≤ g u v)
    → whole_sum across down f x y ≤ whole_sum across down g x y
unfolding whole_sum
whole_le across down f g x y h =
    total_le across.places (λ u. across.weight x u * column down y (f u)) (λ u. across.weight x u * column down y (g u))
    (λ u l. mul-le-mul_left (across.weight x u) (column_le down y (f u) (g u) (λ v m. h u v l m)))

whole_const : (across down : Axis) (x y a : ℕ) → total across.places (across.weight x) ≡ across.whole → total down.places (down.weight y) ≡ down.whole
    → whole_sum across down (λ u v. a) x y ≡ across.whole * down.whole * a
unfolding whole_sum
whole_const across down x y a e f =
    let t = total_times across.places (column down y (λ v. a)) (across.weight x) in
    let c = column_const down y a f in
    t ∙ rw (e, c) (omega arith)

-- a greater sum is rounded to a greater channel
nearest_le : (max a b d : ℕ) → 0 < d → a ≤ b → nearest max (pos a) (pos d) ≤ nearest max (pos b) (pos d)
nearest_le max a b d p h =
    let q = div-mul-le_self (2 * a + d) (2 * d) in
    let two : 0 < 2 * d = omega arith in
    let k : (2 * a + d) / (2 * d) ≤ (2 * b + d) / (2 * d) = le-div ((2 * a + d) / (2 * d)) (2 * b + d) (2 * d) two (omega (arith, q)) in
    rw (nearest_natural max a d, nearest_natural max b d) (omega (arith, k))

-- a multiple of the whole is rounded to itself
pub nearest_whole : (max a d : ℕ) → 0 < d → a ≤ max → nearest max (pos (d * a)) (pos d) ≡ a
nearest_whole max a d p h =
    let two : 0 < 2 * d = omega arith in
    let lo : a ≤ (2 * (d * a) + d) / (2 * d) = le-div a (2 * (d * a) + d) (2 * d) two (omega arith) in
    let hi : (2 * (d * a) + d) / (2 * d) < suc a = div_below (2 * (d * a) + d) (2 * d) (suc a) two (omega arith) in
    rw (nearest_natural max (d * a) d) (omega (arith, lo, hi))

pub scaled_le : (max : ℕ) (across down : Axis) (f g : ℕ → ℕ → ℕ) (x y : ℕ) → 0 < across.whole * down.whole
    → ((u v : ℕ) → u < across.places → v < down.places → f u v ≤ g u v)
    → scaled max across down f x y ≤ scaled max across down g x y
unfolding whole_sum
scaled_le max across down f g x y p h =
    nearest_le max (whole_sum across down f x y) (whole_sum across down g x y) (across.whole * down.whole) p (whole_le across down f g x y h)

pub positive : (a b : ℕ) → 0 < a → 0 < b → 0 < a * b
positive a b p q = let k : 1 * 1 ≤ a * b = mul-le-mul p q in omega (arith, k)

pub scaled_const : (max : ℕ) (across down : Axis) (width height x y a : ℕ) → IsAxis across width → IsAxis down height
    → x < width → y < height → a ≤ max → scaled max across down (λ u v. a) x y ≡ a
unfolding whole_sum
scaled_const max across down width height x y a r s lx ly h =
    ap (λ s. nearest max (pos s) (pos (across.whole * down.whole))) (whole_const across down x y a (r.adds_up x lx) (s.adds_up y ly))
    ∙ nearest_whole max a (across.whole * down.whole) (positive across.whole down.whole r.some s.some) h

-- the greatest common divisor, which there is
record Gcd (a b : ℕ) : Type 0 where
  divisor : ℕ
  some : 0 < divisor
  is : IsGcd a b divisor

has_gcd : (k a b : ℕ) → b < k → 0 < a → Gcd a b
has_gcd zero a b lt some = absurd (omega arith)
has_gcd (suc k) a b lt some = elim (cases_lt 0 b) [
  | inl l ↦
      let less = mod-lt a l in
      let rest = has_gcd k b (a % b) (omega (arith, less)) l in
      record { divisor = rest.divisor; some = rest.some; is = IsGcd-from_mod a b rest.divisor rest.is }
  | inr l ↦ record { divisor = a; some = some; is = IsGcd-from_zero a b (omega arith) }
]

-- the side of a filter, in lowest terms
pub side_of : (filter : Filter) (n m : ℕ) → 0 < n → 0 < m → n ≤ 65535 → IsSide (kernel_of filter n m) n m (lowest n m) (lowest m n)
side_of filter n m p q few =
    let g = has_gcd (suc m) n m (omega arith) p in
    let e : n / g.divisor ≡ lowest n m = lowest_is n m g.divisor p q g.some g.is in
    let f : m / g.divisor ≡ lowest m n = lowest_is m n g.divisor q p g.some (IsGcd-swap n m g.divisor g.is) in
    let side = side_by (kernel_of filter n m) n m g.divisor p q g.some few g.is (shrinks_of filter n m) in
    subst (λ b. IsSide (kernel_of filter n m) n m (lowest n m) b) f
    (subst (λ a. IsSide (kernel_of filter n m) n m a (m / g.divisor)) e side)

pub filters_add_up : (filter : Filter) (n m : ℕ) → 0 < n → 0 < m → n ≤ 65535 → IsAxis (axis filter n m) m
filters_add_up filter n m p q few =
    let kernel = kernel_of filter n m in
    let side = side_of filter n m p q few in
    record {
      some = whole_some kernel n m (lowest n m) (lowest m n) side;
      adds_up = λ i lt.
          ap (λ k. total k ((axis_of kernel n (lowest n m) (lowest m n)).weight i)) (places_of kernel n (lowest n m) (lowest m n))
          ∙ adds_up kernel n m (lowest n m) (lowest m n) i side lt;
    }
