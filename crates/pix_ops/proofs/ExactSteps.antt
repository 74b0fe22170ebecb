-- How far two exact composites of one source come apart, when they begin apart.
-- The source is the channel m and the alpha n of the whole f; e is the whole of the destinations.
use Rattle.std.specs.Prelude.{⊤, Bool, true}
use Rattle.std.proofs.Common.{◌≡◌, ℕ, ◌+◌, ◌-◌, ◌*◌, ◌≤◌, min, refl, ap, inl, inr, arith, mul-le-mul_left, mul-le-mul_right}
use Rattle.std.proofs.lemmas.Bool.{cases_lt}
use Rattle.pix_ops.specs.declared.ops.Op.{Op}
use Rattle.pix_ops.specs.Operators.{Coefficient, Zero, One, OtherAlpha, OneMinusAlpha, row, reads, enters, leaves_room}
use Rattle.pix_ops.specs.ExactComposite.{weight, Within}
use Rattle.pix_ops.proofs.Table.{passed_by_each}
use Rattle.pix_ops.proofs.Within.{within_cut, within_more, within_times, min_times, rest_times}

-- an exact composite by its coefficients
abbrev pub exact_by : Coefficient → Coefficient → ℕ → ℕ → ℕ → ℕ → ℕ → ℕ → ℕ
exact_by a b m n f e d da = min (f * e) (m * weight a e da + d * weight b f n)

weight_times : (a : Coefficient) (max alpha w : ℕ) → alpha ≤ max → weight a max alpha * w ≡ weight a (max * w) (alpha * w)
weight_times Zero max alpha w l = omega arith
weight_times One max alpha w l = refl
weight_times OtherAlpha max alpha w l = refl
weight_times OneMinusAlpha max alpha w l = omega (arith, rest_times max alpha w l, mul-le-mul_right w l)

-- an exact composite, times w, is the exact composite of the fractions over w
pub exact_times : (a b : Coefficient) (max m n f d da w : ℕ) → da ≤ max
    → exact_by a b m n f max d da * w ≡ exact_by a b m n f (max * w) (d * w) (da * w)
exact_times a b max m n f d da w l =
    let e = ap (λ (x : ℕ). m * x) (weight_times a max da w l) in
    let sums : (m * weight a max da + d * weight b f n) * w ≡ m * weight a (max * w) (da * w) + d * w * weight b f n = omega arith in
    let wholes : f * max * w ≡ f * (max * w) = omega arith in
    rw (min_times (f * max) (m * weight a max da + d * weight b f n) w, sums, wholes)

-- no weight passes the whole
weight_small : (b : Coefficient) (f n : ℕ) → n ≤ f → weight b f n ≤ enters b * f
weight_small Zero f n l = omega arith
weight_small One f n l = omega arith
weight_small OtherAlpha f n l = omega arith
weight_small OneMinusAlpha f n l = omega arith

pub weight_below : (b : Coefficient) (f n : ℕ) → n ≤ f → weight b f n ≤ f
weight_below Zero f n l = omega arith
weight_below One f n l = omega arith
weight_below OtherAlpha f n l = omega arith
weight_below OneMinusAlpha f n l = omega arith

source_moves : (a : Coefficient) (m e z y h : ℕ) → z ≤ e → y ≤ e → Within h z y → Within (reads a * (m * h)) (m * weight a e z) (m * weight a e y)
source_moves Zero m e z y h lz ly p = omega arith
source_moves One m e z y h lz ly p = omega arith
source_moves OtherAlpha m e z y h lz ly p = omega (arith, mul-le-mul_left m p.above, mul-le-mul_left m p.below)
source_moves OneMinusAlpha m e z y h lz ly p =
    let q : Within h (e - z) (e - y) = omega arith in
    omega (arith, mul-le-mul_left m q.above, mul-le-mul_left m q.below)

-- a channel that begins g apart, beside an alpha that begins h apart
pub channel_moves : (a b : Coefficient) (m n f e c z d y g h : ℕ) → z ≤ e → y ≤ e → Within g c d → Within h z y
    → Within (reads a * (m * h) + g * weight b f n) (exact_by a b m n f e c z) (exact_by a b m n f e d y)
channel_moves a b m n f e c z d y g h lz ly p q =
    let source = source_moves a m e z y h lz ly q in
    let dest = within_times (weight b f n) g c d p in
    omega arith

-- the same in units: at most what enters
pub channel_stays : (a b : Coefficient) (m n f e c z d y g h : ℕ) → m ≤ f → n ≤ f → z ≤ e → y ≤ e → Within g c d → Within h z y
    → Within ((enters b * g + reads a * h) * f) (exact_by a b m n f e c z) (exact_by a b m n f e d y)
channel_stays a b m n f e c z d y g h lm ln lz ly p q =
    let moved = channel_moves a b m n f e c z d y g h lz ly p q in
    let one = mul-le-mul_left (reads a) (mul-le-mul_right h lm) in
    let two = mul-le-mul_left g (weight_small b f n ln) in
    within_more _ _ _ _ (omega arith) moved

-- Where the source enters by the destination's alpha, its alpha n and the destination's weight q
-- don't pass the whole together.
abbrev pub Fits : Coefficient → ℕ → ℕ → ℕ → Type 0
Fits Zero n q f = ⊤
Fits One n q f = ⊤
Fits OtherAlpha n q f = n + q ≤ f
Fits OneMinusAlpha n q f = ⊤

-- whether this holds for two coefficients: where the source's reads the destination's alpha, the
-- destination's leaves room
abbrev pair_fits : Coefficient → Coefficient → Bool
pair_fits Zero b = true
pair_fits One b = true
pair_fits OtherAlpha b = leaves_room b
pair_fits OneMinusAlpha b = true

pair_keeps : (a b : Coefficient) (n f : ℕ) → pair_fits a b ≡ true → n ≤ f → Fits a n (weight b f n) f
pair_keeps Zero b n f fits l = tt
pair_keeps One b n f fits l = tt
pair_keeps OtherAlpha Zero n f fits l = omega arith
pair_keeps OtherAlpha One n f fits l = absurd (cc)
pair_keeps OtherAlpha OtherAlpha n f fits l = absurd (cc)
pair_keeps OtherAlpha OneMinusAlpha n f fits l = omega arith
pair_keeps OneMinusAlpha b n f fits l = tt

-- it holds of all operators, and not of each pair of coefficients
pub operators_fit : (op : Op) (n f : ℕ) → n ≤ f → Fits (row op).source n (weight (row op).dest f n) f
operators_fit op n f l =
    let test : Op → Bool = λ op. pair_fits (row op).source (row op).dest in
    pair_keeps (row op).source (row op).dest n f (passed_by_each test refl op) l

-- The alpha's composite moves at most `rate` times as far as its alpha. With a premultiplied
-- source, the distances of channel and alpha together, and twice the alpha's, stay at most v times
-- the whole.
pub record AlphaMoves (a : Coefficient) (n q f e z y h : ℕ) : Type 0 where
  pub rate : ℕ
  pub small : rate ≤ f
  pub moves : Within (rate * h) (n * weight a e z + z * q) (n * weight a e y + y * q)
  pub balanced : (m g v : ℕ) → m ≤ n → g + h ≤ v → 2 * h ≤ v → reads a * (m * h) + g * q + rate * h ≤ f * v

balanced_by_weight : (q f g h v : ℕ) → q ≤ f → g + h ≤ v → g * q + q * h ≤ f * v
balanced_by_weight q f g h v l s = omega (arith, mul-le-mul_left q s, mul-le-mul_right v l)

pub alpha_moves : (a : Coefficient) (n q f e z y h : ℕ) → n ≤ f → q ≤ f → Fits a n q f → z ≤ e → y ≤ e → Within h z y → AlphaMoves a n q f e z y h
alpha_moves Zero n q f e z y h ln lq fits lz ly p = record {
  rate = q;
  small = lq;
  moves = omega (arith, mul-le-mul_left q p.above, mul-le-mul_left q p.below);
  balanced = λ m g v lm s t. omega (arith, balanced_by_weight q f g h v lq s);
}
alpha_moves One n q f e z y h ln lq fits lz ly p = record {
  rate = q;
  small = lq;
  moves = omega (arith, mul-le-mul_left q p.above, mul-le-mul_left q p.below);
  balanced = λ m g v lm s t. omega (arith, balanced_by_weight q f g h v lq s);
}
alpha_moves OtherAlpha n q f e z y h ln lq fits lz ly p = record {
  rate = n + q;
  small = fits;
  moves = omega (arith, mul-le-mul_left (n + q) p.above, mul-le-mul_left (n + q) p.below);
  balanced = λ m g v lm s t. omega (arith, mul-le-mul_right h lm, mul-le-mul_left q s, mul-le-mul_left n t, mul-le-mul_right v fits);
}
alpha_moves OneMinusAlpha n q f e z y h ln lq fits lz ly p = elim (cases_lt q n) [
  | inl lt ↦
      let le : q ≤ n = omega arith in
      record {
        rate = n - q;
        small = omega arith;
        moves = omega (arith, mul-le-mul_left (n - q) p.above, mul-le-mul_left (n - q) p.below, rest_times e z n lz, rest_times e y n ly, rest_times n q z le, rest_times n q y le);
        balanced = λ m g v lm s t. omega (arith, mul-le-mul_right h lm, mul-le-mul_left q s, mul-le-mul_left (n - q) t, mul-le-mul_right v ln, rest_times n q h le, rest_times n q v le);
      }
  | inr le ↦
      record {
        rate = q - n;
        small = omega arith;
        moves = omega (arith, mul-le-mul_left (q - n) p.above, mul-le-mul_left (q - n) p.below, rest_times e z n lz, rest_times e y n ly, rest_times q n z le, rest_times q n y le);
        balanced = λ m g v lm s t. omega (arith, mul-le-mul_right h lm, mul-le-mul_left q s, mul-le-mul_right v lq, rest_times q n h le);
      }
]

-- in units: an alpha moves at most as far as it was
pub alpha_stays : (a b : Coefficient) (n f e z y h : ℕ) → n ≤ f → Fits a n (weight b f n) f → z ≤ e → y ≤ e → Within h z y
    → Within (h * f) (exact_by a b n n f e z z) (exact_by a b n n f e y y)
alpha_stays a b n f e z y h ln fits lz ly p =
    let q = weight b f n in
    let step = alpha_moves a n q f e z y h ln (weight_below b f n ln) fits lz ly p in
    let moved : Within (step.rate * h) (exact_by a b n n f e z z) (exact_by a b n n f e y y) = within_cut (f * e) (step.rate * h) (n * weight a e z + z * q) (n * weight a e y + y * q) step.moves in
    within_more _ _ _ _ (omega (arith, mul-le-mul_right h step.small)) moved
