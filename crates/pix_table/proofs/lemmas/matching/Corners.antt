-- The corner of a box at which one color is as near as it can be, beside another.
use Rattle.std.specs.Prelude.{slice_index}
use Rattle.std.proofs.Common.{◌≡◌, ℕ, ◌+◌, ◌-◌, ◌*◌, ◌<◌, ◌≤◌, List, arith, sym, ap, subst, inl, inr}
use Rattle.std.proofs.Math.Nat.{add-mul, mul-add, mul_comm}
use Rattle.std.proofs.lemmas.Bool.{cases_lt, lt-ltb, le-ltb}
use Rattle.pix_table.specs.matching.Nearest.{squared_difference, distance}
use Rattle.pix_table.specs.matching.InverseMap.{IsWithin, IsInside, end}

product_apart : (a k : ℕ) → k * k + 2 * (a * (a + k)) ≡ a * a + (a + k) * (a + k)
product_apart a k = omega (arith, mul-add a a k, add-mul a k (a + k), mul-add k a k, mul_comm k a)

square_of_le : (a b : ℕ) → a ≤ b → squared_difference a b + 2 * (a * b) ≡ a * a + b * b
square_of_le a b le =
    let k = b - a in
    let sum : a + k ≡ b = omega arith in
    let apart : (a - b) + (b - a) ≡ k = omega arith in
    subst (λ n. n * n + 2 * (a * b) ≡ a * a + b * b) (sym apart) (subst (λ m. k * k + 2 * (a * m) ≡ a * a + m * m) sum (product_apart a k))

square_same : (a b : ℕ) → squared_difference a b ≡ squared_difference b a
square_same a b = let e : (a - b) + (b - a) ≡ (b - a) + (a - b) = omega arith in ap (λ n. n * n) e

-- the square of a difference, by products
square_apart : (a b : ℕ) → squared_difference a b + 2 * (a * b) ≡ a * a + b * b
square_apart a b = elim (cases_lt a b) [
  | inl l ↦ square_of_le a b (omega arith)
  | inr l ↦ omega (arith, square_of_le b a l, square_same a b, mul_comm a b)
]

products : (x c d f : ℕ) → x * (c + f) + (x + d) * c ≤ x * c + (x + d) * (c + f)
products x c d f = omega (arith, mul-add x c f, add-mul x d c, add-mul x d (c + f), mul-add d c f)

-- of two numbers in order and two more, the first of each and the second of each are nearer
-- together
ordered : (x y c e : ℕ) → x ≤ y → c ≤ e → squared_difference x c + squared_difference y e ≤ squared_difference x e + squared_difference y c
ordered x y c e le me =
    let sum : x + (y - x) ≡ y = omega arith in
    let more : c + (e - c) ≡ e = omega arith in
    let p : x * e + y * c ≤ x * c + y * e =
    subst (λ n. x * e + n * c ≤ x * c + n * e) sum (subst (λ n. x * n + (x + (y - x)) * c ≤ x * c + (x + (y - x)) * n) more (products x c (y - x) (e - c))) in
    omega (arith, p, square_apart x c, square_apart y e, square_apart x e, square_apart y c)

-- at the end of a box on the side of y as seen from x
at_end : (reach low x y c : ℕ) → IsWithin reach low c
    → squared_difference x c + squared_difference y (end reach low x y) ≤ squared_difference x (end reach low x y) + squared_difference y c
at_end reach low x y c inside = elim (cases_lt x y) [
  | inl b ↦ rw (lt-ltb x y b) (ordered x y c (low + reach) (omega arith) (inside.1))
  | inr b ↦ rw (le-ltb x y b) (let o = ordered y x low c b inside.0 in omega (arith, o))
]

-- one that is nearer to the corner is nearer to each color of the box
pub nearer_inside : (reach : ℕ) (low near far corner : List ℕ) → slice_index corner 0 ≡ end reach (slice_index low 0) (slice_index near 0) (slice_index far 0)
    → slice_index corner 1 ≡ end reach (slice_index low 1) (slice_index near 1) (slice_index far 1)
    → slice_index corner 2 ≡ end reach (slice_index low 2) (slice_index near 2) (slice_index far 2)
    → distance near corner < distance far corner → (color : List ℕ) → IsInside reach low color → distance near color < distance far color
nearer_inside reach low near far corner red green blue nearer color inside =
    let r = at_end reach (slice_index low 0) (slice_index near 0) (slice_index far 0) (slice_index color 0) inside.red in
    let g = at_end reach (slice_index low 1) (slice_index near 1) (slice_index far 1) (slice_index color 1) inside.green in
    let b = at_end reach (slice_index low 2) (slice_index near 2) (slice_index far 2) (slice_index color 2) inside.blue in
    let r2 = rw (← red) at r in
    let g2 = rw (← green) at g in
    let b2 = rw (← blue) at b in
    omega (arith, nearer, r2, g2, b2)
