-- Squares of differences, as lanes of 16 bits compute them.
use Rattle.std.proofs.Common.{◌≡◌, ℕ, ◌+◌, ◌-◌, ◌*◌, ◌%◌, ◌^◌, ◌<◌, ◌≤◌, List, [], ◌∷◌, length, map, refl, ap, ◌∙◌, arith, replicate, inl, inr, Fits, w8}
use lib.Lanes.{zip2, Each1}
use Rattle.std.proofs.lemmas.Bool.{cases_lt}
use Rattle.std.proofs.lemmas.Simd.{zip2_of_maps, splat_is_map}
use Rattle.std.proofs.Math.Nat.{mul-le-mul}
use Rattle.pix_table.specs.matching.Nearest.{squared_difference}

-- the operations of a lane of 16 bits
abbrev sub : ℕ → ℕ → ℕ
sub x y = (x + (2 ^ 16 - y)) % 2 ^ 16

abbrev mul : ℕ → ℕ → ℕ
mul x y = x * y % 2 ^ 16

abbrev same : ℕ → ℕ
same x = x

small : (k : ℕ) → k ≤ 255 → k * k ≤ 65025
small k h = mul-le-mul {n₁ = k} {m₁ = k} {n₂ = 255} {m₂ = 255} (omega arith) (omega arith)

-- j is 2^16 less k
wraps : (j k : ℕ) → j + k ≡ 65536 → k ≤ 255 → j * j % 65536 ≡ k * k
wraps j k sum h =
    let first : j * j + k * j ≡ 65536 * j = grind (arith, ap (λ n. n * j) sum) in
    let second : k * j + k * k ≡ 65536 * k = grind (arith, ap (λ n. k * n) sum) in
    omega (arith, first, second, small k h)

square : (x y : ℕ) → x < 256 → y < 256 → mul (sub x y) (sub x y) ≡ squared_difference x y
square x y a b = elim (cases_lt x y) [
  | inl c ↦
      let d : sub x y ≡ 65536 - (y - x) = omega arith in
      let e : (x - y) + (y - x) ≡ y - x = omega arith in
      rw (d, e) (wraps (65536 - (y - x)) (y - x) (omega arith) (omega arith))
  | inr c ↦
      let d : sub x y ≡ x - y = omega arith in
      let e : (x - y) + (y - x) ≡ x - y = omega arith in
      rw (d, e) (omega (arith, small (x - y) (omega arith)))
]

squares_each : (y : ℕ) → y < 256 → (xs : List ℕ) → Each1 (Fits w8) xs → map (λ x. mul (sub x y) (sub x y)) xs ≡ map (λ x. squared_difference x y) xs
squares_each y b [] h = refl
squares_each y b (x ∷ xs) h = grind (arith, square x y h.0.fits b, squares_each y b xs h.1)

pub squares_are : (xs : List ℕ) (y z : ℕ) → z ≡ y → length xs ≡ 16 → y < 256 → Each1 (Fits w8) xs
    → zip2 mul (zip2 sub (map same xs) (replicate 16 z)) (zip2 sub (map same xs) (replicate 16 z)) ≡ map (λ x. squared_difference x y) xs
squares_are xs y z e long below fits =
    let splat : replicate 16 z ≡ map (λ _. y) xs = rw e (splat_is_map xs 16 y long) in
    let apart = zip2_of_maps sub same (λ _. y) xs refl splat in
    zip2_of_maps mul _ _ xs apart apart ∙ squares_each y below xs fits
