-- What a row of a picture at another size needs of both sides.
use Rattle.std.proofs.Common.{ℕ, ◌+◌, ◌-◌, ◌*◌, ◌/◌, ◌<◌, ◌≤◌, arith}
use Rattle.std.proofs.Math.Nat.{mul-le-mul_left}
use Rattle.std.proofs.lemmas.Nat.{le-div}
use Rattle.pix_scale.specs.Axis.{axis_of}
use Rattle.pix_scale.specs.Table.{IsSide, IsRow}
use Rattle.pix_scale.specs.declared.filter.Kernel.{Kernel}
use Rattle.pix_scale.specs.declared.filter.Kernel.TheVariants.{Point, Box, Line, Triangle}
use Rattle.pix_scale.proofs.Tables.{places_of}

-- the whole is positive
pub whole_some : (kernel : Kernel) (places size n m : ℕ) → IsSide kernel places size n m → 0 < (axis_of kernel places n m).whole
whole_some Point places size n m side = omega arith
whole_some Box places size n m side = side.some_n
whole_some Line places size n m side = let s = side.some_m in omega arith
whole_some Triangle places size n m side = omega arith

-- some place counts
pub taps_some : (kernel : Kernel) (places size n m : ℕ) → IsSide kernel places size n m → 0 < (axis_of kernel places n m).taps
taps_some Point places size n m side = let s = side.some_n in let t = side.short in omega arith
taps_some Box places size n m side =
    let s = side.some_n in let u = side.some_m in let t = side.short in
    let k : 1 ≤ (n + 2 * m - 2) / m = le-div 1 (n + 2 * m - 2) m u (omega arith) in
    omega (arith, k)
taps_some Line places size n m side = let s = side.some_n in let t = side.short in omega arith
taps_some Triangle places size n m side =
    let s = side.some_n in let u = side.some_m in let t = side.short in
    let k : 1 ≤ (2 * n + m - 1) / m = le-div 1 (2 * n + m - 1) m u (omega arith) in
    omega (arith, k)

-- a factor of a small product is small
pub factor_small : (a b k : ℕ) → 0 < b → a * b < k → a < k
factor_small a b k some lt = let e : a * 1 ≤ a * b = mul-le-mul_left a some in omega (arith, e)

-- the rows that a place of the new side needs lie in memory
pub rows_lie : (kernel : Kernel) (places size n m y first stride high len taps : ℕ) (weight : ℕ → ℕ) → IsRow (axis_of kernel places n m) y first taps weight
    → ((v : ℕ) → v < places → v * stride + high ≤ len) → (k : ℕ) → k < taps → (first + k) * stride + high ≤ len
rows_lie kernel places size n m y first stride high len taps weight row source k lt =
    let p = places_of kernel places n m in
    let i = row.inside in
    source (first + k) (omega (arith, p, i, lt))
