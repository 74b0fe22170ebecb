-- Sizes of images in rows that start a stride apart.
use Rattle.std.proofs.Common.{◌≡◌, ℕ, ◌+◌, ◌-◌, ◌*◌, ◌≤◌, true, false, Bool, arith}
use Rattle.std.specs.Prelude.{◌&&◌}
use Rattle.std.proofs.Math.Nat.{mul-le-mul_right}
use Rattle.std.proofs.lemmas.Bool.Decides.{nat_tests}
use Rattle.pix_raster.specs.View.{IsShaped}
use Rattle.pix_flat.specs.Status.{is_sized, is_placed, is_window}

and_right : (a b : Bool) → (a && b) ≡ true → b ≡ true
and_right true b e = e
and_right false b e = absurd (let f : false ≡ true = e in cc)

-- a size that is accepted
pub sized_is_shaped : (width height stride count : ℕ) → is_sized width height stride count ≡ true
    → IsShaped (record { width = width; height = height; stride = stride }) count
sized_is_shaped width height stride count e = record {
  wide = grind (arith, nat_tests);
  high = grind (arith, nat_tests);
  apart = grind (arith, nat_tests);
  last = λ y lt.
      let end : (height - 1) * stride + width ≤ count = grind (arith, nat_tests) in
      let up : y * stride ≤ (height - 1) * stride = mul-le-mul_right stride (let le : y ≤ height - 1 = omega arith in le) in
      omega arith;
}

-- so is that of a window that is one
pub sized_window : (left top width height stride count : ℕ) → is_window left top width height stride count ≡ true
    → (left + width ≤ 2147483647) × (top + height ≤ 2147483647) × (is_sized width height stride count ≡ true)
sized_window left top width height stride count e =
    let sized : is_sized width height stride count ≡ true = and_right (is_placed left width && is_placed top height) _ e in
    (grind (arith, nat_tests), grind (arith, nat_tests), sized)
