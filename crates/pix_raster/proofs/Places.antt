-- The places of an image's points in its list.
use Rattle.std.proofs.Common.{◌≡◌, ℕ, ◌+◌, ◌*◌, ◌<◌, ◌≤◌, ℤ, pos, length, get_or, arith}
use Rattle.std.specs.Prelude.{slice_get, Some}
use Rattle.std.proofs.lemmas.Option.{slice_get_read}
use Rattle.std.proofs.lemmas.Int.{ints}
use Rattle.std.proofs.Math.Nat.{mul-le-mul_right}
use lib.IntN.{nat_abs, negsuc}
use Rattle.pix_raster.specs.Image.{Image, IsPoint}

-- the place of a point is one of the list's
pub place_within : (x y w h : ℕ) → x < w → y < h → y * w + x < h * w
place_within x y w h lx ly =
    let rows : (y + 1) * w ≤ h * w = mul-le-mul_right w (let k : y + 1 ≤ h = omega arith in k) in
    omega arith

-- the same for coordinates that may be negative
pub point_within : {P : Type 0} (image : Image P) (x y : ℤ) → IsPoint image x y → nat_abs y * image.width + nat_abs x < image.height * image.width
point_within image (pos x) (pos y) p = place_within x y image.width image.height (omega (arith, ints, p.right)) (omega (arith, ints, p.bottom))
point_within image (negsuc x) y p = absurd (omega (arith, ints, p.left))
point_within image (pos x) (negsuc y) p = absurd (omega (arith, ints, p.top))

-- what is read at the place of a point is the pixel there
pub pixel_read : {P : Type 0} (image : Image P) (x y : ℤ) (long : ℕ) (pixel : P) → IsPoint image x y → long ≡ length image.pixels → long ≡ image.height * image.width
    → pixel ≡ get_or image.pixels (nat_abs y * image.width + nat_abs x) pixel
    → (column row : ℕ) → x ≡ pos column → y ≡ pos row → slice_get image.pixels (row * image.width + column) ≡ Some pixel
pixel_read image x y long pixel there is fits read column row ex ey =
    let within : nat_abs y * image.width + nat_abs x < long = rw fits (point_within image x y there) in
    slice_get_read image.pixels long (row * image.width + column) pixel is (rw (ex, ey) at within) (rw (ex, ey) at read)
