-- pixels at points
use Rattle.std.proofs.Common.{◌≡◌, ℕ, ℤ, pos, ◌<◌, ◌≤◌, ◌+◌, ◌*◌, List, [], map, length, Some, ap, ◌∙◌, arith, inl, inr}
use Rattle.std.specs.List.{slice_get}
use Rattle.std.specs.Prelude.{slice_index_or, slice_set, replicate}
use Rattle.std.specs.Option.{option_map}
use Rattle.std.proofs.lemmas.Bool.{cases_lt}
use Rattle.std.proofs.lemmas.List.{get_or-map, get_or-replicate, get_or-set_same, get_or-set_other, length-replicate, length-set}
use Rattle.std.proofs.lemmas.Option.{slice_get-map, get_or_from_slice_get, slice_get-get_or, slice_get_within}
use Rattle.std.proofs.Math.Nat.{mul-le-mul_right}
use Rattle.pix.specs.Image.{Image, point}
use Rattle.pix.specs.Reach.{natural}

-- the numbers of the pixel that stands at a place of an image's list
pub read_at : {P : Type 0} (numbers : P → List ℕ) (pixels : List P) (k : ℕ) (pixel : P) → slice_get pixels k ≡ Some pixel
    → slice_index_or (map numbers pixels) k [] ≡ numbers pixel
read_at numbers pixels k pixel e = get_or_from_slice_get (map numbers pixels) k (numbers pixel) [] (slice_get-map numbers pixels k ∙ ap (option_map numbers) e)

-- the numbers of each pixel of an image of one color
pub point_of_one : {P : Type 0} (numbers : P → List ℕ) (image : Image P) (pixel : P) (height width x y : ℕ) → image.width ≡ width
    → image.pixels ≡ replicate (height * width) pixel → y * width + x < height * width → point numbers image x y ≡ numbers pixel
point_of_one numbers image pixel height width x y wide filled inside =
    let n : ℕ = height * width in
    let k : ℕ = y * width + x in
    let fits : k < length (replicate n pixel) = omega (arith, length-replicate n pixel) in
    rw (wide, filled) (get_or-map numbers (replicate n pixel) k pixel [] fits ∙ ap numbers (get_or-replicate n k pixel pixel inside))

-- one more pixel is written over
pub one_more : {P : Type 0} (pixels : List P) (pixel other : P) (n : ℕ) → slice_get pixels n ≡ Some other
    → ((k : ℕ) → k < n → slice_get pixels k ≡ Some pixel) → (k : ℕ) → k < n + 1 → slice_get (slice_set pixels n pixel) k ≡ Some pixel
one_more pixels pixel other n there before k h =
    let inside : n < length pixels = slice_get_within pixels n other there in
    let room : k < length (slice_set pixels n pixel) = omega (arith, length-set pixels n pixel) in
    slice_get-get_or (slice_set pixels n pixel) k pixel room ∙ ap (λ p. Some p) (
    elim (cases_lt k n) [
      | inl less ↦ get_or-set_other pixels n k pixel pixel (omega arith) ∙ get_or_from_slice_get pixels k pixel pixel (before k less)
      | inr more ↦ let e : k ≡ n = omega arith in ap (λ m. slice_index_or (slice_set pixels n pixel) m pixel) e ∙ get_or-set_same pixels n pixel pixel inside
    ])

-- the same at the point (x, y), by coordinates a and b
pub one_more_at : {P : Type 0} (pixels : List P) (pixel other : P) (width x y : ℕ) (a b : ℤ) → a ≡ pos x → b ≡ pos y
    → slice_get pixels (y * width + x) ≡ Some other → ((k : ℕ) → k < y * width + x → slice_get pixels k ≡ Some pixel)
    → (k : ℕ) → k < y * width + (x + 1) → slice_get (slice_set pixels (natural b * width + natural a) pixel) k ≡ Some pixel
one_more_at pixels pixel other width x y a b ea eb there before k h = rw (ea, eb) (one_more pixels pixel other (y * width + x) there before k (omega arith))

-- the place of a point of an image lies in its list
pub place_in : (width height x y : ℕ) → x < width → y < height → y * width + x < height * width
place_in width height x y hx hy = let k : (y + 1) * width ≤ height * width = mul-le-mul_right width (let l : y + 1 ≤ height = omega arith in l) in omega arith
