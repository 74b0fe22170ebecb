-- what stands at each point once a run of a row was written over
use Rattle.std.proofs.Common.{◌≡◌, ℕ, ◌<◌, ◌≤◌, ◌+◌, ◌-◌, ◌*◌, List, ◌++◌, length, get_or, take, drop, ℤ, pos, ◌+ℤ◌, ◌<ℤ◌, ◌≤ℤ◌, Bool, true, false, refl, ap, ◌∙◌, arith, length-append, length-drop, cond, inl, inr, nat_lt, nat_le, nat_eq}
use Rattle.std.specs.Prelude.{◌&&◌, int_lt, slice_range}
use Rattle.std.specs.Int.{int_min, int_max, int_gap}
use Rattle.std.proofs.lemmas.Int.{ints, clamps}
use lib.IntN.{negsuc}
use Rattle.std.proofs.Math.Seq.{take-append_seam}
use Rattle.std.proofs.lemmas.List.{get_or_append_left, get_or-append_right, get_or-take, get_or-drop, length-take, length-take-le}
use Rattle.std.proofs.lemmas.Bool.{cases_lt, cases_order}
use Rattle.std.proofs.lemmas.Bool.Decides.{nat_tests}
use Rattle.std.proofs.Math.Nat.{mul-le-mul_right}
use Rattle.pix_raster.specs.Image.{Image}
use Rattle.pix_raster.specs.Region.{Rectangle, right, bottom, has_row, between}
use Rattle.pix_raster.specs.Reach.{natural}
use Rattle.pix_raster.specs.Rows.{clipped}
use Rattle.pix_raster.specs.Written.{with_run, IsRow}
use Rattle.pix_raster.specs.Clip.{row_start, row_end}
use Rattle.pix_raster.proofs.Rectangles.{gap_leads}
use Rattle.pix_raster.proofs.WrittenLemmas.{row_has_pixels, row_is}

-- one run, of a list of pixels that has room for it
module _ {P : Type 0} (image : Image P) (a : ℕ) (ws : List P) (fits : a + length ws ≤ length image.pixels) where
  abbrev over : List P
  over = take a image.pixels ++ (ws ++ drop (length ws) (drop a image.pixels))

  length-over : length over ≡ length image.pixels
  length-over = omega (arith, length-append (take a image.pixels) (ws ++ drop (length ws) (drop a image.pixels)), length-append ws (drop (length ws) (drop a image.pixels)), length-take-le a image.pixels (omega arith), length-drop (length ws) (drop a image.pixels), length-drop a image.pixels)

  with_run-is : (with_run image a ws).pixels ≡ over
  with_run-is = ap (λ n. take n (over ++ drop (length over) image.pixels)) (let e : length image.pixels ≡ length over = omega (arith, length-over) in e) ∙ take-append_seam over (drop (length over) image.pixels)

  front : length (take a image.pixels) ≡ a
  front = length-take-le a image.pixels (omega arith)

  inside : (d : P) (p : ℕ) → a ≤ p → p < a + length ws → get_or over p d ≡ get_or ws (p - a) d
  inside d p h1 h2 = get_or-append_right (take a image.pixels) _ a p d front h1 ∙ get_or_append_left ws _ d (p - a) (omega arith)

  before : (d : P) (p : ℕ) → p < a → get_or over p d ≡ get_or image.pixels p d
  before d p h = get_or_append_left (take a image.pixels) _ d p (omega (arith, front)) ∙ get_or-take a image.pixels p d h

  after : (d : P) (p : ℕ) → a + length ws ≤ p → get_or over p d ≡ get_or image.pixels p d
  after d p h =
      get_or-append_right (take a image.pixels) _ a p d front (omega arith) ∙ get_or-append_right ws _ (length ws) (p - a) d (omega arith) (omega arith)
      ∙ get_or-drop (length ws) (drop a image.pixels) (p - a - length ws) d ∙ get_or-drop a image.pixels (length ws + (p - a - length ws)) d ∙ ap (λ m. get_or image.pixels m d) (omega arith)

-- ws stands in row y0 from column lo on, and all else stays
pub with_run-points : {P : Type 0} (image : Image P) (lo y0 : ℕ) (ws : List P) → lo + length ws ≤ image.width → y0 * image.width + lo + length ws ≤ length image.pixels → (d : P) (x y : ℕ) → x < image.width
    → get_or (with_run image (y0 * image.width + lo) ws).pixels (y * image.width + x) d ≡ cond (nat_eq y y0 && (nat_le lo x && nat_lt x (lo + length ws))) (get_or ws (x - lo) d) (get_or image.pixels (y * image.width + x) d)
with_run-points image lo y0 ws across fits d x y lt =
    let a : ℕ = y0 * image.width + lo in
    ap (λ l. get_or l (y * image.width + x) d) (with_run-is image a ws fits) ∙
    elim (cases_order y y0) [
      | inl e ↦
          let p : y * image.width ≡ y0 * image.width = ap (λ n. n * image.width) e in
          elim (cases_lt x lo) [
            | inl b ↦ before image a ws fits d (y * image.width + x) (omega arith) ∙ grind (arith, nat_tests)
            | inr b ↦ elim (cases_lt x (lo + length ws)) [
              | inl b2 ↦
                  let m : y * image.width + x - a ≡ x - lo = omega arith in
                  inside image a ws fits d (y * image.width + x) (omega arith) (omega arith) ∙ ap (λ n. get_or ws n d) m ∙ grind (arith, nat_tests)
              | inr b2 ↦ after image a ws fits d (y * image.width + x) (omega arith) ∙ grind (arith, nat_tests)
            ]
          ]
      | inr o ↦ elim o [
        | inl b ↦
            let p : (y + 1) * image.width ≤ y0 * image.width = mul-le-mul_right image.width (let q : y + 1 ≤ y0 = omega arith in q) in
            before image a ws fits d (y * image.width + x) (omega arith) ∙ grind (arith, nat_tests)
        | inr b ↦
            let p : (y0 + 1) * image.width ≤ y * image.width = mul-le-mul_right image.width (let q : y0 + 1 ≤ y = omega arith in q) in
            after image a ws fits d (y * image.width + x) (omega arith) ∙ grind (arith, nat_tests)
      ]
    ]

-- no side of what lies in an image is beyond its right edge
across_by : (l r : ℤ) (w : ℕ) → pos 0 ≤ℤ l → r ≤ℤ pos w → l <ℤ r → natural l + int_gap l r ≤ w
across_by (pos a) r w h k less = let e : (pos a +ℤ pos (int_gap (pos a) r)) ≡ r = gap_leads (pos a) r (omega (arith, ints)) in omega (arith, ints)
across_by (negsuc a) r w h k less = absurd (omega (arith, ints))

between_across : (l t r b : ℤ) (w : ℕ) (p : Bool) → (int_lt l r && int_lt t b) ≡ p → pos 0 ≤ℤ l → r ≤ℤ pos w → natural (between l t r b).left + (between l t r b).width ≤ w
between_across l t r b w true e h k = let less : l <ℤ r = grind (arith, ints) in rw e (across_by l r w h k less)
between_across l t r b w false e h k = rw e (omega arith)

-- the pixels of a row that a rectangle has, and what is written over them
pub row_written : {P : Type 0} (image : Image P) (r : Rectangle) (y : ℤ) (row : List P) → has_row (clipped image r) y ≡ true
    → row ≡ slice_range image.pixels (row_start image.width (clipped image r) y) (row_end image.width (clipped image r) y)
    → length row + row_start image.width (clipped image r) y ≡ row_end image.width (clipped image r) y → IsRow image r y row
row_written image r y row there now long =
    let c = clipped image r in
    let s : Rectangle = record { left = pos 0; top = pos 0; width = image.width; height = image.height } in
    let start : ℕ = natural y * image.width + natural c.left in
    let begins : row_start image.width (clipped image r) y ≡ start = rw there refl in
    let ends : row_end image.width (clipped image r) y ≡ natural y * image.width + (natural c.left + c.width) = rw there refl in
    let wide : length row ≡ c.width = omega arith in
    let some : 0 < c.width = row_has_pixels image r y there in
    let inside : natural c.left + c.width ≤ image.width =
    between_across (int_max r.left s.left) (int_max r.top s.top) (int_min (right r) (right s)) (int_min (bottom r) (bottom s)) image.width _ refl (omega (arith, ints, clamps)) (omega (arith, ints, clamps)) in
    let read : row ≡ take c.width (drop start image.pixels) = now ∙ row_is image r y there in
    let room : start + c.width ≤ length image.pixels = omega (arith, ap length read, length-take c.width (drop start image.pixels), length-drop start image.pixels) in
    record {
      there = there;
      now = read;
      written = λ ws many. record {
        same_width = refl;
        same_height = refl;
        points = λ d column line lt. with_run-points image (natural c.left) (natural y) ws (omega arith) (omega arith) d column line lt;
      };
    }
