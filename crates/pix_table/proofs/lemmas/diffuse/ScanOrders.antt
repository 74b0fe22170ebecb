-- Orders in which the pixels of a picture are scanned.
use Rattle.std.proofs.Common.{◌≡◌, ◌≢◌, ℕ, ◌+◌, ◌-◌, ◌*◌, ◌/◌, ◌%◌, ◌<◌, ◌≤◌, Bool, true, false, not, nat_lt, nat_le, refl, arith, sym, ap, ◌∙◌, subst, inl, inr, if◌then◌else◌, mod-lt, div-add-mod', mul-le-mul_right, add-mul}
use Rattle.std.proofs.lemmas.Bool.{cases_lt}
use Rattle.std.proofs.Math.Nat.{mod-le, mul-div_left, zero-div}
use Rattle.std.proofs.lemmas.Nat.{div-mul-add}
use Rattle.std.proofs.lemmas.Bool.Decides.{nat_tests}
use Rattle.pix_table.specs.diffuse.Diffusion.{in_picture, is_back, number_above}
use Rattle.pix_table.specs.declared.diffuse.ScanOrder.{ScanOrder}
use Rattle.pix_table.specs.declared.diffuse.ScanOrder.TheVariants.{LeftToRight, Serpentine}
use Rattle.pix_table.proofs.Rows.{next_turn, next_in_turn}

-- the next pixel of a row: the row begins with the same number
pub same_begin : (k width : ℕ) → k % width + 1 < width → k + 1 - (k + 1) % width ≡ k - k % width
same_begin k width inside = omega (arith, next_in_turn k width (k % width) refl inside, mod-le k width)

-- a row of which the next pixel is not the first goes on
pub goes_on : (k width : ℕ) → 0 < width → 0 < (k + 1) % width → k % width + 1 < width
goes_on k width some more = elim (cases_lt (k % width + 1) width) [
  | inl b ↦ b
  | inr b ↦ absurd (omega (arith, next_turn k width (k % width) refl (omega (arith, mod-lt k {m = width} some))))
]

-- a row of which the next pixel is the first one of a row is at its end
pub at_end : (k width : ℕ) → 0 < width → (k + 1) % width ≡ 0 → k % width + 1 ≡ width
at_end k width some end = elim (cases_lt (k % width + 1) width) [
  | inl b ↦ absurd (omega (arith, next_in_turn k width (k % width) refl b))
  | inr b ↦ omega (arith, mod-lt k {m = width} some)
]

-- there is a row above a row where a pixel of it comes a row after the first
pub row_above : (k width : ℕ) → 0 < width → width ≤ k → width ≤ k - k % width
row_above k width some past = elim (cases_lt 0 (k / width)) [
  | inl b ↦
      let more : 1 * width ≤ k / width * width = mul-le-mul_right {m = 1} {n = k / width} width b in
      omega (arith, more, div-add-mod' k width)
  | inr b ↦
      let z : k / width ≡ 0 = omega arith in
      let short : 0 * width + k % width ≡ k = subst (λ n. n * width + k % width ≡ k) z (div-add-mod' k width) in
      absurd (omega (arith, short, mod-lt k {m = width} some))
]

-- a pixel above a row comes before the row
pub above_before : (scan : ScanOrder) (width first place : ℕ) → place < width → width ≤ first → number_above scan width first place < first
above_before LeftToRight width first place less past = omega arith
above_before Serpentine width first place less past = omega arith

-- a pixel is within its row
within_row : (b : Bool) (k width : ℕ) → 0 < width
    → (k - k % width ≤ (if b then k - k % width + (width - (k % width + 1)) else k)) × ((if b then k - k % width + (width - (k % width + 1)) else k) < k - k % width + width)
within_row true k width some = (omega arith, omega (arith, mod-lt k {m = width} some))
within_row false k width some = (omega (arith, mod-le k width), omega (arith, mod-lt k {m = width} some, mod-le k width))

-- a later row begins after an earlier one ends
rows_apart : (j k width : ℕ) → j / width < k / width → j - j % width + width ≤ k - k % width
rows_apart j k width less =
    let more : (j / width + 1) * width ≤ k / width * width = mul-le-mul_right {m = j / width + 1} {n = k / width} width (omega (arith, less)) in
    omega (arith, more, add-mul (j / width) 1 width, div-add-mod' j width, div-add-mod' k width)

same_row_apart : (b c : Bool) (j k width : ℕ) → 0 < width → j < k → j / width ≡ k / width → b ≡ c
    → (if b then j - j % width + (width - (j % width + 1)) else j) ≢ (if c then k - k % width + (width - (k % width + 1)) else k)
same_row_apart true true j k width some less e f same =
    let r : j / width * width ≡ k / width * width = ap (λ n. n * width) e in
    absurd (omega (arith, same, r, div-add-mod' j width, div-add-mod' k width, mod-lt j {m = width} some, mod-lt k {m = width} some))
same_row_apart false false j k width some less e f same = absurd (omega (arith, same))
same_row_apart true false j k width some less e f same = cc
same_row_apart false true j k width some less e f same = cc

-- the first row goes from left to right
pub begins : (scan : ScanOrder) (width : ℕ) → false ≡ is_back scan width 0
begins LeftToRight width = refl
begins Serpentine width = ap (λ n. nat_lt 0 (n % 2)) (sym (zero-div width))

-- pixels of the same row are scanned in one direction
same_scan : (scan : ScanOrder) (width j k : ℕ) → j / width ≡ k / width → is_back scan width j ≡ is_back scan width k
same_scan LeftToRight width j k e = refl
same_scan Serpentine width j k e = ap (λ n. nat_lt 0 (n % 2)) e

-- two pixels of a scan are at different places of the picture
pub places_apart : (scan : ScanOrder) (width j k : ℕ) → 0 < width → j < k → in_picture scan width j ≢ in_picture scan width k
places_apart scan width j k some less same = elim (cases_lt (j / width) (k / width)) [
  | inl b ↦
      let before = within_row (is_back scan width j) j width some in
      let after = within_row (is_back scan width k) k width some in
      absurd (omega (arith, same, before.1, after.0, rows_apart j k width b))
  | inr b ↦
      let r : k / width * width ≤ j / width * width = mul-le-mul_right {m = k / width} {n = j / width} width b in
      elim (cases_lt (k / width) (j / width)) [
        | inl c ↦ absurd (omega (arith, less, rows_apart k j width c, mod-le k width, mod-lt k {m = width} some, mod-le j width))
        | inr c ↦
            let e : j / width ≡ k / width = omega arith in
            same_row_apart (is_back scan width j) (is_back scan width k) j k width some less e (same_scan scan width j k e) same
      ]
]

-- a pixel of a picture of whole rows is within it
whole_rows : (b : Bool) (k width len : ℕ) → 0 < width → k < len → len % width ≡ 0
    → (if b then k - k % width + (width - (k % width + 1)) else k) < len
whole_rows b k width len some less whole = elim (cases_lt (k / width) (len / width)) [
  | inl c ↦ omega (arith, (within_row b k width some).1, rows_apart k len width c)
  | inr c ↦
      let r : len / width * width ≤ k / width * width = mul-le-mul_right {m = len / width} {n = k / width} width c in
      absurd (omega (arith, r, div-add-mod' k width, div-add-mod' len width))
]

pub in_picture_below : (scan : ScanOrder) (width len k : ℕ) → 0 < width → k < len → (scan ≡ Serpentine → len % width ≡ 0) → in_picture scan width k < len
in_picture_below LeftToRight width len k some less whole = less
in_picture_below Serpentine width len k some less whole = whole_rows (is_back Serpentine width k) k width len some less (whole refl)

-- the next row of a row
next_row : (k width : ℕ) → 0 < width → k % width + 1 ≡ width → (k + 1) / width ≡ k / width + 1
next_row k width some end =
    let e : k + 1 ≡ (k / width + 1) * width = omega (arith, div-add-mod' k width, add-mul (k / width) 1 width) in
    ap (λ n. n / width) e ∙ mul-div_left (k / width + 1) some

-- the same row
same_row : (k width : ℕ) → k % width + 1 < width → (k + 1) / width ≡ k / width
same_row k width inside =
    let e : k / width * width + (k % width + 1) ≡ k + 1 = omega (arith, div-add-mod' k width) in
    ap (λ n. n / width) (sym e) ∙ div-mul-add (k / width) width (k % width + 1) inside

other : (n : ℕ) → nat_lt 0 ((n + 1) % 2) ≡ not (nat_lt 0 (n % 2))
other n = grind (arith, nat_tests)

-- in the serpentine order the next row goes in the other direction, and the same row goes on
pub turns : (k width : ℕ) → 0 < width → k % width + 1 ≡ width → is_back Serpentine width (k + 1) ≡ not (is_back Serpentine width k)
turns k width some end = ap (λ n. nat_lt 0 (n % 2)) (next_row k width some end) ∙ other (k / width)

pub keeps_on : (scan : ScanOrder) (k width : ℕ) → k % width + 1 < width → is_back scan width (k + 1) ≡ is_back scan width k
keeps_on scan k width inside = same_scan scan width (k + 1) k (same_row k width inside)

-- there is a row above a row just where a pixel of it comes a row after the first
pub same_test : (k width place : ℕ) → 0 < width → place ≡ k % width → nat_le width (k - place) ≡ nat_le width k
same_test k width place some is = elim (cases_lt k width) [
  | inl b ↦ grind (arith, nat_tests)
  | inr b ↦
      let past : width ≤ k - place = omega (arith, row_above k width some b, is) in
      grind (arith, nat_tests)
]

-- the place of a place: within its row, from the other end and back again
twice : (b c : Bool) (j k width : ℕ) → 0 < width → b ≡ c → j / width ≡ k / width → j ≡ (if b then k - k % width + (width - (k % width + 1)) else k)
    → (if c then j - j % width + (width - (j % width + 1)) else j) ≡ k
twice true true j k width some same row is =
    let r : j / width * width ≡ k / width * width = ap (λ n. n * width) row in
    omega (arith, r, is, div-add-mod' j width, div-add-mod' k width, mod-lt j {m = width} some, mod-lt k {m = width} some)
twice false false j k width some same row is = is
twice true false j k width some same row is = cc
twice false true j k width some same row is = cc

-- a place of a row is in the row
in_row : (b : Bool) (k width : ℕ) → 0 < width → (if b then k - k % width + (width - (k % width + 1)) else k) / width ≡ k / width
in_row true k width some =
    let less : k % width < width = mod-lt k {m = width} some in
    let e : k - k % width + (width - (k % width + 1)) ≡ k / width * width + (width - (k % width + 1)) = omega (arith, div-add-mod' k width) in
    ap (λ n. n / width) e ∙ div-mul-add (k / width) width (width - (k % width + 1)) (omega arith)
in_row false k width some = refl

pub in_picture_twice : (scan : ScanOrder) (width k : ℕ) → 0 < width → in_picture scan width (in_picture scan width k) ≡ k
in_picture_twice scan width k some =
    let row : in_picture scan width k / width ≡ k / width = in_row (is_back scan width k) k width some in
    twice (is_back scan width k) (is_back scan width (in_picture scan width k)) (in_picture scan width k) k width some
    (sym (same_scan scan width (in_picture scan width k) k row)) row refl
