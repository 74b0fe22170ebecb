-- The rows of a bitmap are written one after the other.
use Rattle.std.proofs.Common.{◌≡◌, ℕ, ◌≤◌, ◌<◌, ◌+◌, ◌-◌, ◌*◌, ℤ, List, length, get_or, slice_range, sym, ap, ◌∙◌, arith, inl, inr, Bool, true, false, nat_eq, nat_le, refl}
use Rattle.std.specs.Prelude.{◌⊎◌, if◌then◌else◌}
use Rattle.std.proofs.lemmas.Bool.{cases_lt}
use Rattle.std.proofs.Math.Nat.{mul-le-mul_right}
use borrow.Rule.Slice.PartMut.{put_mid}
use Rattle.pix_bytes.specs.BitmapFormats.{StoredFormat, pixel_size}
use Rattle.pix_bytes.specs.Bitmap.{IsConvertedBitmap, IsBeside, distance, is_upward, row_start, row_at, is_held, limit}
use Rattle.pix_bytes.proofs.Parts.{range_below, range_above, range_written, place_beside}
use Rattle.pix_bytes.proofs.Table.{left, right}

-- the rows above y are written
pub record IsWritten (from to : StoredFormat) (width height : ℕ) (src_stride dst_stride : ℤ) (src old new : List ℕ) (y : ℕ) : Type 0 where
  pub rows : (r : ℕ) → r < y → IsConvertedBitmap from to width (row_at src_stride height (width * pixel_size from) src r) (row_at dst_stride height (width * pixel_size to) new r)
  pub stays : (place : ℕ) → IsBeside dst_stride height (width * pixel_size to) place → get_or new place 0 ≡ get_or old place 0

-- a row lies below another or above it, by the number of the row in memory
apart : (first second wide far : ℕ) → first < second → wide ≤ far → first * far + wide ≤ second * far
apart first second wide far lt fits =
    let up : (first + 1) * far ≤ second * far = mul-le-mul_right far (let p : first + 1 ≤ second = omega (arith, lt) in p) in
    let next : (first + 1) * far ≡ first * far + far = omega arith in
    omega (arith, up, next, fits)

rows_apart : (upward : Bool) (far height wide r y : ℕ) → r < y → y < height → wide ≤ far
    → ((if upward then height - 1 - r else r) * far + wide ≤ (if upward then height - 1 - y else y) * far)
    ⊎ ((if upward then height - 1 - y else y) * far + wide ≤ (if upward then height - 1 - r else r) * far)
rows_apart true far height wide r y lt within fits = inr (apart (height - 1 - y) (height - 1 - r) wide far (omega (arith, lt, within)) fits)
rows_apart false far height wide r y lt within fits = inl (apart r y wide far lt fits)

start_least : (upward : Bool) (far height y : ℕ) → y < height → (if upward then height - 1 - y else y) * far ≤ (height - 1) * far
start_least true far height y within = mul-le-mul_right far (let p : height - 1 - y ≤ height - 1 = omega (arith, within) in p)
start_least false far height y within = mul-le-mul_right far (let p : y ≤ height - 1 = omega (arith, within) in p)

-- where rows that are held lie
pub held_apart : (width height wide : ℕ) (stride : ℤ) (count : ℕ) → is_held width height wide stride count ≡ true → wide ≤ distance stride
held_apart width height wide stride count held =
    let rest = right (nat_le height limit) _ (right (nat_le width limit) _ held) in
    let e : nat_le wide (distance stride) ≡ true = left (nat_le wide (distance stride)) _ rest in
    grind (arith, e)

pub held_end : (width height wide : ℕ) (stride : ℤ) (count y : ℕ) → is_held width height wide stride count ≡ true → y < height → row_start stride height y + wide ≤ count
held_end width height wide stride count y held within =
    let rest = right (nat_le height limit) _ (right (nat_le width limit) _ held) in
    let last = right (nat_le wide (distance stride)) _ rest in
    let some : nat_eq height 0 ≡ false = grind (arith, within) in
    let e : nat_le ((height - 1) * distance stride + wide) count ≡ true = rw some at last in
    let end : (height - 1) * distance stride + wide ≤ count = grind (arith, e) in
    let least = start_least (is_upward stride) (distance stride) height y within in
    omega (arith, end, least)

-- none is written yet
pub written_none : (from to : StoredFormat) (width height : ℕ) (src_stride dst_stride : ℤ) (src old : List ℕ) → IsWritten from to width height src_stride dst_stride src old old 0
written_none from to width height src_stride dst_stride src old = record {
  rows = λ r below. absurd (omega (arith, below));
  stays = λ place beside. refl;
}

-- the next row is written
pub written_more : (from to : StoredFormat) (width height : ℕ) (src_stride dst_stride : ℤ) (src old dst part : List ℕ) (y start k : ℕ)
    → IsWritten from to width height src_stride dst_stride src old dst y → y < height → width * pixel_size to ≤ distance dst_stride
    → start ≡ row_start dst_stride height y → k ≡ width * pixel_size to → start ≤ length dst → length part ≡ k
    → IsConvertedBitmap from to width (row_at src_stride height (width * pixel_size from) src y) part
    → IsWritten from to width height src_stride dst_stride src old (put_mid start k dst part) (y + 1)
written_more from to width height src_stride dst_stride src old dst part y start k so_far there fits at span within long new =
    let wide : ℕ = width * pixel_size to in
    let line = λ (r : ℕ). row_at src_stride height (width * pixel_size from) src r in
    record {
      rows = λ r below. elim (cases_lt r y) [
        | inl before ↦
            let same : row_at dst_stride height wide (put_mid start k dst part) r ≡ row_at dst_stride height wide dst r =
            elim (rows_apart (is_upward dst_stride) (distance dst_stride) height wide r y before there fits) [
              | inl under ↦ range_below dst part (row_start dst_stride height r) wide start k (omega (arith, under, at)) within
              | inr over ↦ range_above dst part (row_start dst_stride height r) wide start k (omega (arith, over, at, span)) within long
            ] in
            rw same (so_far.rows r before)
        | inr past ↦
            let here : r ≡ y = omega (arith, below, past) in
            let same : row_at dst_stride height wide (put_mid start k dst part) y ≡ part =
            ap (λ (n : ℕ). slice_range (put_mid start k dst part) n (n + wide)) (sym at) ∙ range_written dst part start wide k span within (omega (arith, long, span)) in
            rw here (rw same new)
      ];
      stays = λ place beside.
          place_beside dst part place start k within long (λ past. elim (cases_lt place (start + k)) [
            | inl before ↦ absurd (beside (place - start) y (omega (arith, before, span, past)) there (omega (arith, past, at)))
            | inr over ↦ over
          ])
          ∙ so_far.stays place beside;
    }
