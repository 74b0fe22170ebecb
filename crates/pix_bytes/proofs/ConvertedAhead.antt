-- Pixels of buffers that are converted as those of bitmaps are.
use Rattle.std.proofs.Common.{◌≡◌, ℕ, zero, suc, ◌<◌, ◌≤◌, ◌+◌, ◌-◌, ◌*◌, List, [], ◌∷◌, length, drop, get_or, slice_range, refl, sym, ap, subst, ◌∙◌, arith, inl, inr, Bool, true, false, nat_eq}
use Rattle.std.specs.Prelude.{Option, Some, slice_get, unwrap_or, ◌&&◌, if◌then◌else◌}
use Rattle.std.specs.Option.{option_map}
use Rattle.std.proofs.lemmas.Bool.{cases_lt}
use Rattle.std.proofs.lemmas.Grind.{same_number_lists}
use Rattle.std.proofs.lemmas.List.{length-drop, length-take-le}
use Rattle.std.proofs.lemmas.List.FromFn.{length-map-range_with_len, get_or-map-range_with_len}
use Rattle.std.proofs.Math.Nat.{mul-le-mul_right}
use borrow.Rule.Slice.PartMut.{put_mid}
use Rattle.pix_chan.specs.Modes.{Straight, Srgb}
use Rattle.pix_el.specs.Pixel.{channel}
use Rattle.pix_el.specs.Conversion.{converted, within_model, across_models}
use Rattle.pix_bytes.specs.Bitmap.{IsConvertedBitmap, crossed, is_wide, is_srgb}
use Rattle.pix_bytes.specs.Converted.{IsConverted, pixel_at}
use Rattle.pix_bytes.specs.Formats.{BufferFormat, channels, channels_of, formats, rgb}
use Rattle.pix_bytes.specs.Rows.{stored_of}
use Rattle.pix_bytes.specs.declared.bitmap.format.FormatParts.{FormatParts}
use Rattle.pix_bytes.specs.BitmapFormats.{StoredFormat, stored_formats, sample_at, sample_size, samples, padded, pixel_size}
use Rattle.pix_bytes.proofs.Parts.{range_below, range_written, range_in}

-- a format with nothing after the channels
abbrev pub bare : BufferFormat → StoredFormat
bare buffer = record { buffer = buffer; spare = 0 }

abbrev pub numbered : ℕ → BufferFormat
numbered n = unwrap_or (slice_get formats n) (rgb 4 Straight Srgb)

pub numbered_is : (n : ℕ) (buffer : BufferFormat) → slice_get formats n ≡ Some buffer → n < 12 → numbered n ≡ buffer
numbered_is n buffer e lt = ap (λ (o : Option BufferFormat). unwrap_or o (rgb 4 Straight Srgb)) e

-- what holds for each of twelve numbers holds for any below twelve
each_of : (P : ℕ → Type 0) → P 0 → P 1 → P 2 → P 3 → P 4 → P 5 → P 6 → P 7 → P 8 → P 9 → P 10 → P 11 → (n : ℕ) → n < 12 → P n
each_of P p0 p1 p2 p3 p4 p5 p6 p7 p8 p9 p10 p11 zero lt = p0
each_of P p0 p1 p2 p3 p4 p5 p6 p7 p8 p9 p10 p11 (suc zero) lt = p1
each_of P p0 p1 p2 p3 p4 p5 p6 p7 p8 p9 p10 p11 (suc (suc zero)) lt = p2
each_of P p0 p1 p2 p3 p4 p5 p6 p7 p8 p9 p10 p11 (suc (suc (suc zero))) lt = p3
each_of P p0 p1 p2 p3 p4 p5 p6 p7 p8 p9 p10 p11 (suc (suc (suc (suc zero)))) lt = p4
each_of P p0 p1 p2 p3 p4 p5 p6 p7 p8 p9 p10 p11 (suc (suc (suc (suc (suc zero))))) lt = p5
each_of P p0 p1 p2 p3 p4 p5 p6 p7 p8 p9 p10 p11 (suc (suc (suc (suc (suc (suc zero)))))) lt = p6
each_of P p0 p1 p2 p3 p4 p5 p6 p7 p8 p9 p10 p11 (suc (suc (suc (suc (suc (suc (suc zero))))))) lt = p7
each_of P p0 p1 p2 p3 p4 p5 p6 p7 p8 p9 p10 p11 (suc (suc (suc (suc (suc (suc (suc (suc zero)))))))) lt = p8
each_of P p0 p1 p2 p3 p4 p5 p6 p7 p8 p9 p10 p11 (suc (suc (suc (suc (suc (suc (suc (suc (suc zero))))))))) lt = p9
each_of P p0 p1 p2 p3 p4 p5 p6 p7 p8 p9 p10 p11 (suc (suc (suc (suc (suc (suc (suc (suc (suc (suc zero)))))))))) lt = p10
each_of P p0 p1 p2 p3 p4 p5 p6 p7 p8 p9 p10 p11 (suc (suc (suc (suc (suc (suc (suc (suc (suc (suc (suc zero))))))))))) lt = p11
each_of P p0 p1 p2 p3 p4 p5 p6 p7 p8 p9 p10 p11 (suc (suc (suc (suc (suc (suc (suc (suc (suc (suc (suc (suc k)))))))))))) lt = absurd (omega (arith, lt))

-- the first twelve formats of bitmaps are those of buffers
pub stored_is : (n : ℕ) → n < 12 → slice_get stored_formats n ≡ Some (bare (numbered n))
stored_is = each_of (λ n. slice_get stored_formats n ≡ Some (bare (numbered n))) refl refl refl refl refl refl refl refl refl refl refl refl

pub max_is : (n : ℕ) → n < 12 → (numbered n).format.layout.max ≡ 255
max_is = each_of (λ n. (numbered n).format.layout.max ≡ 255) refl refl refl refl refl refl refl refl refl refl refl refl

long : (t : Bool) (xs ys : List ℕ) (n : ℕ) → length xs ≡ n → length ys ≡ n → length (if t then xs else ys) ≡ n
long true xs ys n a b = a
long false xs ys n a b = b

converted_long : (from to : BufferFormat) (p : List ℕ) (n : ℕ) → length (within_model from.format from.gamma to.format to.gamma p) ≡ n
    → length (across_models from.format from.gamma to.format to.gamma p) ≡ n → length (converted from.format from.gamma to.format to.gamma p) ≡ n
converted_long from to p n =
    long (nat_eq from.format.kind to.format.kind) (within_model from.format from.gamma to.format to.gamma p) (across_models from.format from.gamma to.format to.gamma p) n

-- what is converted has the channels of its format
pub length_is : (n : ℕ) → n < 12 → (from : BufferFormat) (p : List ℕ)
    → length (converted from.format from.gamma (numbered n).format (numbered n).gamma p) ≡ channels (numbered n)
length_is n lt from p =
    each_of (λ n. length (converted from.format from.gamma (numbered n).format (numbered n).gamma p) ≡ channels (numbered n))
    (converted_long from (numbered 0) p 4 refl refl)
    (converted_long from (numbered 1) p 4 refl refl)
    (converted_long from (numbered 2) p 4 refl refl)
    (converted_long from (numbered 3) p 4 refl refl)
    (converted_long from (numbered 4) p 4 refl refl)
    (converted_long from (numbered 5) p 4 refl refl)
    (converted_long from (numbered 6) p 3 refl refl)
    (converted_long from (numbered 7) p 1 refl refl)
    (converted_long from (numbered 8) p 4 refl refl)
    (converted_long from (numbered 9) p 4 refl refl)
    (converted_long from (numbered 10) p 3 refl refl)
    (converted_long from (numbered 11) p 1 refl refl)
    n lt

-- all bytes of a pixel are its samples, and all its channels
all_bytes : (n : ℕ) (bytes : List ℕ) → length bytes ≡ n → samples 255 n bytes ≡ bytes
all_bytes n bytes l =
    same_number_lists (samples 255 n bytes) bytes (length-map-range_with_len (sample_at 255 bytes) 0 n ∙ sym l)
    (λ k h. get_or-map-range_with_len (sample_at 255 bytes) 0 n k k 0 (omega (arith, h, length-map-range_with_len (sample_at 255 bytes) 0 n)) (omega arith))

at_max : (xs : List ℕ) (k : ℕ) → k < length xs → channel 255 xs k ≡ get_or xs k 0
at_max [] k lt = absurd (omega (arith, lt))
at_max (x ∷ xs) zero lt = refl
at_max (x ∷ xs) (suc k) lt = at_max xs k (omega (arith, lt))

all_channels : (n : ℕ) (xs : List ℕ) → length xs ≡ n → padded 255 n xs ≡ xs
all_channels n xs l =
    same_number_lists (padded 255 n xs) xs (length-map-range_with_len (channel 255 xs) 0 n ∙ sym l)
    (λ k h. let lt : k < n = omega (arith, h, length-map-range_with_len (channel 255 xs) 0 n) in
    get_or-map-range_with_len (channel 255 xs) 0 n k k 0 lt (omega arith) ∙ at_max xs k (omega (arith, lt, l)))

-- neither format is of sixteen bits
not_crossed : (s w v t : Bool) (a b c : List ℕ) → w ≡ false → v ≡ false → (if s && w then a else (if v && t then b else c)) ≡ c
not_crossed true w v t a b c e f = rw (e, f) refl
not_crossed false w v t a b c e f = rw f refl

is_narrow : (max : ℕ) → max ≡ 255 → nat_eq max 65535 ≡ false
is_narrow max e = rw e refl

size_is : (max n : ℕ) → max ≡ 255 → (n + 0) * sample_size max ≡ n
size_is max n e = rw e (omega arith)

-- the length of a range
range_long : (xs : List ℕ) (index size count : ℕ) → index < count → count * size ≤ length xs → length (slice_range xs (index * size) (index * size + size)) ≡ size
range_long xs index size count lt fits =
    let up : (index + 1) * size ≤ count * size = mul-le-mul_right size (let p : index + 1 ≤ count = omega (arith, lt) in p) in
    let next : index * size + size ≡ (index + 1) * size = omega arith in
    let end : index * size + size ≤ length xs = omega (arith, up, next, fits) in
    let left = length-drop (index * size) xs in
    let span : index * size + size - index * size ≡ size = omega arith in
    length-take-le (index * size + size - index * size) (drop (index * size) xs) (omega (arith, left, end)) ∙ span

abbrev read : (max size n : ℕ) → List ℕ → ℕ → List ℕ
read max size n bytes index = samples max n (slice_range bytes (index * size) (index * size + size))

read_is : (max n : ℕ) (bytes : List ℕ) (index : ℕ) → max ≡ 255 → read max ((n + 0) * sample_size max) n bytes index ≡ read 255 n n bytes index
read_is max n bytes index e = ap (λ (s : ℕ). read max s n bytes index) (size_is max n e) ∙ ap (λ (m : ℕ). read m n n bytes index) e

read_all : (max n : ℕ) (bytes : List ℕ) (index : ℕ) → max ≡ 255 → read max ((n + 0) * sample_size max) (n + 0) bytes index ≡ read 255 n n bytes index
read_all max n bytes index e =
    let none : n + 0 ≡ n = omega arith in
    ap (λ (k : ℕ). read max ((n + 0) * sample_size max) k bytes index) none ∙ read_is max n bytes index e

made_all : (max n : ℕ) (xs : List ℕ) → max ≡ 255 → padded max (n + 0) xs ≡ padded 255 n xs
made_all max n xs e =
    let none : n + 0 ≡ n = omega arith in
    ap (λ (k : ℕ). padded max k xs) none ∙ ap (λ (m : ℕ). padded m n xs) e

-- a pixel of 8 bits that is written is its bytes
written_is : (to : BufferFormat) (count index : ℕ) (dst : List ℕ) → to.format.layout.max ≡ 255 → length dst ≡ count * channels to → index < count
    → read to.format.layout.max ((channels to + 0) * sample_size to.format.layout.max) (channels to + 0) dst index ≡ pixel_at (channels to) dst index
written_is to count index dst max long lt =
    let k = channels to in
    read_all to.format.layout.max k dst index max ∙ all_bytes k (pixel_at k dst index) (range_long dst index k count lt (omega (arith, long)))

-- what is made of a pixel of 8 bits is the pixel converted
made_is : (from to : BufferFormat) (count index : ℕ) (src : List ℕ) → from.format.layout.max ≡ 255 → to.format.layout.max ≡ 255
    → ((p : List ℕ) → length (converted from.format from.gamma to.format to.gamma p) ≡ channels to) → length src ≡ count * channels from → index < count
    → padded to.format.layout.max (channels to + 0) (crossed from to (read from.format.layout.max ((channels from + 0) * sample_size from.format.layout.max) (channels from) src index))
    ≡ converted from.format from.gamma to.format to.gamma (pixel_at (channels from) src index)
made_is from to count index src max to_max size long lt =
    let n = channels from in
    let k = channels to in
    let pixel = pixel_at n src index in
    made_all to.format.layout.max k _ to_max
    ∙ ap (λ (p : List ℕ). padded 255 k (crossed from to p)) (read_is from.format.layout.max n src index max ∙ all_bytes n pixel (range_long src index n count lt (omega (arith, long))))
    ∙ ap (padded 255 k) (not_crossed (is_srgb from) (is_wide to) (is_wide from) (is_srgb to) _ _ _ (is_narrow to.format.layout.max to_max) (is_narrow from.format.layout.max max))
    ∙ all_channels k _ (size pixel)

-- pixels of 8 bits that are converted as those of a bitmap are converted
pub converted_as : (from to : BufferFormat) (count whole : ℕ) (src dst : List ℕ) → from.format.layout.max ≡ 255 → to.format.layout.max ≡ 255
    → ((p : List ℕ) → length (converted from.format from.gamma to.format to.gamma p) ≡ channels to)
    → count ≤ whole → length src ≡ whole * channels from → length dst ≡ whole * channels to → IsConvertedBitmap (bare from) (bare to) count src dst → IsConverted from to count src dst
converted_as from to count whole src dst max to_max size fits src_is dst_is each = record {
  each = λ index lt.
      let here : index < whole = omega (arith, lt, fits) in
      sym (written_is to whole index dst to_max dst_is here) ∙ each.each index lt ∙ made_is from to whole index src max to_max size src_is here;
}

-- .. and the other way round
pub bitmap_as : (from to : BufferFormat) (count : ℕ) (src dst : List ℕ) → from.format.layout.max ≡ 255 → to.format.layout.max ≡ 255
    → ((p : List ℕ) → length (converted from.format from.gamma to.format to.gamma p) ≡ channels to)
    → length src ≡ count * channels from → length dst ≡ count * channels to → IsConverted from to count src dst → IsConvertedBitmap (bare from) (bare to) count src dst
bitmap_as from to count src dst max to_max size src_is dst_is each = record {
  each = λ index lt.
      written_is to count index dst to_max dst_is lt ∙ each.each index lt ∙ sym (made_is from to count index src max to_max size src_is lt);
}

-- the pixels after those that were converted
pub converted_rest : (from to : BufferFormat) (src dst part : List ℕ) (first count start end to_start wide : ℕ) → IsConverted from to first src dst
    → start ≡ first * channels from → end ≡ count * channels from → to_start ≡ first * channels to → wide ≡ (count - first) * channels to → first ≤ count
    → to_start ≤ length dst → length part ≡ wide
    → IsConverted from to (count - first) (slice_range src start end) part → IsConverted from to count src (put_mid to_start wide dst part)
converted_rest from to src dst part first count start end to_start wide before origin end_is at span some within long new = record {
  each = λ i below. elim (cases_lt i first) [
    | inl lt ↦
        let k = channels to in
        let next : i * k + k ≡ (i + 1) * k = omega arith in
        let up : (i + 1) * k ≤ first * k = mul-le-mul_right k (let p : i + 1 ≤ first = omega (arith, lt) in p) in
        range_below dst part (i * k) k to_start wide (omega (arith, next, up, at)) within ∙ before.each i lt
    | inr past ↦
        let n = channels from in
        let k = channels to in
        let j : ℕ = i - first in
        let here : i ≡ first + j = omega (arith, past) in
        let rest : ℕ = count - first in
        let lt : j < rest = omega (arith, below, past) in
        let all : count ≡ first + rest = omega (arith, some) in
        let room : j * k + k ≤ wide =
        let p : (j + 1) * k ≤ rest * k = mul-le-mul_right k (let p : j + 1 ≤ rest = omega (arith, lt) in p) in
        let next : j * k + k ≡ (j + 1) * k = omega arith in
        omega (arith, p, next, span) in
        let held : j * n + n ≤ rest * n =
        let p : (j + 1) * n ≤ rest * n = mul-le-mul_right n (let p : j + 1 ≤ rest = omega (arith, lt) in p) in
        let next : j * n + n ≡ (j + 1) * n = omega arith in
        omega (arith, p, next) in
        let place : i * k ≡ to_start + j * k = ap (λ (n : ℕ). n * k) here ∙ (let e : (first + j) * k ≡ first * k + j * k = omega arith in e) ∙ ap (λ (n : ℕ). n + j * k) (sym at) in
        let origin_of : i * n ≡ start + j * n = ap (λ (m : ℕ). m * n) here ∙ (let e : (first + j) * n ≡ first * n + j * n = omega arith in e) ∙ ap (λ (m : ℕ). m + j * n) (sym origin) in
        let whole : end ≡ start + rest * n = end_is ∙ ap (λ (m : ℕ). m * n) all ∙ (let e : (first + rest) * n ≡ first * n + rest * n = omega arith in e) ∙ ap (λ (m : ℕ). m + rest * n) (sym origin) in
        let make = converted from.format from.gamma to.format to.gamma in
        ap (λ (m : ℕ). slice_range (put_mid to_start wide dst part) m (m + k)) place
        ∙ sym (range_in (put_mid to_start wide dst part) to_start wide (j * k) k room)
        ∙ ap (λ (l : List ℕ). slice_range l (j * k) (j * k + k)) (range_written dst part to_start wide wide refl within long)
        ∙ new.each j lt
        ∙ ap (λ (m : ℕ). make (slice_range (slice_range src start m) (j * n) (j * n + n))) whole
        ∙ ap make (range_in src start (rest * n) (j * n) n held)
        ∙ ap (λ (m : ℕ). make (slice_range src m (m + n))) (sym origin_of)
  ];
}

pub channels_is : (n : ℕ) → n < 12 → channels_of n ≡ channels (numbered n)
channels_is = each_of (λ n. channels_of n ≡ channels (numbered n)) refl refl refl refl refl refl refl refl refl refl refl refl

pub size_of : (n : ℕ) → n < 12 → channels_of n ≡ pixel_size (bare (numbered n))
size_of = each_of (λ n. channels_of n ≡ pixel_size (bare (numbered n))) refl refl refl refl refl refl refl refl refl refl refl refl

-- the format of a number, as it was found among those of bitmaps
pub stored_as : (n : ℕ) (stored : FormatParts) → n < 12 → option_map stored_of (Some stored) ≡ slice_get stored_formats n → stored_of stored ≡ bare (numbered n)
stored_as n stored lt e = ap (λ (o : Option StoredFormat). unwrap_or o (stored_of stored)) (e ∙ stored_is n lt)

-- the bytes of so many pixels
pub bytes_as : (n count : ℕ) (stored : FormatParts) (bytes : List ℕ) → n < 12 → stored_of stored ≡ bare (numbered n) → length bytes ≡ count * channels_of n → length bytes ≡ count * pixel_size (stored_of stored)
bytes_as n count stored bytes lt is l = l ∙ ap (λ (k : ℕ). count * k) (size_of n lt) ∙ ap (λ (s : StoredFormat). count * pixel_size s) (sym is)

pub ahead_as : (from to : ℕ) (format target : BufferFormat) (one other : FormatParts) (count whole : ℕ) (src dst : List ℕ) → from < 12 → to < 12
    → slice_get formats from ≡ Some format → slice_get formats to ≡ Some target → stored_of one ≡ bare (numbered from) → stored_of other ≡ bare (numbered to)
    → count ≤ whole → length src ≡ whole * channels_of from → length dst ≡ whole * channels_of to
    → IsConvertedBitmap (stored_of one) (stored_of other) count src dst → IsConverted format target count src dst
ahead_as from to format target one other count whole src dst lt to_lt found to_found is to_is some src_is dst_is each =
    let crossed : IsConvertedBitmap (bare (numbered from)) (bare (numbered to)) count src dst =
    subst (λ (s : StoredFormat). IsConvertedBitmap s (bare (numbered to)) count src dst) is (subst (λ (s : StoredFormat). IsConvertedBitmap (stored_of one) s count src dst) to_is each) in
    let base : IsConverted (numbered from) (numbered to) count src dst =
    converted_as (numbered from) (numbered to) count whole src dst (max_is from lt) (max_is to to_lt) (λ p. length_is to to_lt (numbered from) p) some
    (src_is ∙ ap (λ (n : ℕ). whole * n) (channels_is from lt)) (dst_is ∙ ap (λ (n : ℕ). whole * n) (channels_is to to_lt)) crossed in
    subst (λ (b : BufferFormat). IsConverted b target count src dst) (numbered_is from format found lt)
    (subst (λ (b : BufferFormat). IsConverted (numbered from) b count src dst) (numbered_is to target to_found to_lt) base)

-- the format of a number among those of bitmaps
pub stored_named : (n : ℕ) (stored : FormatParts) → n < 12 → slice_get stored_formats n ≡ Some (stored_of stored) → stored_of stored ≡ bare (numbered n)
stored_named n stored lt e = stored_as n stored lt (sym e)

-- it has the channels of the format of buffers
pub count_as : (n : ℕ) (stored : FormatParts) → n < 12 → stored_of stored ≡ bare (numbered n) → stored.count ≡ channels_of n
count_as n stored lt is = ap (λ (s : StoredFormat). channels s.buffer) is ∙ sym (channels_is n lt)

-- a number below twelve is that of a format of buffers
pub format_named : (n : ℕ) → n < 12 → slice_get formats n ≡ Some (numbered n)
format_named = each_of (λ n. slice_get formats n ≡ Some (numbered n)) refl refl refl refl refl refl refl refl refl refl refl refl

-- the bytes of so many pixels, by the channels of one
pub bytes_named : (n count : ℕ) (stored : FormatParts) (bytes : List ℕ) → n < 12 → stored_of stored ≡ bare (numbered n) → length bytes ≡ count * pixel_size (stored_of stored)
    → length bytes ≡ count * stored.count
bytes_named n count stored bytes lt is l =
    l ∙ ap (λ (s : StoredFormat). count * pixel_size s) is ∙ ap (λ (k : ℕ). count * k) (sym (size_of n lt) ∙ sym (count_as n stored lt is))

-- a row of two formats of buffers is one of a bitmap
pub usual_as : (from to : ℕ) (one other : FormatParts) (count : ℕ) (src dst : List ℕ) → from < 12 → to < 12 → stored_of one ≡ bare (numbered from) → stored_of other ≡ bare (numbered to)
    → length src ≡ count * pixel_size (stored_of one) → length dst ≡ count * pixel_size (stored_of other)
    → ((format target : BufferFormat) → slice_get formats from ≡ Some format → slice_get formats to ≡ Some target → IsConverted format target count src dst)
    → IsConvertedBitmap (stored_of one) (stored_of other) count src dst
usual_as from to one other count src dst lt to_lt is to_is src_is dst_is each =
    let long : length src ≡ count * channels (numbered from) = src_is ∙ ap (λ (s : StoredFormat). count * pixel_size s) is ∙ ap (λ (k : ℕ). count * k) (sym (size_of from lt) ∙ channels_is from lt) in
    let to_long : length dst ≡ count * channels (numbered to) =
    dst_is ∙ ap (λ (s : StoredFormat). count * pixel_size s) to_is ∙ ap (λ (k : ℕ). count * k) (sym (size_of to to_lt) ∙ channels_is to to_lt) in
    let base : IsConvertedBitmap (bare (numbered from)) (bare (numbered to)) count src dst =
    bitmap_as (numbered from) (numbered to) count src dst (max_is from lt) (max_is to to_lt) (λ p. length_is to to_lt (numbered from) p) long to_long
    (each (numbered from) (numbered to) (format_named from lt) (format_named to to_lt)) in
    subst (λ (s : StoredFormat). IsConvertedBitmap s (stored_of other) count src dst) (sym is)
    (subst (λ (s : StoredFormat). IsConvertedBitmap (bare (numbered from)) s count src dst) (sym to_is) base)
