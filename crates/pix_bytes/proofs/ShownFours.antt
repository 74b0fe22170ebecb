-- Four pixels of light, in one vector and in bytes.
use Rattle.std.proofs.Common.{◌≡◌, ℕ, zero, suc, ◌<◌, ◌≤◌, ◌+◌, ◌*◌, ◌/◌, List, [], ◌∷◌, ◌++◌, length, map, get_or, slice_range, refl, sym, ap, ◌∙◌, arith, Fits, Bool, true, false}
use mir.Syntax.{w8, w16}
use lib.Lanes.{Each1, chunk, number_l, digits_l, pick_l}
use Rattle.std.proofs.lemmas.Grind.{same_number_lists}
use Rattle.std.proofs.lemmas.List.FromFn.{length-map-range_with_len, get_or-map-range_with_len}
use Rattle.std.proofs.lemmas.Simd.{get_or_wider, get_or-chunk, length-chunk, below_from_Fits}
use Rattle.pix_chan.specs.Product.{channel_quotient}
use Rattle.pix_chan.specs.Srgb16.{srgb_encoded8}
use Rattle.pix_chan.proofs.Planes.{cons}
use Rattle.pix_chan.proofs.Srgb16.{curve}
use Rattle.pix_bytes.specs.Shown.{shown, shown_bytes}
use Rattle.pix_chan.specs.Modes.{Straight, Premultiplied}
use Rattle.pix_el.specs.Conversion.{at_depth}
use Rattle.pix_el.specs.Model.{Rgb, Bgr}
use Rattle.pix_el.specs.Pixel.{channel}
use Rattle.pix_bytes.specs.Bitmap.{out_of_light}
use Rattle.pix_bytes.specs.BitmapFormats.{sample_at, samples, padded, format_with}
use Rattle.pix_bytes.specs.Rows.{IsEach}
use Rattle.pix_bytes.proofs.Parts.{range_at}

-- ---- bytes as channels
two_of : (xs : List ℕ) (i : ℕ) → i + 2 ≤ length xs → chunk i 2 xs ≡ get_or xs i 0 ∷ get_or xs (i + 1) 0 ∷ []
two_of xs i h = same_number_lists (chunk i 2 xs) (get_or xs i 0 ∷ get_or xs (i + 1) 0 ∷ []) (length-chunk i 2 xs h) each
  where
    each : (k : ℕ) → k < length (chunk i 2 xs) → get_or (chunk i 2 xs) k 0 ≡ get_or (get_or xs i 0 ∷ get_or xs (i + 1) 0 ∷ []) k 0
    each zero lt = get_or-chunk i 2 xs 0 0 (omega arith) ∙ ap (λ (n : ℕ). get_or xs n 0) (let e : i + 0 ≡ i = omega arith in e)
    each (suc zero) lt = get_or-chunk i 2 xs 1 0 (omega arith)
    each (suc (suc k)) lt = absurd (let l = length-chunk i 2 xs h in omega (arith, lt, l))

length-digits : (p n x : ℕ) → length (digits_l p n x) ≡ n
length-digits p zero x = refl
length-digits p (suc n) x = ap suc (length-digits p n (x / p))

pub channels_are : (bytes : List ℕ) (n : ℕ) → length bytes ≡ 2 * n → Each1 (Fits w8) bytes → digits_l 65536 n (number_l 256 bytes) ≡ samples 65535 n bytes
channels_are bytes n long fits =
    let l = length-digits 65536 n (number_l 256 bytes) in
    same_number_lists (digits_l 65536 n (number_l 256 bytes)) (samples 65535 n bytes) (l ∙ sym (length-map-range_with_len (sample_at 65535 bytes) 0 n))
    (λ k lt.
    let less : k < n = omega (arith, lt, l) in
    get_or_wider 256 2 65536 n bytes k refl (below_from_Fits w8 bytes fits) less
    ∙ ap (number_l 256) (two_of bytes (2 * k) (omega (arith, less, long)))
    ∙ sum_of (get_or bytes (2 * k) 0) (get_or bytes (2 * k + 1) 0)
    ∙ sym (get_or-map-range_with_len (sample_at 65535 bytes) 0 n k k 0 less (omega arith)))
  where
    sum_of : (x y : ℕ) → x + 256 * (y + 256 * 0) ≡ x + 256 * y
    sum_of x y = omega arith

-- ---- channels in bytes fit
pub samples_fit : (bytes ks : List ℕ) → ((i : ℕ) → Fits w8 (get_or bytes i 0)) → Each1 (Fits w16) (map (sample_at 65535 bytes) ks)
samples_fit bytes [] f = tt
samples_fit bytes (k ∷ ks) f =
    let a : get_or bytes (2 * k) 0 < 256 = (f (2 * k)).fits in
    let b : get_or bytes (2 * k + 1) 0 < 256 = (f (2 * k + 1)).fits in
    (record { fits = omega (arith, a, b) }, samples_fit bytes ks f)

-- ---- levels and alphas fit eight bits
levels_fit : (xs : List ℕ) → Each1 (Fits w16) xs → Each1 (Fits w8) (map srgb_encoded8 xs)
levels_fit [] f = tt
levels_fit (x ∷ xs) f = (record { fits = curve.encoded_fits x f.0.fits }, levels_fit xs f.1)

uppers_fit : (xs : List ℕ) → Each1 (Fits w16) xs → Each1 (Fits w8) (map (λ x. x / 256) xs)
uppers_fit [] f = tt
uppers_fit (x ∷ xs) f = (record { fits = omega (arith, f.0.fits) }, uppers_fit xs f.1)

both_fit : (xs ys : List ℕ) → Each1 (Fits w8) xs → Each1 (Fits w8) ys → Each1 (Fits w8) (xs ++ ys)
both_fit [] ys f g = g
both_fit (x ∷ xs) ys f g = (f.0, both_fit xs ys f.1 g)

one_fits : (xs : List ℕ) (k : ℕ) → Each1 (Fits w8) xs → Fits w8 (get_or xs k 0)
one_fits [] k f = record { fits = omega arith }
one_fits (x ∷ xs) zero f = f.0
one_fits (x ∷ xs) (suc k) f = one_fits xs k f.1

picks_fit : (xs ks : List ℕ) → Each1 (Fits w8) xs → Each1 (Fits w8) (pick_l 0 xs ks)
picks_fit xs [] f = tt
picks_fit xs (k ∷ ks) f = (one_fits xs k f, picks_fit xs ks f)

pub encoded_fit : (straight xs ks : List ℕ) → Each1 (Fits w16) straight → Each1 (Fits w16) xs
    → Each1 (Fits w8) (pick_l 0 (map srgb_encoded8 straight ++ map (λ x. x / 256) xs) ks)
encoded_fit straight xs ks f g =
    picks_fit (map srgb_encoded8 straight ++ map (λ x. x / 256) xs) ks
    (both_fit (map srgb_encoded8 straight) (map (λ x. x / 256) xs) (levels_fit straight f) (uppers_fit xs g))

-- ---- four pixels in bytes
pixel_at : (src : List ℕ) (start k : ℕ) → k < 4
    → get_or src (start + 2 * k) 0 + 256 * get_or src (start + (2 * k + 1)) 0 ≡ sample_at 65535 (slice_range src start (start + 8)) k
pixel_at src start k lt = rw (range_at src start 8 (2 * k) (omega (arith, lt)), range_at src start 8 (2 * k + 1) (omega (arith, lt))) refl

level_by : {x y a b : ℕ} → x ≡ y → a ≡ b → srgb_encoded8 (channel_quotient 65535 x a) ≡ srgb_encoded8 (channel_quotient 65535 y b)
level_by e f = rw (e, f) refl

module _ (src : List ℕ) (start : ℕ) where
  at : (k : ℕ) → k < 4 → get_or src (start + 2 * k) 0 + 256 * get_or src (start + (2 * k + 1)) 0 ≡ sample_at 65535 (slice_range src start (start + 8)) k
  at = pixel_at src start

  abbrev levels_at : ℕ → ℕ → List ℕ
  levels_at first last =
      let x : ℕ → ℕ = λ k. get_or src (start + 2 * k) 0 + 256 * get_or src (start + (2 * k + 1)) 0 in
      srgb_encoded8 (channel_quotient 65535 (x first) (x 3)) ∷ srgb_encoded8 (channel_quotient 65535 (x 1) (x 3)) ∷ srgb_encoded8 (channel_quotient 65535 (x last) (x 3)) ∷ (x 3 / 256) ∷ []

  abbrev levels_in : ℕ → ℕ → List ℕ
  levels_in first last =
      let x : ℕ → ℕ = λ k. sample_at 65535 (slice_range src start (start + 8)) k in
      srgb_encoded8 (channel_quotient 65535 (x first) (x 3)) ∷ srgb_encoded8 (channel_quotient 65535 (x 1) (x 3)) ∷ srgb_encoded8 (channel_quotient 65535 (x last) (x 3)) ∷ (x 3 / 256) ∷ []

  pixel_shown : (first last : ℕ) → first < 4 → last < 4 → levels_at first last ≡ levels_in first last
  pixel_shown first last hf hl =
      let a = at 3 (omega arith) in
      cons (level_by (at first hf) a) (cons (level_by (at 1 (omega arith)) a) (cons (level_by (at last hl) a) (cons (ap (λ (x : ℕ). x / 256) a) refl)))

pub four_shown : (r : Bool) (src : List ℕ) → IsEach 65535 255 4 4 8 4 (shown r) src (shown_bytes r src) 4
four_shown true src zero lt = pixel_shown src 0 2 0 (omega arith) (omega arith)
four_shown true src (suc zero) lt = pixel_shown src 8 2 0 (omega arith) (omega arith)
four_shown true src (suc (suc zero)) lt = pixel_shown src 16 2 0 (omega arith) (omega arith)
four_shown true src (suc (suc (suc zero))) lt = pixel_shown src 24 2 0 (omega arith) (omega arith)
four_shown true src (suc (suc (suc (suc k)))) lt = absurd (omega (arith, lt))
four_shown false src zero lt = pixel_shown src 0 0 2 (omega arith) (omega arith)
four_shown false src (suc zero) lt = pixel_shown src 8 0 2 (omega arith) (omega arith)
four_shown false src (suc (suc zero)) lt = pixel_shown src 16 0 2 (omega arith) (omega arith)
four_shown false src (suc (suc (suc zero))) lt = pixel_shown src 24 0 2 (omega arith) (omega arith)
four_shown false src (suc (suc (suc (suc k)))) lt = absurd (omega (arith, lt))

-- ---- a pixel by the definition of a conversion
deep : (x : ℕ) → at_depth 65535 65535 x ≡ x
deep x = omega arith

upper : (x : ℕ) → at_depth 65535 255 (at_depth 65535 65535 x) ≡ x / 256
upper x = omega arith

module _ (pixel : List ℕ) where
  abbrev x : ℕ → ℕ
  x k = channel 65535 pixel k

  pub rgba_shown : out_of_light (format_with 65535 Rgb 4 Premultiplied) (format_with 255 Rgb 4 Straight) pixel ≡ shown false pixel
  rgba_shown =
      let a = deep (x 3) in
      cons (level_by (deep (x 0)) a) (cons (level_by (deep (x 1)) a) (cons (level_by (deep (x 2)) a) (cons (upper (x 3)) refl)))

  pub bgra_shown : out_of_light (format_with 65535 Rgb 4 Premultiplied) (format_with 255 Bgr 4 Straight) pixel ≡ shown true pixel
  bgra_shown =
      let a = deep (x 3) in
      cons (level_by (deep (x 2)) a) (cons (level_by (deep (x 1)) a) (cons (level_by (deep (x 0)) a) (cons (upper (x 3)) refl)))

-- pixels that are made alike
pub each_same : (max to_max count all size to_size : ℕ) (f g : List ℕ → List ℕ) (src dst : List ℕ) (n : ℕ) → ((pixel : List ℕ) → f pixel ≡ g pixel)
    → IsEach max to_max count all size to_size f src dst n → IsEach max to_max count all size to_size g src dst n
each_same max to_max count all size to_size f g src dst n same each = λ index lt.
    each index lt ∙ ap (padded to_max all) (same (samples max count (slice_range src (index * size) (index * size + size))))
