-- Four pixels in light, in one vector and in bytes.
use Rattle.std.proofs.Common.{◌≡◌, ℕ, zero, suc, ◌<◌, ◌+◌, ◌*◌, ◌/◌, ◌%◌, List, [], ◌∷◌, length, refl, sym, ap, ◌∙◌, arith, Fits, Bool, true, false}
use mir.Syntax.{w16}
use lib.Lanes.{zip2, Each1, number_l, digits_l}
use Rattle.std.specs.Prelude.{slice_index_or}
use Rattle.pix_chan.specs.Product.{channel_product}
use Rattle.pix_chan.specs.Srgb16.{srgb_decoded16}
use Rattle.pix_chan.proofs.Planes.{cons}
use Rattle.pix_bytes.specs.Lit.{multiplied_light, opaque_light, four_alphas, bytes_of}
use Rattle.pix_bytes.specs.Rows.{IsEach}
use Rattle.pix_bytes.proofs.Parts.{range_at}

abbrev twice : ℕ → ℕ
twice zero = zero
twice (suc n) = suc (suc (twice n))

-- an opaque pixel keeps its colors
full : (x b : ℕ) → b ≡ 255 → x ≡ channel_product 65535 x (257 * b)
unfolding channel_product
full x b e = rw e (omega arith)

pub opaque_lit : (r : Bool) (bytes : List ℕ) → slice_index_or bytes 3 0 ≡ 255 → slice_index_or bytes 7 0 ≡ 255 → slice_index_or bytes 11 0 ≡ 255 → slice_index_or bytes 15 0 ≡ 255
    → opaque_light r bytes ≡ zip2 (channel_product 65535) (opaque_light r bytes) (four_alphas bytes)
opaque_lit r bytes a b c d =
    cons (full _ _ a) (cons (full _ _ a) (cons (full _ _ a) (cons (full _ _ a)
    (cons (full _ _ b) (cons (full _ _ b) (cons (full _ _ b) (cons (full _ _ b)
    (cons (full _ _ c) (cons (full _ _ c) (cons (full _ _ c) (cons (full _ _ c)
    (cons (full _ _ d) (cons (full _ _ d) (cons (full _ _ d) (cons (full _ _ d) refl)))))))))))))))

-- lanes of sixteen bits in bytes
low_byte : (x r : ℕ) → (x + 65536 * r) % 256 ≡ x % 256
low_byte x r = omega arith

high_byte : (x r : ℕ) → x < 65536 → (x + 65536 * r) / 256 % 256 ≡ x / 256
high_byte x r h = omega (arith, h)

after_bytes : (x r : ℕ) → x < 65536 → (x + 65536 * r) / 256 / 256 ≡ r
after_bytes x r h = omega (arith, h)

pub bytes_are : (n : ℕ) (xs : List ℕ) → length xs ≡ n → Each1 (Fits w16) xs → digits_l 256 (twice n) (number_l 65536 xs) ≡ bytes_of xs
bytes_are zero [] l f = refl
bytes_are zero (x ∷ xs) l f = absurd (omega (arith, l))
bytes_are (suc n) [] l f = absurd (omega (arith, l))
bytes_are (suc n) (x ∷ xs) l f =
    let r : ℕ = number_l 65536 xs in
    let h : x < 65536 = f.0.fits in
    cons (low_byte x r) (cons (high_byte x r h) (ap (digits_l 256 (twice n)) (after_bytes x r h) ∙ bytes_are n xs (omega (arith, l)) f.1))

-- a color and an alpha, from their bytes
joined : (x : ℕ) → x % 256 + 256 * (x / 256) ≡ x
joined x = omega arith

color_made : (level alpha byte last : ℕ) → byte ≡ level → last ≡ alpha
    → let x = channel_product 65535 (srgb_decoded16 level) (257 * alpha) in x % 256 + 256 * (x / 256) ≡ channel_product 65535 (srgb_decoded16 byte) (257 * last)
color_made level alpha byte last e f =
    joined (channel_product 65535 (srgb_decoded16 level) (257 * alpha)) ∙ ap (λ (x : ℕ). channel_product 65535 (srgb_decoded16 x) (257 * alpha)) (sym e)
    ∙ ap (λ (a : ℕ). channel_product 65535 (srgb_decoded16 byte) (257 * a)) (sym f)

whole_alpha : (x : ℕ) → channel_product 65535 65535 x ≡ x
unfolding channel_product
whole_alpha x = omega arith

alpha_made : (alpha last : ℕ) → last ≡ alpha → let x = channel_product 65535 65535 (257 * alpha) in x % 256 + 256 * (x / 256) ≡ 257 * last
alpha_made alpha last e = joined (channel_product 65535 65535 (257 * alpha)) ∙ whole_alpha (257 * alpha) ∙ ap (λ (a : ℕ). 257 * a) (sym e)

pub four_lit : (r : Bool) (src : List ℕ) → IsEach 255 65535 4 4 4 8 (multiplied_light r) src (bytes_of (zip2 (channel_product 65535) (opaque_light r src) (four_alphas src))) 4
four_lit true src zero lt =
    let a = range_at src 0 4 3 (omega arith) in
    cons (color_made _ _ _ _ (range_at src 0 4 2 (omega arith)) a) (cons (color_made _ _ _ _ (range_at src 0 4 1 (omega arith)) a)
    (cons (color_made _ _ _ _ (range_at src 0 4 0 (omega arith)) a) (cons (alpha_made _ _ a) refl)))
four_lit true src (suc zero) lt =
    let a = range_at src 4 4 3 (omega arith) in
    cons (color_made _ _ _ _ (range_at src 4 4 2 (omega arith)) a) (cons (color_made _ _ _ _ (range_at src 4 4 1 (omega arith)) a)
    (cons (color_made _ _ _ _ (range_at src 4 4 0 (omega arith)) a) (cons (alpha_made _ _ a) refl)))
four_lit true src (suc (suc zero)) lt =
    let a = range_at src 8 4 3 (omega arith) in
    cons (color_made _ _ _ _ (range_at src 8 4 2 (omega arith)) a) (cons (color_made _ _ _ _ (range_at src 8 4 1 (omega arith)) a)
    (cons (color_made _ _ _ _ (range_at src 8 4 0 (omega arith)) a) (cons (alpha_made _ _ a) refl)))
four_lit true src (suc (suc (suc zero))) lt =
    let a = range_at src 12 4 3 (omega arith) in
    cons (color_made _ _ _ _ (range_at src 12 4 2 (omega arith)) a) (cons (color_made _ _ _ _ (range_at src 12 4 1 (omega arith)) a)
    (cons (color_made _ _ _ _ (range_at src 12 4 0 (omega arith)) a) (cons (alpha_made _ _ a) refl)))
four_lit true src (suc (suc (suc (suc k)))) lt = absurd (omega (arith, lt))
four_lit false src zero lt =
    let a = range_at src 0 4 3 (omega arith) in
    cons (color_made _ _ _ _ (range_at src 0 4 0 (omega arith)) a) (cons (color_made _ _ _ _ (range_at src 0 4 1 (omega arith)) a)
    (cons (color_made _ _ _ _ (range_at src 0 4 2 (omega arith)) a) (cons (alpha_made _ _ a) refl)))
four_lit false src (suc zero) lt =
    let a = range_at src 4 4 3 (omega arith) in
    cons (color_made _ _ _ _ (range_at src 4 4 0 (omega arith)) a) (cons (color_made _ _ _ _ (range_at src 4 4 1 (omega arith)) a)
    (cons (color_made _ _ _ _ (range_at src 4 4 2 (omega arith)) a) (cons (alpha_made _ _ a) refl)))
four_lit false src (suc (suc zero)) lt =
    let a = range_at src 8 4 3 (omega arith) in
    cons (color_made _ _ _ _ (range_at src 8 4 0 (omega arith)) a) (cons (color_made _ _ _ _ (range_at src 8 4 1 (omega arith)) a)
    (cons (color_made _ _ _ _ (range_at src 8 4 2 (omega arith)) a) (cons (alpha_made _ _ a) refl)))
four_lit false src (suc (suc (suc zero))) lt =
    let a = range_at src 12 4 3 (omega arith) in
    cons (color_made _ _ _ _ (range_at src 12 4 0 (omega arith)) a) (cons (color_made _ _ _ _ (range_at src 12 4 1 (omega arith)) a)
    (cons (color_made _ _ _ _ (range_at src 12 4 2 (omega arith)) a) (cons (alpha_made _ _ a) refl)))
four_lit false src (suc (suc (suc (suc k)))) lt = absurd (omega (arith, lt))
