-- Eight pixels whose colors a curve maps, in one vector and in bytes.
use Rattle.std.proofs.Common.{◌≡◌, ℕ, zero, suc, ◌+◌, List, refl, sym, ap, ◌∙◌, arith, bit_or, Bool, true, false}
use Rattle.std.specs.Int.Bits.{or_zero_r}
use lib.Lanes.{zip2}
use Rattle.pix_chan.specs.Product.{channel_product}
use Rattle.pix_chan.proofs.Planes.{cons}
use Rattle.pix_bytes.specs.Recolored.{at_alpha, recolored, colors_from, alphas_from, recolored_from, last_channels}
use Rattle.pix_bytes.specs.Rows.{IsEach}
use Rattle.pix_bytes.proofs.Parts.{range_at}

-- a 255 is set after the colors of each pixel
pub made_opaque : (curve : ℕ → ℕ) (r : Bool) (size : ℕ) (bytes : List ℕ) (place n : ℕ)
    → zip2 bit_or (colors_from curve r size 0 bytes place n) (last_channels n) ≡ colors_from curve r size 255 bytes place n
made_opaque curve r size bytes place zero = refl
made_opaque curve r size bytes place (suc n) =
    cons (or_zero_r _) (cons (or_zero_r _) (cons (or_zero_r _) (cons refl (made_opaque curve r size bytes (place + size) n))))

whole : (x : ℕ) → channel_product 255 255 x ≡ x
unfolding channel_product
whole x = omega arith

-- opaque colors multiplied by the alphas
pub made_products : (curve : ℕ → ℕ) (r : Bool) (bytes : List ℕ) (place n : ℕ)
    → zip2 (channel_product 255) (colors_from curve r 4 255 bytes place n) (alphas_from bytes place n) ≡ recolored_from curve r true bytes place n
made_products curve r bytes place zero = refl
made_products curve r bytes place (suc n) =
    cons refl (cons refl (cons refl (cons (whole _) (made_products curve r bytes (place + 4) n))))

-- a color at an alpha, from their bytes
same : (m : Bool) (curve : ℕ → ℕ) (x y a b : ℕ) → y ≡ x → b ≡ a → at_alpha m (curve x) a ≡ at_alpha m (curve y) b
same m curve x y a b e f = ap (λ (n : ℕ). at_alpha m (curve n) a) (sym e) ∙ ap (λ (n : ℕ). at_alpha m (curve y) n) (sym f)

opaque_product : (x : ℕ) → x ≡ channel_product 255 x 255
unfolding channel_product
opaque_product x = omega arith

-- a color that is opaque, from its byte
full : (m : Bool) (curve : ℕ → ℕ) (x y : ℕ) → y ≡ x → curve x ≡ at_alpha m (curve y) 255
full true curve x y e = ap curve (sym e) ∙ opaque_product (curve y)
full false curve x y e = ap curve (sym e)

pub eight_mapped : (curve : ℕ → ℕ) (r m : Bool) (src : List ℕ) → IsEach 255 255 4 4 4 4 (recolored curve r m) src (recolored_from curve r m src 0 8) 8
eight_mapped curve true m src zero lt =
    let a = range_at src 0 4 3 (omega arith) in
    cons (same m curve _ _ _ _ (range_at src 0 4 2 (omega arith)) a) (cons (same m curve _ _ _ _ (range_at src 0 4 1 (omega arith)) a)
    (cons (same m curve _ _ _ _ (range_at src 0 4 0 (omega arith)) a) (cons (sym a) refl)))
eight_mapped curve true m src (suc zero) lt =
    let a = range_at src 4 4 3 (omega arith) in
    cons (same m curve _ _ _ _ (range_at src 4 4 2 (omega arith)) a) (cons (same m curve _ _ _ _ (range_at src 4 4 1 (omega arith)) a)
    (cons (same m curve _ _ _ _ (range_at src 4 4 0 (omega arith)) a) (cons (sym a) refl)))
eight_mapped curve true m src (suc (suc zero)) lt =
    let a = range_at src 8 4 3 (omega arith) in
    cons (same m curve _ _ _ _ (range_at src 8 4 2 (omega arith)) a) (cons (same m curve _ _ _ _ (range_at src 8 4 1 (omega arith)) a)
    (cons (same m curve _ _ _ _ (range_at src 8 4 0 (omega arith)) a) (cons (sym a) refl)))
eight_mapped curve true m src (suc (suc (suc zero))) lt =
    let a = range_at src 12 4 3 (omega arith) in
    cons (same m curve _ _ _ _ (range_at src 12 4 2 (omega arith)) a) (cons (same m curve _ _ _ _ (range_at src 12 4 1 (omega arith)) a)
    (cons (same m curve _ _ _ _ (range_at src 12 4 0 (omega arith)) a) (cons (sym a) refl)))
eight_mapped curve true m src (suc (suc (suc (suc zero)))) lt =
    let a = range_at src 16 4 3 (omega arith) in
    cons (same m curve _ _ _ _ (range_at src 16 4 2 (omega arith)) a) (cons (same m curve _ _ _ _ (range_at src 16 4 1 (omega arith)) a)
    (cons (same m curve _ _ _ _ (range_at src 16 4 0 (omega arith)) a) (cons (sym a) refl)))
eight_mapped curve true m src (suc (suc (suc (suc (suc zero))))) lt =
    let a = range_at src 20 4 3 (omega arith) in
    cons (same m curve _ _ _ _ (range_at src 20 4 2 (omega arith)) a) (cons (same m curve _ _ _ _ (range_at src 20 4 1 (omega arith)) a)
    (cons (same m curve _ _ _ _ (range_at src 20 4 0 (omega arith)) a) (cons (sym a) refl)))
eight_mapped curve true m src (suc (suc (suc (suc (suc (suc zero)))))) lt =
    let a = range_at src 24 4 3 (omega arith) in
    cons (same m curve _ _ _ _ (range_at src 24 4 2 (omega arith)) a) (cons (same m curve _ _ _ _ (range_at src 24 4 1 (omega arith)) a)
    (cons (same m curve _ _ _ _ (range_at src 24 4 0 (omega arith)) a) (cons (sym a) refl)))
eight_mapped curve true m src (suc (suc (suc (suc (suc (suc (suc zero))))))) lt =
    let a = range_at src 28 4 3 (omega arith) in
    cons (same m curve _ _ _ _ (range_at src 28 4 2 (omega arith)) a) (cons (same m curve _ _ _ _ (range_at src 28 4 1 (omega arith)) a)
    (cons (same m curve _ _ _ _ (range_at src 28 4 0 (omega arith)) a) (cons (sym a) refl)))
eight_mapped curve true m src (suc (suc (suc (suc (suc (suc (suc (suc k)))))))) lt = absurd (omega (arith, lt))
eight_mapped curve false m src zero lt =
    let a = range_at src 0 4 3 (omega arith) in
    cons (same m curve _ _ _ _ (range_at src 0 4 0 (omega arith)) a) (cons (same m curve _ _ _ _ (range_at src 0 4 1 (omega arith)) a)
    (cons (same m curve _ _ _ _ (range_at src 0 4 2 (omega arith)) a) (cons (sym a) refl)))
eight_mapped curve false m src (suc zero) lt =
    let a = range_at src 4 4 3 (omega arith) in
    cons (same m curve _ _ _ _ (range_at src 4 4 0 (omega arith)) a) (cons (same m curve _ _ _ _ (range_at src 4 4 1 (omega arith)) a)
    (cons (same m curve _ _ _ _ (range_at src 4 4 2 (omega arith)) a) (cons (sym a) refl)))
eight_mapped curve false m src (suc (suc zero)) lt =
    let a = range_at src 8 4 3 (omega arith) in
    cons (same m curve _ _ _ _ (range_at src 8 4 0 (omega arith)) a) (cons (same m curve _ _ _ _ (range_at src 8 4 1 (omega arith)) a)
    (cons (same m curve _ _ _ _ (range_at src 8 4 2 (omega arith)) a) (cons (sym a) refl)))
eight_mapped curve false m src (suc (suc (suc zero))) lt =
    let a = range_at src 12 4 3 (omega arith) in
    cons (same m curve _ _ _ _ (range_at src 12 4 0 (omega arith)) a) (cons (same m curve _ _ _ _ (range_at src 12 4 1 (omega arith)) a)
    (cons (same m curve _ _ _ _ (range_at src 12 4 2 (omega arith)) a) (cons (sym a) refl)))
eight_mapped curve false m src (suc (suc (suc (suc zero)))) lt =
    let a = range_at src 16 4 3 (omega arith) in
    cons (same m curve _ _ _ _ (range_at src 16 4 0 (omega arith)) a) (cons (same m curve _ _ _ _ (range_at src 16 4 1 (omega arith)) a)
    (cons (same m curve _ _ _ _ (range_at src 16 4 2 (omega arith)) a) (cons (sym a) refl)))
eight_mapped curve false m src (suc (suc (suc (suc (suc zero))))) lt =
    let a = range_at src 20 4 3 (omega arith) in
    cons (same m curve _ _ _ _ (range_at src 20 4 0 (omega arith)) a) (cons (same m curve _ _ _ _ (range_at src 20 4 1 (omega arith)) a)
    (cons (same m curve _ _ _ _ (range_at src 20 4 2 (omega arith)) a) (cons (sym a) refl)))
eight_mapped curve false m src (suc (suc (suc (suc (suc (suc zero)))))) lt =
    let a = range_at src 24 4 3 (omega arith) in
    cons (same m curve _ _ _ _ (range_at src 24 4 0 (omega arith)) a) (cons (same m curve _ _ _ _ (range_at src 24 4 1 (omega arith)) a)
    (cons (same m curve _ _ _ _ (range_at src 24 4 2 (omega arith)) a) (cons (sym a) refl)))
eight_mapped curve false m src (suc (suc (suc (suc (suc (suc (suc zero))))))) lt =
    let a = range_at src 28 4 3 (omega arith) in
    cons (same m curve _ _ _ _ (range_at src 28 4 0 (omega arith)) a) (cons (same m curve _ _ _ _ (range_at src 28 4 1 (omega arith)) a)
    (cons (same m curve _ _ _ _ (range_at src 28 4 2 (omega arith)) a) (cons (sym a) refl)))
eight_mapped curve false m src (suc (suc (suc (suc (suc (suc (suc (suc k)))))))) lt = absurd (omega (arith, lt))

pub eight_opaque : (curve : ℕ → ℕ) (r m : Bool) (src : List ℕ) → IsEach 255 255 3 4 3 4 (recolored curve r m) src (colors_from curve r 3 255 src 0 8) 8
eight_opaque curve true m src zero lt =
    cons (full m curve _ _ (range_at src 0 3 2 (omega arith))) (cons (full m curve _ _ (range_at src 0 3 1 (omega arith)))
    (cons (full m curve _ _ (range_at src 0 3 0 (omega arith))) (cons refl refl)))
eight_opaque curve true m src (suc zero) lt =
    cons (full m curve _ _ (range_at src 3 3 2 (omega arith))) (cons (full m curve _ _ (range_at src 3 3 1 (omega arith)))
    (cons (full m curve _ _ (range_at src 3 3 0 (omega arith))) (cons refl refl)))
eight_opaque curve true m src (suc (suc zero)) lt =
    cons (full m curve _ _ (range_at src 6 3 2 (omega arith))) (cons (full m curve _ _ (range_at src 6 3 1 (omega arith)))
    (cons (full m curve _ _ (range_at src 6 3 0 (omega arith))) (cons refl refl)))
eight_opaque curve true m src (suc (suc (suc zero))) lt =
    cons (full m curve _ _ (range_at src 9 3 2 (omega arith))) (cons (full m curve _ _ (range_at src 9 3 1 (omega arith)))
    (cons (full m curve _ _ (range_at src 9 3 0 (omega arith))) (cons refl refl)))
eight_opaque curve true m src (suc (suc (suc (suc zero)))) lt =
    cons (full m curve _ _ (range_at src 12 3 2 (omega arith))) (cons (full m curve _ _ (range_at src 12 3 1 (omega arith)))
    (cons (full m curve _ _ (range_at src 12 3 0 (omega arith))) (cons refl refl)))
eight_opaque curve true m src (suc (suc (suc (suc (suc zero))))) lt =
    cons (full m curve _ _ (range_at src 15 3 2 (omega arith))) (cons (full m curve _ _ (range_at src 15 3 1 (omega arith)))
    (cons (full m curve _ _ (range_at src 15 3 0 (omega arith))) (cons refl refl)))
eight_opaque curve true m src (suc (suc (suc (suc (suc (suc zero)))))) lt =
    cons (full m curve _ _ (range_at src 18 3 2 (omega arith))) (cons (full m curve _ _ (range_at src 18 3 1 (omega arith)))
    (cons (full m curve _ _ (range_at src 18 3 0 (omega arith))) (cons refl refl)))
eight_opaque curve true m src (suc (suc (suc (suc (suc (suc (suc zero))))))) lt =
    cons (full m curve _ _ (range_at src 21 3 2 (omega arith))) (cons (full m curve _ _ (range_at src 21 3 1 (omega arith)))
    (cons (full m curve _ _ (range_at src 21 3 0 (omega arith))) (cons refl refl)))
eight_opaque curve true m src (suc (suc (suc (suc (suc (suc (suc (suc k)))))))) lt = absurd (omega (arith, lt))
eight_opaque curve false m src zero lt =
    cons (full m curve _ _ (range_at src 0 3 0 (omega arith))) (cons (full m curve _ _ (range_at src 0 3 1 (omega arith)))
    (cons (full m curve _ _ (range_at src 0 3 2 (omega arith))) (cons refl refl)))
eight_opaque curve false m src (suc zero) lt =
    cons (full m curve _ _ (range_at src 3 3 0 (omega arith))) (cons (full m curve _ _ (range_at src 3 3 1 (omega arith)))
    (cons (full m curve _ _ (range_at src 3 3 2 (omega arith))) (cons refl refl)))
eight_opaque curve false m src (suc (suc zero)) lt =
    cons (full m curve _ _ (range_at src 6 3 0 (omega arith))) (cons (full m curve _ _ (range_at src 6 3 1 (omega arith)))
    (cons (full m curve _ _ (range_at src 6 3 2 (omega arith))) (cons refl refl)))
eight_opaque curve false m src (suc (suc (suc zero))) lt =
    cons (full m curve _ _ (range_at src 9 3 0 (omega arith))) (cons (full m curve _ _ (range_at src 9 3 1 (omega arith)))
    (cons (full m curve _ _ (range_at src 9 3 2 (omega arith))) (cons refl refl)))
eight_opaque curve false m src (suc (suc (suc (suc zero)))) lt =
    cons (full m curve _ _ (range_at src 12 3 0 (omega arith))) (cons (full m curve _ _ (range_at src 12 3 1 (omega arith)))
    (cons (full m curve _ _ (range_at src 12 3 2 (omega arith))) (cons refl refl)))
eight_opaque curve false m src (suc (suc (suc (suc (suc zero))))) lt =
    cons (full m curve _ _ (range_at src 15 3 0 (omega arith))) (cons (full m curve _ _ (range_at src 15 3 1 (omega arith)))
    (cons (full m curve _ _ (range_at src 15 3 2 (omega arith))) (cons refl refl)))
eight_opaque curve false m src (suc (suc (suc (suc (suc (suc zero)))))) lt =
    cons (full m curve _ _ (range_at src 18 3 0 (omega arith))) (cons (full m curve _ _ (range_at src 18 3 1 (omega arith)))
    (cons (full m curve _ _ (range_at src 18 3 2 (omega arith))) (cons refl refl)))
eight_opaque curve false m src (suc (suc (suc (suc (suc (suc (suc zero))))))) lt =
    cons (full m curve _ _ (range_at src 21 3 0 (omega arith))) (cons (full m curve _ _ (range_at src 21 3 1 (omega arith)))
    (cons (full m curve _ _ (range_at src 21 3 2 (omega arith))) (cons refl refl)))
eight_opaque curve false m src (suc (suc (suc (suc (suc (suc (suc (suc k)))))))) lt = absurd (omega (arith, lt))
