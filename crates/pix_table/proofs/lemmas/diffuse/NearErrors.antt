-- Errors that are held to the bound: no color that is looked up is far from its pixel.
use Rattle.std.proofs.Common.{◌≡◌, ℕ, zero, suc, ◌+◌, ◌*◌, ◌<◌, ◌≤◌, List, [], ◌∷◌, ◌++◌, length, map, get_or, Bool, true, false, inl, inr, refl, arith, sym, subst, length-append, mul-le-mul_right}
use Rattle.std.specs.Prelude.{slice_index, nat_lt, nat_le, ◌&&◌, ◌-◌, ◌%◌}
use Rattle.std.proofs.lemmas.Bool.{cases_lt}
use Rattle.std.proofs.lemmas.List.{length-map, get_or-map, get_or_append_left, get_or_push}
use Rattle.pix_table.specs.matching.Nearest.{IsNearestBy, alpha_of}
use Rattle.pix_table.specs.diffuse.ErrorBound.{AreNear, IsErrorBound, IsNear}
use Rattle.pix_table.specs.diffuse.Diffusion.{AreShownAroundBy, IsDiffused, none, clear, shown, IsNearestAround, IsShownAround, corrected, handed, held, held_to, in_picture, number_above, part, share_before, share_next}
use Rattle.pix_table.specs.declared.diffuse.ScanOrder.{ScanOrder}
use Rattle.pix_table.specs.declared.diffuse.ScanOrder.TheVariants.{LeftToRight, Serpentine}
use Rattle.pix_table.specs.declared.diffuse.diffused_color.NeighborErrors.{NeighborErrors}
use Rattle.pix_table.specs.diffuse.Done.{AreDone}
use Rattle.pix_table.specs.SeenPixels.{seen, seen_distance}
use Rattle.pix_chan.specs.Product.{channel_product}
use Rattle.pix_table.proofs.lemmas.diffuse.Diffused.{in_parts}
use Rattle.pix_table.proofs.lemmas.diffuse.ScanOrders.{in_picture_below, in_picture_twice}

held_near : (b w f : ℕ) → IsNear b w (held b w f)
held_near b w f = (omega arith, omega arith)

-- what counts as found is near what was wanted, in each channel
channel_near : (b : ℕ) (w f : List ℕ) (c : ℕ) → IsNear b (slice_index w c) (slice_index (held_to b w f) c)
channel_near b [] f c = (omega arith, omega arith)
channel_near b (w ∷ ws) [] zero = held_near b w 0
channel_near b (w ∷ ws) [] (suc c) = channel_near b ws [] c
channel_near b (w ∷ ws) (f ∷ fs) zero = held_near b w f
channel_near b (w ∷ ws) (f ∷ fs) (suc c) = channel_near b ws fs c

-- as many colors were wanted and found, each near the other
record AreAllNear (bound : ℕ) (wanted found : List (List ℕ)) : Type 0 where
  pub many : length wanted ≡ length found
  pub near : (j c : ℕ) → IsNear bound (slice_index (get_or wanted j []) c) (slice_index (get_or found j []) c)

one_more : (b : ℕ) (ws gs : List (List ℕ)) (w g : List ℕ) → length ws ≡ length gs → ((j c : ℕ) → IsNear b (slice_index (get_or ws j []) c) (slice_index (get_or gs j []) c))
    → ((c : ℕ) → IsNear b (slice_index w c) (slice_index g c)) → (j c : ℕ) → IsNear b (slice_index (get_or (ws ++ w ∷ []) j []) c) (slice_index (get_or (gs ++ g ∷ []) j []) c)
one_more b [] [] w g e near here zero c = here c
one_more b [] [] w g e near here (suc j) c = (omega arith, omega arith)
one_more b (x ∷ ws) (y ∷ gs) w g e near here zero c = near 0 c
one_more b (x ∷ ws) (y ∷ gs) w g e near here (suc j) c = one_more b ws gs w g (omega (arith, e)) (λ i. near (suc i)) here j c
one_more b [] (y ∷ gs) w g e near here j c = absurd (omega (arith, e))
one_more b (x ∷ ws) [] w g e near here j c = absurd (omega (arith, e))

with_one : (b : ℕ) (ws gs : List (List ℕ)) (w g : List ℕ) → AreAllNear b ws gs → ((c : ℕ) → IsNear b (slice_index w c) (slice_index g c)) → AreAllNear b (ws ++ w ∷ []) (gs ++ g ∷ [])
with_one b ws gs w g h here = record {
  many = omega (arith, length-append ws (w ∷ []), length-append gs (g ∷ []), h.many);
  near = one_more b ws gs w g h.many h.near here;
}

same_near : (b : ℕ) (w : List ℕ) (c : ℕ) → IsNear b (slice_index w c) (slice_index w c)
same_near b w c = (omega arith, omega arith)

part_near : (b : ℕ) (there : Bool) (p q : List ℕ) (c : ℕ) → IsNear b (slice_index p c) (slice_index q c) → IsNear b (part there 1 p c) (part there 1 q c)
part_near b true p q c near = (omega (arith, near), omega (arith, near))
part_near b false p q c near = (omega arith, omega arith)

-- sixteen sixteenths of the bound
four_near : (n : ℕ) (scan : ScanOrder) (a b c d e f g h : ℕ) → IsNear n a e → IsNear n b f → IsNear n c g → IsNear n d h
    → (7 * a + share_before scan * b + 5 * c + share_next scan * d ≤ 7 * e + share_before scan * f + 5 * g + share_next scan * h + 16 * n)
    × (7 * e + share_before scan * f + 5 * g + share_next scan * h ≤ 7 * a + share_before scan * b + 5 * c + share_next scan * d + 16 * n)
four_near n LeftToRight a b c d e f g h p q r s = (omega (arith, p, q, r, s), omega (arith, p, q, r, s))
four_near n Serpentine a b c d e f g h p q r s = (omega (arith, p, q, r, s), omega (arith, p, q, r, s))

handed_near : (b : ℕ) (scan : ScanOrder) (ws gs : List (List ℕ)) (width first place c : ℕ) → AreAllNear b ws gs
    → (handed scan width ws first place c ≤ handed scan width gs first place c + 16 * b) × (handed scan width gs first place c ≤ handed scan width ws first place c + 16 * b)
handed_near b scan ws gs width first place c h =
    let all = four_near b scan _ _ _ _ _ _ _ _
    (part_near b (nat_lt 0 place) _ _ c (h.near (first + place - 1) c))
    (part_near b (nat_lt 0 place && nat_le width first) _ _ c (h.near (number_above scan width first (place - 1)) c))
    (part_near b (nat_le width first) _ _ c (h.near (number_above scan width first place) c))
    (part_near b (nat_lt (place + 1) width && nat_le width first) _ _ c (h.near (number_above scan width first (place + 1)) c)) in
    (omega (arith, in_parts scan ws width first place c, in_parts scan gs width first place c, all.0), omega (arith, in_parts scan ws width first place c, in_parts scan gs width first place c, all.1))

corrected_near : (b s n w f : ℕ) → s ≤ 16 → n ≤ 255 → w ≤ f + 16 * b → f ≤ w + 16 * b → IsNear b n (corrected s n w f)
corrected_near b s n w f few byte above below =
    let more : w * s ≤ (f + 16 * b) * s = mul-le-mul_right {m = w} {n = f + 16 * b} s above in
    let less : f * s ≤ (w + 16 * b) * s = mul-le-mul_right {m = f} {n = w + 16 * b} s below in
    let most : s * b ≤ 16 * b = mul-le-mul_right {m = s} {n = 16} b few in
    (omega (arith, more, less, most, byte), omega (arith, more, less, most, byte))

module _ (color : (ℕ → ℕ) → List ℕ) (apart : List ℕ → List ℕ → ℕ) (scan : ScanOrder) (bound strength : ℕ) (entries : List (List ℕ)) (alpha transparent_index width : ℕ) (pixels : List (List ℕ))
    (channels : ℕ) (fits : List ℕ → Type 0) (few : strength ≤ 16) (is_bound : IsErrorBound entries bound)
    (stays : (pixel : List ℕ) (number : ℕ → ℕ) → fits pixel → ((c : ℕ) → slice_index pixel c ≤ 255 → IsNear bound (slice_index pixel c) (number c)) → AreNear bound channels pixel (color number)) where
  kept : (wanted found : List (List ℕ)) (indices : List ℕ) → IsDiffused color apart scan bound strength entries alpha transparent_index width pixels wanted found indices → AreAllNear bound wanted found
  kept _ _ _ none = record { many = refl; near = λ j c. same_near bound (get_or [] j []) c }
  kept _ _ _ (clear wanted found indices h below) = with_one bound wanted found _ _ (kept wanted found indices h) (same_near bound (color (λ channel. 0)))
  kept _ _ _ (shown wanted found indices w i h above is nearest) = with_one bound wanted found w _ (kept wanted found indices h) (channel_near bound w (get_or entries i []))

  abbrev around : (j : ℕ) (i : ℕ) → Type 0
  around j i = IsShownAround apart channels entries alpha transparent_index (get_or pixels (in_picture scan width j) []) i

  abbrev pub own : (j : ℕ) → Type 0
  own j = alpha ≤ alpha_of (get_or pixels (in_picture scan width j) []) → fits (get_or pixels (in_picture scan width j) [])

  -- what is said of all pixels before one and of that one is said of one pixel more
  next : (indices : List ℕ) (i : ℕ) → ((j : ℕ) → j < length indices → around j (get_or indices j 0)) → around (length indices) i
      → (j : ℕ) → j < length (indices ++ i ∷ []) → around j (get_or (indices ++ i ∷ []) j 0)
  next indices i before here j less = elim (cases_lt j (length indices)) [
    | inl b ↦ subst (λ n. around j n) (sym (get_or_append_left indices (i ∷ []) 0 j b)) (before j b)
    | inr b ↦
        let e : length indices ≡ j = omega (arith, less, length-append indices (i ∷ [])) in
        subst (λ n. around n (get_or (indices ++ i ∷ []) n 0)) e (subst (λ n. around (length indices) n) (sym (get_or_push indices i 0 (length indices) refl)) here)
  ]

  fewer : (indices : List ℕ) (i : ℕ) → ((j : ℕ) → j < length (indices ++ i ∷ []) → own j) → (j : ℕ) → j < length indices → own j
  fewer indices i can j less = can j (omega (arith, less, length-append indices (i ∷ [])))

  along : (wanted found : List (List ℕ)) (indices : List ℕ) → IsDiffused color apart scan bound strength entries alpha transparent_index width pixels wanted found indices
      → ((j : ℕ) → j < length indices → own j) → (j : ℕ) → j < length indices → around j (get_or indices j 0)
  along _ _ _ none can j less = absurd (omega arith)
  along _ _ _ (clear wanted found indices h below) can j less =
      next indices transparent_index (along wanted found indices h (fewer indices transparent_index can)) (inl (below, refl)) j less
  along _ _ _ (shown wanted found indices w i h above is nearest) can j less =
      let k : ℕ = length indices in
      let pixel : List ℕ = get_or pixels (in_picture scan width (length indices)) [] in
      let fit : fits (get_or pixels (in_picture scan width (length indices)) []) = can (length indices) (omega (arith, length-append indices (i ∷ []))) above in
      let all : AreAllNear bound wanted found = kept wanted found indices h in
      let near : AreNear bound channels (get_or pixels (in_picture scan width (length indices)) []) w =
      subst (λ v. AreNear bound channels (get_or pixels (in_picture scan width (length indices)) []) v) (sym is)
      (stays pixel _ fit (λ c byte.
      let both = handed_near bound scan wanted found width (k - k % width) (k % width) c all in
      corrected_near bound strength (slice_index pixel c) _ _ few byte both.0 both.1)) in
      next indices i (along wanted found indices h (fewer indices i can)) (inr (above, record { bound = bound; is_bound = is_bound; looked_up = w; nearest = nearest; near = near })) j less

  pub everywhere : (n : ℕ) (ws gs : List (List ℕ)) (near : NeighborErrors) (indices : List ℕ) → 0 < width → (scan ≡ Serpentine → length pixels % width ≡ 0) → n ≡ length pixels
      → AreDone color apart scan bound strength entries alpha transparent_index width pixels n ws gs near indices → ((j : ℕ) → j < n → own j)
      → AreShownAroundBy apart channels entries alpha transparent_index pixels indices
  everywhere n ws gs near indices some whole e done can k less =
      let below : in_picture scan width k < length pixels = in_picture_below scan width (length pixels) k some less whole in
      let here : around (in_picture scan width k) (get_or done.along (in_picture scan width k) 0) =
      along done.all_wanted done.all_found done.along done.diffused (λ i b. can i (omega (arith, b, done.many))) (in_picture scan width k) (omega (arith, below, e, done.many)) in
      let each : get_or indices (in_picture scan width (in_picture scan width k)) 0 ≡ get_or done.along (in_picture scan width k) 0 =
      done.each (in_picture scan width k) (omega (arith, below, e)) in
      subst (λ p. IsShownAround apart channels entries alpha transparent_index (get_or pixels p []) (get_or indices p 0)) (in_picture_twice scan width k some)
      (subst (λ i. IsShownAround apart channels entries alpha transparent_index (get_or pixels (in_picture scan width (in_picture scan width k)) []) i) (sym each) here)

-- a clear pixel is seen as no color, which is near itself
product_none : (n a : ℕ) → a < 1 → channel_product 255 n a ≡ 0
unfolding channel_product
product_none n zero less = omega arith
product_none n (suc a) less = absurd (omega (arith, less))

no_color : (b : ℕ) (p : List ℕ) → alpha_of p < 1 → AreNear b 4 (seen p) (0 ∷ 0 ∷ 0 ∷ 0 ∷ [])
no_color b p low zero few = let e = product_none (slice_index p 0) (alpha_of p) low in (omega (arith, e), omega (arith, e))
no_color b p low (suc zero) few = let e = product_none (slice_index p 1) (alpha_of p) low in (omega (arith, e), omega (arith, e))
no_color b p low (suc (suc zero)) few = let e = product_none (slice_index p 2) (alpha_of p) low in (omega (arith, e), omega (arith, e))
no_color b p low (suc (suc (suc zero))) few = (omega (arith, low), omega (arith, low))
no_color b p low (suc (suc (suc (suc c)))) few = absurd (omega (arith, few))

pub seen_around : (entries ps : List (List ℕ)) (bound empty : ℕ) (indices : List ℕ) → IsErrorBound entries bound → IsNearestBy seen_distance entries (0 ∷ 0 ∷ 0 ∷ 0 ∷ []) empty
    → AreShownAroundBy seen_distance 4 entries 1 empty (map seen ps) indices
    → (k : ℕ) → k < length ps → IsNearestAround seen_distance 4 entries (seen (get_or ps k [])) (get_or indices k 0)
seen_around entries ps bound empty indices is_bound nearest all k less =
    let at : get_or (map seen ps) k [] ≡ seen (get_or ps k []) = get_or-map seen ps k [] [] less in
    let here : IsShownAround seen_distance 4 entries 1 empty (seen (get_or ps k [])) (get_or indices k 0) =
    subst (λ p. IsShownAround seen_distance 4 entries 1 empty p (get_or indices k 0)) at (all k (omega (arith, less, length-map ps seen))) in
    elim here [
      | inl h ↦ record {
        bound = bound;
        is_bound = is_bound;
        looked_up = 0 ∷ 0 ∷ 0 ∷ 0 ∷ [];
        nearest = subst (λ i. IsNearestBy seen_distance entries (0 ∷ 0 ∷ 0 ∷ 0 ∷ []) i) (sym h.1) nearest;
        near = no_color bound (get_or ps k []) h.0;
      }
      | inr h ↦ h.1
    ]
