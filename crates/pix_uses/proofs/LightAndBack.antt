-- Pixels that go into linear light, and come back.
use Rattle.std.proofs.Common.{◌≡◌, ℕ, suc, zero, ◌≤◌, ◌<◌, ◌+◌, ◌*◌, List, [], ◌∷◌, length, map, refl, sym, ap, ◌∙◌, arith, inl, inr, Bool, true, false}
use Rattle.std.specs.Prelude.{if◌then◌else◌, All, slice_index_or, fold, IfOk, Result, Ok, Err}
use Rattle.std.specs.declared.ops.Range.{Range}
use Rattle.std.proofs.lemmas.Bool.{cases_lt}
use Rattle.std.proofs.lemmas.List.{get_or-map, get_or_default, length-map}
use Rattle.std.proofs.Math.ListN.{get_or-eq_default}
use Rattle.std.proofs.lemmas.List.FromFn.{fill_by_all, length-map-range_with_len, get_or-map-range_with_len}
use Rattle.pix_chan.specs.Modes.{AlphaMode, Straight, Premultiplied}
use Rattle.pix_chan.specs.Srgb16.{srgb_decoded16, srgb_encoded8}
use Rattle.pix_chan.proofs.Srgb16.{curve}
use Rattle.pix_el.specs.Pixel.{Layout, lies_in, channel}
use Rattle.pix_el.specs.Conversion.{Format, at_depth}
use Rattle.pix.specs.Image.{Image, Changed, point, region_of}
use Rattle.pix.specs.Region.{Rectangle, whole}
use Rattle.pix.specs.Run.{apply, effects_at, run_at}
use Rattle.pix_raster.specs.declared.command.Command.{Command}
use Rattle.pix_uses.specs.Light.{IsSeenOrClear}
use Rattle.pix_uses.proofs.Points.{place_in}
use Rattle.pix_el.specs.Light.{mode_changed, channel_in_light, channel_as_srgb, in_light, as_srgb}

-- one choice inside another, by the same test
chosen_twice : (b : Bool) (f g : ℕ → ℕ) (p q x : ℕ) → f p ≡ x → g q ≡ x → (if b then f (if b then p else q) else g (if b then p else q)) ≡ x
chosen_twice true f g p q x e h = e
chosen_twice false f g p q x e h = h

not_chosen : (b : Bool) (p q : ℕ) → b ≡ false → (if b then p else q) ≡ q
not_chosen b p q e = rw e refl

deep_and_back : (x : ℕ) → x ≤ 255 → at_depth 65535 255 (at_depth 255 65535 x) ≡ x
deep_and_back x h = omega (arith, h)

-- the alpha of a pixel in light
alpha_in_light : (format to : Format) (pixel : List ℕ) → format.layout.max ≡ 255 → to.layout.max ≡ 65535 → format.layout.count ≤ to.layout.count
    → length pixel ≡ format.layout.count → lies_in to.colors to.layout.alpha ≡ false
    → channel 65535 (in_light format to pixel) to.layout.alpha ≡ at_depth 255 65535 (channel 255 pixel to.layout.alpha)
alpha_in_light format to pixel narrow wide more long other =
    let alpha = to.layout.alpha in
    let f = channel_in_light format to pixel in
    elim (cases_lt alpha to.layout.count) [
      | inl there ↦
          get_or-map-range_with_len f 0 to.layout.count alpha alpha 65535 there (omega arith)
          ∙ not_chosen (lies_in to.colors alpha) _ (at_depth format.layout.max to.layout.max (channel format.layout.max pixel alpha)) other
          ∙ rw (narrow, wide) refl
      | inr absent ↦
          get_or-eq_default (in_light format to pixel) 65535 (omega (arith, length-map-range_with_len f 0 to.layout.count, absent))
          ∙ sym (ap (at_depth 255 65535) (get_or-eq_default pixel 255 (omega (arith, absent, more, long))))
    ]

-- where each color comes back at the alpha, the pixel does
pub back : (format to : Format) (pixel : List ℕ) → format.layout.max ≡ 255 → to.layout.max ≡ 65535 → format.colors ≡ to.colors → format.layout.alpha ≡ to.layout.alpha
    → lies_in to.colors to.layout.alpha ≡ false → format.layout.count ≤ to.layout.count → length pixel ≡ format.layout.count → ((ch : ℕ) → channel 255 pixel ch ≤ 255)
    → ((ch : ℕ) → ch < format.layout.count → srgb_encoded8 (mode_changed 65535 to.alpha_mode format.alpha_mode (at_depth 255 65535 (channel 255 pixel to.layout.alpha))
    (mode_changed 65535 format.alpha_mode to.alpha_mode (at_depth 255 65535 (channel 255 pixel to.layout.alpha)) (srgb_decoded16 (channel 255 pixel ch)))) ≡ channel 255 pixel ch)
    → as_srgb to format (in_light format to pixel) ≡ pixel
back format to pixel narrow wide colors alphas other more long fits keeps =
    sym (fill_by_all (channel_as_srgb to format light) pixel format.layout.count 255 long (λ ch h. sym (at ch h)))
  where
    light : List ℕ
    light = in_light format to pixel

    at : (ch : ℕ) → ch < format.layout.count → channel_as_srgb to format light ch ≡ channel 255 pixel ch
    at ch h =
        let x = channel 255 pixel ch in
        let a = at_depth 255 65535 (channel 255 pixel to.layout.alpha) in
        let b = lies_in to.colors ch in
        let inward = mode_changed 65535 format.alpha_mode to.alpha_mode in
        let outward = mode_changed 65535 to.alpha_mode format.alpha_mode in
        let made : channel 65535 (in_light format to pixel) ch ≡ (if b then inward a (srgb_decoded16 x) else at_depth 255 65535 x) =
        get_or-map-range_with_len (channel_in_light format to pixel) 0 to.layout.count ch ch 65535 (omega (arith, h, more)) (omega arith)
        ∙ rw (narrow, wide) refl in
        let read : channel_as_srgb to format (in_light format to pixel) ch
        ≡ (if b then srgb_encoded8 (outward (channel 65535 (in_light format to pixel) to.layout.alpha) (channel 65535 (in_light format to pixel) ch))
        else at_depth 65535 255 (channel 65535 (in_light format to pixel) ch)) =
        rw (narrow, wide, colors, alphas) refl in
        read
        ∙ ap (λ (n : ℕ). if b then srgb_encoded8 (outward n (channel 65535 (in_light format to pixel) ch)) else at_depth 65535 255 (channel 65535 (in_light format to pixel) ch))
        (alpha_in_light format to pixel narrow wide more long other)
        ∙ ap (λ (n : ℕ). if b then srgb_encoded8 (outward a n) else at_depth 65535 255 n) made
        ∙ chosen_twice b (λ n. srgb_encoded8 (outward a n)) (at_depth 65535 255) (inward a (srgb_decoded16 x)) (at_depth 255 65535 x) x (keeps ch h) (deep_and_back x (fits ch))

-- the alpha is no color
pub alpha_apart : (colors : Range ℕ) (alpha : ℕ) → colors.end ≡ alpha → lies_in colors alpha ≡ false
alpha_apart colors alpha e = grind (arith, e)

-- a level comes back where the alpha modes are the same
pub same_mode_keeps : (mode : AlphaMode) (alpha x : ℕ) → x ≤ 255 → srgb_encoded8 (mode_changed 65535 mode mode alpha (mode_changed 65535 mode mode alpha (srgb_decoded16 x))) ≡ x
same_mode_keeps Straight alpha x h = curve.comes_back x (omega (arith, h))
same_mode_keeps Premultiplied alpha x h = curve.comes_back x (omega (arith, h))

-- .. and from the premultiplied form, at an alpha of thirteen or more
pub seen_keeps : (byte x : ℕ) → 13 ≤ byte → byte ≤ 255 → x ≤ 255
    → srgb_encoded8 (mode_changed 65535 Premultiplied Straight (at_depth 255 65535 byte) (mode_changed 65535 Straight Premultiplied (at_depth 255 65535 byte) (srgb_decoded16 x))) ≡ x
seen_keeps byte x least most h =
    let deep : at_depth 255 65535 byte ≡ 257 * byte = omega (arith, most) in
    rw deep (curve.comes_back_through_byte x byte (omega (arith, h)) least (omega (arith, most)))

-- .. and a black one at alpha 0
pub clear_keeps : srgb_encoded8 (mode_changed 65535 Premultiplied Straight 0 (mode_changed 65535 Straight Premultiplied 0 (srgb_decoded16 0))) ≡ 0
unfolding srgb_encoded8 srgb_decoded16
clear_keeps = refl

-- each number of a list of zeros is 0
zero_at : (xs : List ℕ) → All (λ x. x ≡ 0) xs → (ch : ℕ) → ch < length xs → channel 255 xs ch ≡ 0
zero_at xs h ch lt = h ch 255 lt

-- a level of a pixel that is seen or clear comes back
pub keeps : (alpha : ℕ) (pixel : List ℕ) → IsSeenOrClear alpha pixel → ((ch : ℕ) → channel 255 pixel ch ≤ 255) → (ch : ℕ) → ch < length pixel
    → srgb_encoded8 (mode_changed 65535 Premultiplied Straight (at_depth 255 65535 (channel 255 pixel alpha))
    (mode_changed 65535 Straight Premultiplied (at_depth 255 65535 (channel 255 pixel alpha)) (srgb_decoded16 (channel 255 pixel ch)))) ≡ channel 255 pixel ch
keeps alpha pixel (inl seen) fits ch lt = seen_keeps (channel 255 pixel alpha) (channel 255 pixel ch) seen (fits alpha) (fits ch)
keeps alpha pixel (inr clear) fits ch lt = elim (cases_lt alpha (length pixel)) [
  | inl there ↦ rw (zero_at pixel clear alpha there, zero_at pixel clear ch lt) clear_keeps
  | inr absent ↦
      let most : channel 255 pixel alpha ≡ 255 = get_or-eq_default pixel 255 absent in
      seen_keeps (channel 255 pixel alpha) (channel 255 pixel ch) (omega (arith, most)) (fits alpha) (fits ch)
]

-- a channel of the pixel at a place fits, also where there is none
pub fits_at : {P : Type 0} (numbers : P → List ℕ) (pixels : List P) (k ch : ℕ) → ((p : P) (ch : ℕ) → channel 255 (numbers p) ch ≤ 255)
    → channel 255 (slice_index_or (map numbers pixels) k []) ch ≤ 255
fits_at numbers [] k ch fits = omega arith
fits_at numbers (p ∷ pixels) zero ch fits = fits p ch
fits_at numbers (p ∷ pixels) (suc k) ch fits = fits_at numbers pixels k ch fits

-- the pixel at a place of a list that was changed one by one
changed_at : (f : List ℕ → List ℕ) (pixels others : List (List ℕ)) (k : ℕ) → others ≡ map f pixels → k < length pixels
    → slice_index_or others k [] ≡ f (slice_index_or pixels k [])
changed_at f pixels others k e lt = ap (λ (l : List (List ℕ)). slice_index_or l k []) e ∙ get_or-map f pixels k [] [] lt

-- where a picture in light stayed as it was, it is encoded as it was decoded
pub shown_at : {P L : Type 0} (n : P → List ℕ) (m : L → List ℕ) (encode decode : List ℕ → List ℕ) (photo shown : Image P) (light drawn : Image L)
    (f : ℕ → ℕ → List ℕ → List ℕ) (x y : ℕ) → x < photo.width → y < photo.height → shown.width ≡ drawn.width → light.width ≡ photo.width → light.height ≡ photo.height
    → map n shown.pixels ≡ map encode (map m drawn.pixels) → Changed m light drawn f → map m light.pixels ≡ map decode (map n photo.pixels)
    → length photo.pixels ≡ photo.height * photo.width → length drawn.pixels ≡ drawn.height * drawn.width
    → f x y (point m light x y) ≡ point m light x y → point n shown x y ≡ encode (decode (point n photo x y))
shown_at n m encode decode photo shown light drawn f x y hx hy shown_wide wide high encoded changed decoded long drawn_long same =
    let k = y * photo.width + x in
    let inside : k < photo.height * photo.width = place_in photo.width photo.height x y hx hy in
    let drawn_wide : drawn.width ≡ photo.width = changed.same_width ∙ wide in
    let drawn_high : drawn.height ≡ photo.height = changed.same_height ∙ high in
    let held : k < length (map m drawn.pixels) =
    omega (arith, inside, length-map drawn.pixels m, drawn_long ∙ ap (λ (a : ℕ). a * drawn.width) drawn_high ∙ ap (λ (a : ℕ). photo.height * a) drawn_wide) in
    let there : k < length (map n photo.pixels) = omega (arith, inside, length-map photo.pixels n, long) in
    let at_drawn : point m drawn x y ≡ slice_index_or (map m drawn.pixels) k [] = ap (λ (a : ℕ). slice_index_or (map m drawn.pixels) (y * a + x) []) drawn_wide in
    let at_light : point m light x y ≡ slice_index_or (map m light.pixels) k [] = ap (λ (a : ℕ). slice_index_or (map m light.pixels) (y * a + x) []) wide in
    let at_shown : point n shown x y ≡ slice_index_or (map n shown.pixels) k [] =
    ap (λ (a : ℕ). slice_index_or (map n shown.pixels) (y * a + x) []) (shown_wide ∙ drawn_wide) in
    let stayed : point m drawn x y ≡ point m light x y = changed.points x y (omega (arith, hx, wide)) (omega (arith, hy, high)) ∙ same in
    at_shown ∙ changed_at encode (map m drawn.pixels) (map n shown.pixels) k encoded held
    ∙ ap encode (sym at_drawn ∙ stayed ∙ at_light ∙ changed_at decode (map n photo.pixels) (map m light.pixels) k decoded there)

-- what holds by two things that are known of a result
pub by_both : {T E : Type 0} (r : Result T E) (P Q R : T → Type 0) → ((x : T) → P x → Q x → R x) → IfOk r P → IfOk r Q → IfOk r R
by_both (Ok x) P Q R f p q = f x p q
by_both (Err e) P Q R f p q = q

-- images of one size have the same points
pub same_region : {P L : Type 0} (one : Image P) (two : Image L) → one.width ≡ two.width → one.height ≡ two.height → region_of one ≡ region_of two
same_region one two wide high = ap (λ (a : ℕ). whole a one.height) wide ∙ ap (λ (a : ℕ). whole two.width a) high

-- a pixel that no command reaches stays
pub unreached : {P M : Type 0} (layout : Layout) (numbers : P → List ℕ) (mattes : M → List ℕ) (dest other : Rectangle) (commands : List (Command P M)) (x y : ℕ)
    (pixel : List ℕ) → dest ≡ other → effects_at numbers mattes other commands x y ≡ [] → run_at layout numbers mattes dest commands x y pixel ≡ pixel
unreached layout numbers mattes dest other commands x y pixel e none =
    ap (fold (apply layout) pixel) (ap (λ (d : Rectangle). effects_at numbers mattes d commands x y) e ∙ none)

-- one more pixel of a list is known to have so many channels
pub counted_more : {P : Type 0} (numbers : P → List ℕ) (pixels : List P) (i count : ℕ) (p : P) → i < length pixels → p ≡ slice_index_or pixels i p
    → length (numbers p) ≡ count → ((k : ℕ) → k < i → length (slice_index_or (map numbers pixels) k []) ≡ count)
    → (k : ℕ) → k < i + 1 → length (slice_index_or (map numbers pixels) k []) ≡ count
counted_more numbers pixels i count p there is one before k h = elim (cases_lt k i) [
  | inl less ↦ before k less
  | inr more ↦
      let e : k ≡ i = omega arith in
      ap (λ (j : ℕ). length (slice_index_or (map numbers pixels) j [])) e ∙ ap length (get_or-map numbers pixels i p [] there ∙ ap numbers (sym is)) ∙ one
]

-- .. and so each
pub counted_all : {P : Type 0} (numbers : P → List ℕ) (pixels : List P) (i count : ℕ) → length pixels ≤ i
    → ((k : ℕ) → k < i → length (slice_index_or (map numbers pixels) k []) ≡ count) → All (λ w. length w ≡ count) (map numbers pixels)
counted_all numbers pixels i count done before k d h =
    ap length (get_or_default (map numbers pixels) k d [] h) ∙ before k (omega (arith, done, h, length-map pixels numbers))
