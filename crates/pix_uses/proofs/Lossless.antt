-- Conversions that keep each channel.
use Rattle.std.proofs.Common.{◌≡◌, ℕ, ℤ, pos, ◌*ℤ◌, ◌+ℤ◌, ◌≤◌, ◌<◌, ◌+◌, ◌*◌, ◌-◌, ◌/◌, min, List, [], ◌∷◌, ◌++◌, map, take, length, refl, sym, subst, ap, ◌∙◌, arith, inl, inr, Bool, true, false, nat_eq, suc, zero}
use Rattle.std.specs.Prelude.{if◌then◌else◌}
use Rattle.std.specs.List.{range_with_len}
use Rattle.std.specs.declared.ops.Range.{Range}
use Rattle.std.proofs.lemmas.Bool.{eq-eqb, cases_lt}
use Rattle.std.proofs.Math.Nat.{mul-le-mul_left, mul-le-mul_right}
use Rattle.std.proofs.Math.ListN.{get_or-eq_default}
use Rattle.std.proofs.lemmas.List.FromFn.{fill_by_all, length-map-range_with_len, get_or-map-range_with_len}
use Rattle.pix_chan.specs.Depth.{to_16_bit, from_16_bit, IsDepth}
use Rattle.pix_chan.specs.Product.{channel_product}
use Rattle.pix_chan.specs.Nearest.{nearest}
use Rattle.pix_chan.specs.NearestLaws.{nearest_natural}
use Rattle.pix_chan.specs.Modes.{AlphaMode, Straight, Premultiplied, GammaMode, Linear, alpha_kind, gamma_kind}
use Rattle.pix_el.specs.Pixel.{Layout, lies_in, channel, alpha_of}
use Rattle.pix_el.specs.Color.{rgba_of, of_rgba, rgb_itself}
use Rattle.pix_el.specs.Model.{row, Rgb, Gray}
use Rattle.pix_el.specs.Premultiplied.{IsPremultiplied}
use Rattle.pix_el.specs.Conversion.{Format, at_depth, of_depth, reencoded, channel_reencoded, within_model, rgba_format, converted}
use Rattle.pix_el.proofs.InLight.{whole_quotient}
use Rattle.pix_color.specs.Cmy.{complements}
use Rattle.pix_color.specs.Gray.{luminance, rgb_of_gray, gray_of_rgb}
use Rattle.pix_color.specs.Linear.{weighted_sum}

-- a channel is at most the maximum, also where there is none
pub channel_fits : {C : Type 0} (max : ℕ) (number : C → ℕ) → ((x : C) → number x ≤ max) → (xs : List C) (ch : ℕ) → channel max (map number xs) ch ≤ max
channel_fits max number fits [] ch = omega arith
channel_fits max number fits (x ∷ xs) zero = fits x
channel_fits max number fits (x ∷ xs) (suc ch) = channel_fits max number fits xs ch

-- a choice between a number and one that equals it
either : (b : Bool) (x y z : ℕ) → x ≡ z → y ≡ z → (if b then x else y) ≡ z
either true x y z e f = e
either false x y z e f = f

-- where the modes are the same a color stays
modes_stay : (max : ℕ) (mode : AlphaMode) (gamma : GammaMode) (alpha x : ℕ) → reencoded max mode gamma mode gamma alpha x ≡ x
modes_stay max mode gamma alpha x =
    rw (eq-eqb (alpha_kind mode) (alpha_kind mode) refl, eq-eqb (gamma_kind gamma) (gamma_kind gamma) refl) refl

-- where each color of a pixel that has its depth stays, the pixel stays
pub colors_stay : (format to : Format) (gamma to_gamma : GammaMode) (deep : List ℕ) → length deep ≡ to.layout.count
    → ((ch : ℕ) → reencoded to.layout.max format.alpha_mode gamma to.alpha_mode to_gamma (alpha_of to.layout deep) (channel to.layout.max deep ch) ≡ channel to.layout.max deep ch)
    → map (channel_reencoded format gamma to to_gamma deep) (range_with_len 0 to.layout.count) ≡ deep
colors_stay format to gamma to_gamma deep long stays =
    sym (fill_by_all (channel_reencoded format gamma to to_gamma deep) deep to.layout.count to.layout.max long
    (λ ch h. sym (either (lies_in to.colors ch) _ _ (channel to.layout.max deep ch) (stays ch) refl)))

-- a channel at the depth that it has
pub same_depth : (layout : Layout) (pixel : List ℕ) → IsDepth layout.max → length pixel ≡ layout.count → ((ch : ℕ) → channel layout.max pixel ch ≤ layout.max)
    → of_depth layout layout pixel ≡ pixel
same_depth layout pixel depth long fits =
    sym (fill_by_all (λ ch. at_depth layout.max layout.max (channel layout.max pixel ch)) pixel layout.count layout.max long
    (λ ch h. sym (depth.round_trip (channel layout.max pixel ch) (fits ch))))

-- within one color model, at the depth that the pixel has, where each color stays
pub within_stays : (format to : Format) (gamma to_gamma : GammaMode) (pixel : List ℕ) → format.layout ≡ to.layout → IsDepth to.layout.max
    → length pixel ≡ to.layout.count → ((ch : ℕ) → channel to.layout.max pixel ch ≤ to.layout.max)
    → ((ch : ℕ) → reencoded to.layout.max format.alpha_mode gamma to.alpha_mode to_gamma (alpha_of to.layout pixel) (channel to.layout.max pixel ch) ≡ channel to.layout.max pixel ch)
    → within_model format gamma to to_gamma pixel ≡ pixel
within_stays format to gamma to_gamma pixel same depth long fits stays =
    ap (λ p. map (channel_reencoded format gamma to to_gamma p) (range_with_len 0 to.layout.count))
    (ap (λ (l : Layout). of_depth l to.layout pixel) same ∙ same_depth to.layout pixel depth long fits)
    ∙ colors_stay format to gamma to_gamma pixel long stays

-- .. and where the modes are the same
within_same : (format to : Format) (gamma : GammaMode) (pixel : List ℕ) → format.layout ≡ to.layout → format.alpha_mode ≡ to.alpha_mode → IsDepth to.layout.max
    → length pixel ≡ to.layout.count → ((ch : ℕ) → channel to.layout.max pixel ch ≤ to.layout.max)
    → within_model format gamma to gamma pixel ≡ pixel
within_same format to gamma pixel same mode depth long fits =
    within_stays format to gamma gamma pixel same depth long fits
    (λ ch. rw mode (modes_stay to.layout.max to.alpha_mode gamma (alpha_of to.layout pixel) (channel to.layout.max pixel ch)))

-- a conversion within one color model
pub of_one_model : (format to : Format) (gamma to_gamma : GammaMode) (pixel made : List ℕ) → format.kind ≡ to.kind
    → within_model format gamma to to_gamma pixel ≡ made → converted format gamma to to_gamma pixel ≡ made
of_one_model format to gamma to_gamma pixel made same e = rw (eq-eqb format.kind to.kind same) e

-- a conversion to the same format
pub itself : (format : Format) (gamma : GammaMode) (pixel : List ℕ) → IsDepth format.layout.max → length pixel ≡ format.layout.count
    → ((ch : ℕ) → channel format.layout.max pixel ch ≤ format.layout.max)
    → converted format gamma format gamma pixel ≡ pixel
itself format gamma pixel depth long fits =
    of_one_model format format gamma gamma pixel pixel refl (within_same format format gamma pixel refl refl depth long fits)

-- within one color model, where the modes are the same, only the depth changes
pub depth_alone : (format to : Format) (gamma : GammaMode) (pixel : List ℕ) → format.kind ≡ to.kind → format.alpha_mode ≡ to.alpha_mode
    → converted format gamma to gamma pixel ≡ of_depth format.layout to.layout pixel
depth_alone format to gamma pixel kind mode =
    let deep : List ℕ = of_depth format.layout to.layout pixel in
    of_one_model format to gamma gamma pixel deep kind
    (colors_stay format to gamma gamma deep (length-map-range_with_len (λ ch. at_depth format.layout.max to.layout.max (channel format.layout.max pixel ch)) 0 to.layout.count)
    (λ ch. rw mode (modes_stay to.layout.max to.alpha_mode gamma (alpha_of to.layout deep) (channel to.layout.max deep ch))))

-- sixteen bits are themselves
of_sixteen : (y : ℕ) → from_16_bit 65535 y ≡ y
of_sixteen y = omega arith

to_sixteen : (y : ℕ) → to_16_bit 65535 y ≡ y
to_sixteen y = omega arith

-- a channel in sixteen bits and back
by_sixteen : (max x : ℕ) → IsDepth max → x ≤ max → at_depth 65535 max (at_depth max 65535 x) ≡ x
by_sixteen max x depth h =
    ap (from_16_bit max) (to_sixteen (at_depth max 65535 x) ∙ of_sixteen (to_16_bit max x)) ∙ depth.round_trip x h

-- a pixel in sixteen bits and back
pub sixteen_and_back : (layout to : Layout) (pixel : List ℕ) → to.max ≡ 65535 → to.count ≡ layout.count → IsDepth layout.max → length pixel ≡ layout.count
    → ((ch : ℕ) → channel layout.max pixel ch ≤ layout.max)
    → of_depth to layout (of_depth layout to pixel) ≡ pixel
sixteen_and_back layout to pixel wide same depth long fits =
    sym (fill_by_all (λ ch. at_depth to.max layout.max (channel to.max (of_depth layout to pixel) ch)) pixel layout.count layout.max long
    (λ ch h. sym (ap (at_depth to.max layout.max)
    (get_or-map-range_with_len (λ c. at_depth layout.max to.max (channel layout.max pixel c)) 0 to.count ch ch to.max (omega (arith, h, same)) (omega arith))
    ∙ rw wide (by_sixteen layout.max (channel layout.max pixel ch) depth (fits ch)))))

-- the format of a pixel, from its channels, its model and its alpha mode
abbrev pub format_of : ℕ → ℕ → Range ℕ → Range ℕ → ℕ → ℕ → (ℕ → ℕ → ℕ → ℕ → List ℕ) → (ℕ → ℕ → ℕ → ℕ → List ℕ) → AlphaMode → Format
format_of max count hues colors alpha kind to_rgb of_rgb mode = record {
  layout = record { max = max; count = count; hues = hues; alpha = alpha };
  kind = kind;
  colors = colors;
  to_rgb = to_rgb;
  of_rgb = of_rgb;
  alpha_mode = mode;
}

-- four numbers that fit
four_fit : (max r g b a : ℕ) → r ≤ max → g ≤ max → b ≤ max → a ≤ max → (ch : ℕ) → channel max (r ∷ g ∷ b ∷ a ∷ []) ch ≤ max
four_fit max r g b a hr hg hb ha zero = hr
four_fit max r g b a hr hg hb ha (suc zero) = hg
four_fit max r g b a hr hg hb ha (suc (suc zero)) = hb
four_fit max r g b a hr hg hb ha (suc (suc (suc zero))) = ha
four_fit max r g b a hr hg hb ha (suc (suc (suc (suc ch)))) = omega arith

-- from one model to another at the same depth and in the same modes: by red, green, blue and alpha
across_same : (format to : Format) (gamma : GammaMode) (pixel : List ℕ) (r g b a : ℕ) → nat_eq format.kind to.kind ≡ false
    → format.layout.max ≡ to.layout.max → format.alpha_mode ≡ to.alpha_mode → IsDepth to.layout.max
    → r ≤ to.layout.max → g ≤ to.layout.max → b ≤ to.layout.max → a ≤ to.layout.max
    → rgba_of format.to_rgb format.layout.alpha format.layout.max pixel ≡ r ∷ g ∷ b ∷ a ∷ []
    → converted format gamma to gamma pixel ≡ take to.layout.count (to.of_rgb to.layout.max r g b ++ (a ∷ []))
across_same format to gamma pixel r g b a other same mode depth hr hg hb ha is =
    let layouts : (rgba_format format).layout ≡ (rgba_format to).layout =
    ap (λ (m : ℕ). record { max = m; count = 4; hues = record { start = 0; end = 0 }; alpha = 3 }) same in
    rw other (ap (λ (p : List ℕ). take to.layout.count (of_rgba to.of_rgb to.layout.max p))
    (ap (within_model (rgba_format format) gamma (rgba_format to) gamma) is
    ∙ within_same (rgba_format format) (rgba_format to) gamma (r ∷ g ∷ b ∷ a ∷ []) layouts mode depth refl (four_fit to.layout.max r g b a hr hg hb ha)))

-- what a model makes of red, green and blue, and makes red, green and blue of again
pub record Inverse (max : ℕ) (there back : ℕ → ℕ → ℕ → ℕ → List ℕ) (r g b : ℕ) : Type 0 where
  pub one : ℕ
  pub two : ℕ
  pub three : ℕ
  pub made : there max r g b ≡ one ∷ two ∷ three ∷ []
  pub fits : (one ≤ max) × (two ≤ max) × (three ≤ max)
  pub again : back max one two three ≡ r ∷ g ∷ b ∷ []

-- the format of red, green and blue, and that of another model of three colors
abbrev pub rgb_of : ℕ → ℕ → AlphaMode → Format
rgb_of max count mode = format_of max count (row Rgb).hues (row Rgb).colors (row Rgb).alpha (row Rgb).kind rgb_itself rgb_itself mode

abbrev pub other_of : ℕ → ℕ → ℕ → (ℕ → ℕ → ℕ → ℕ → List ℕ) → (ℕ → ℕ → ℕ → ℕ → List ℕ) → AlphaMode → Format
other_of kind max count back there mode = format_of max count (row Rgb).hues (row Rgb).colors (row Rgb).alpha kind back there mode

-- red, green and blue to another model of three colors and back
pub three_and_back : (kind max : ℕ) (back there : ℕ → ℕ → ℕ → ℕ → List ℕ) (mode : AlphaMode) (gamma : GammaMode) (count r g b : ℕ) → 3 ≡ count
    → nat_eq 0 kind ≡ false → nat_eq kind 0 ≡ false → IsDepth max → r ≤ max → g ≤ max → b ≤ max → Inverse max there back r g b
    → converted (other_of kind max count back there mode) gamma (rgb_of max count mode) gamma
    (converted (rgb_of max count mode) gamma (other_of kind max count back there mode) gamma (r ∷ g ∷ b ∷ [])) ≡ r ∷ g ∷ b ∷ []
three_and_back kind max back there mode gamma count r g b three other rehto depth hr hg hb inverse =
    let x = inverse.one in let y = inverse.two in let z = inverse.three in
    let to : converted (rgb_of max 3 mode) gamma (other_of kind max 3 back there mode) gamma (r ∷ g ∷ b ∷ []) ≡ x ∷ y ∷ z ∷ [] =
    across_same (rgb_of max 3 mode) (other_of kind max 3 back there mode) gamma (r ∷ g ∷ b ∷ []) r g b max other refl refl depth hr hg hb (omega arith) refl
    ∙ ap (λ (l : List ℕ). take 3 (l ++ (max ∷ []))) inverse.made in
    let from : converted (other_of kind max 3 back there mode) gamma (rgb_of max 3 mode) gamma (x ∷ y ∷ z ∷ []) ≡ r ∷ g ∷ b ∷ [] =
    across_same (other_of kind max 3 back there mode) (rgb_of max 3 mode) gamma (x ∷ y ∷ z ∷ []) r g b max rehto refl refl depth hr hg hb (omega arith)
    (ap (λ (l : List ℕ). l ++ (max ∷ [])) inverse.again) in
    subst (λ (count : ℕ). converted (other_of kind max count back there mode) gamma (rgb_of max count mode) gamma
    (converted (rgb_of max count mode) gamma (other_of kind max count back there mode) gamma (r ∷ g ∷ b ∷ [])) ≡ r ∷ g ∷ b ∷ []) three
    (ap (converted (other_of kind max 3 back there mode) gamma (rgb_of max 3 mode) gamma) to ∙ from)

-- .. with an alpha
pub four_and_back : (kind max : ℕ) (back there : ℕ → ℕ → ℕ → ℕ → List ℕ) (mode : AlphaMode) (gamma : GammaMode) (count r g b a : ℕ) → 4 ≡ count
    → nat_eq 0 kind ≡ false → nat_eq kind 0 ≡ false → IsDepth max → r ≤ max → g ≤ max → b ≤ max → a ≤ max → Inverse max there back r g b
    → converted (other_of kind max count back there mode) gamma (rgb_of max count mode) gamma
    (converted (rgb_of max count mode) gamma (other_of kind max count back there mode) gamma (r ∷ g ∷ b ∷ a ∷ [])) ≡ r ∷ g ∷ b ∷ a ∷ []
four_and_back kind max back there mode gamma count r g b a four other rehto depth hr hg hb ha inverse =
    let x = inverse.one in let y = inverse.two in let z = inverse.three in
    let to : converted (rgb_of max 4 mode) gamma (other_of kind max 4 back there mode) gamma (r ∷ g ∷ b ∷ a ∷ []) ≡ x ∷ y ∷ z ∷ a ∷ [] =
    across_same (rgb_of max 4 mode) (other_of kind max 4 back there mode) gamma (r ∷ g ∷ b ∷ a ∷ []) r g b a other refl refl depth hr hg hb ha refl
    ∙ ap (λ (l : List ℕ). take 4 (l ++ (a ∷ []))) inverse.made in
    let from : converted (other_of kind max 4 back there mode) gamma (rgb_of max 4 mode) gamma (x ∷ y ∷ z ∷ a ∷ []) ≡ r ∷ g ∷ b ∷ a ∷ [] =
    across_same (other_of kind max 4 back there mode) (rgb_of max 4 mode) gamma (x ∷ y ∷ z ∷ a ∷ []) r g b a rehto refl refl depth hr hg hb ha
    (ap (λ (l : List ℕ). l ++ (a ∷ [])) inverse.again) in
    subst (λ (count : ℕ). converted (other_of kind max count back there mode) gamma (rgb_of max count mode) gamma
    (converted (rgb_of max count mode) gamma (other_of kind max count back there mode) gamma (r ∷ g ∷ b ∷ a ∷ [])) ≡ r ∷ g ∷ b ∷ a ∷ []) four
    (ap (converted (other_of kind max 4 back there mode) gamma (rgb_of max 4 mode) gamma) to ∙ from)

-- red, green and blue, with an alpha or without, to another model of three colors and back
pub rgb_and_back : (kind max : ℕ) (back there : ℕ → ℕ → ℕ → ℕ → List ℕ) (mode : AlphaMode) (gamma : GammaMode) (count : ℕ) (pixel : List ℕ)
    → length pixel ≡ count → 3 ≤ count → count ≤ 4 → nat_eq 0 kind ≡ false → nat_eq kind 0 ≡ false → IsDepth max
    → ((ch : ℕ) → channel max pixel ch ≤ max) → ((r g b : ℕ) → r ≤ max → g ≤ max → b ≤ max → Inverse max there back r g b)
    → converted (other_of kind max count back there mode) gamma (rgb_of max count mode) gamma
    (converted (rgb_of max count mode) gamma (other_of kind max count back there mode) gamma pixel) ≡ pixel
rgb_and_back kind max back there mode gamma count [] long hi lo other rehto depth fits inverse = absurd (omega (arith, long, hi))
rgb_and_back kind max back there mode gamma count (r ∷ []) long hi lo other rehto depth fits inverse = absurd (omega (arith, long, hi))
rgb_and_back kind max back there mode gamma count (r ∷ g ∷ []) long hi lo other rehto depth fits inverse = absurd (omega (arith, long, hi))
rgb_and_back kind max back there mode gamma count (r ∷ g ∷ b ∷ []) long hi lo other rehto depth fits inverse =
    three_and_back kind max back there mode gamma count r g b long other rehto depth (fits 0) (fits 1) (fits 2) (inverse r g b (fits 0) (fits 1) (fits 2))
rgb_and_back kind max back there mode gamma count (r ∷ g ∷ b ∷ a ∷ []) long hi lo other rehto depth fits inverse =
    four_and_back kind max back there mode gamma count r g b a long other rehto depth (fits 0) (fits 1) (fits 2) (fits 3) (inverse r g b (fits 0) (fits 1) (fits 2))
rgb_and_back kind max back there mode gamma count (r ∷ g ∷ b ∷ a ∷ e ∷ more) long hi lo other rehto depth fits inverse =
    absurd (let n : suc (suc (suc (suc (suc (length more))))) ≡ count = long in omega (arith, n, lo))

-- what the maximum exceeds the complement by is the channel
pub cmy_inverse : (max r g b : ℕ) → r ≤ max → g ≤ max → b ≤ max → Inverse max complements complements r g b
cmy_inverse max r g b hr hg hb =
    let er : max - (max - r) ≡ r = omega (arith, hr) in
    let eg : max - (max - g) ≡ g = omega (arith, hg) in
    let eb : max - (max - b) ≡ b = omega (arith, hb) in
    record { one = max - r; two = max - g; three = max - b; made = refl; fits = (omega arith, omega arith, omega arith); again = rw (er, eg, eb) refl }

-- the luminance of a gray is the gray
gray_stays : (max v : ℕ) → v ≤ max → weighted_sum max luminance v v v ≡ v
gray_stays max v h =
    let sum : pos 2126 *ℤ pos v +ℤ pos 7152 *ℤ pos v +ℤ pos 722 *ℤ pos v +ℤ pos 0 *ℤ pos max ≡ pos (10000 * v) =
    ap pos (let e : 2126 * v + 7152 * v + 722 * v + 0 * max ≡ 10000 * v = omega arith in e) in
    ap (λ (n : ℤ). nearest max n (pos 10000)) sum ∙ nearest_natural max (10000 * v) 10000
    ∙ (let e : min max ((2 * (10000 * v) + 10000) / (2 * 10000)) ≡ v = omega (arith, h) in e)

-- the format of gray
abbrev pub gray_of : ℕ → ℕ → AlphaMode → Format
gray_of max count mode = format_of max count (row Gray).hues (row Gray).colors (row Gray).alpha (row Gray).kind rgb_of_gray gray_of_rgb mode

-- gray to red, green, blue and alpha and back
pub gray_and_back : (max : ℕ) (mode : AlphaMode) (gamma : GammaMode) (count : ℕ) (pixel : List ℕ) → length pixel ≡ count → 1 ≤ count → count ≤ 2
    → IsDepth max → ((ch : ℕ) → channel max pixel ch ≤ max)
    → converted (rgb_of max 4 mode) gamma (gray_of max count mode) gamma (converted (gray_of max count mode) gamma (rgb_of max 4 mode) gamma pixel) ≡ pixel
gray_and_back max mode gamma count [] long hi lo depth fits = absurd (omega (arith, long, hi))
gray_and_back max mode gamma count (v ∷ []) long hi lo depth fits =
    let h = fits 0 in
    let to : converted (gray_of max count mode) gamma (rgb_of max 4 mode) gamma (v ∷ []) ≡ v ∷ v ∷ v ∷ max ∷ [] =
    across_same (gray_of max count mode) (rgb_of max 4 mode) gamma (v ∷ []) v v v max refl refl refl depth h h h (omega arith) refl in
    let from : converted (rgb_of max 4 mode) gamma (gray_of max count mode) gamma (v ∷ v ∷ v ∷ max ∷ []) ≡ take count (weighted_sum max luminance v v v ∷ max ∷ []) =
    across_same (rgb_of max 4 mode) (gray_of max count mode) gamma (v ∷ v ∷ v ∷ max ∷ []) v v v max refl refl refl depth h h h (omega arith) refl in
    ap (converted (rgb_of max 4 mode) gamma (gray_of max count mode) gamma) to ∙ from
    ∙ ap (λ (n : ℕ). take n (weighted_sum max luminance v v v ∷ max ∷ [])) (sym long) ∙ ap (λ (n : ℕ). n ∷ []) (gray_stays max v h)
gray_and_back max mode gamma count (v ∷ a ∷ []) long hi lo depth fits =
    let h = fits 0 in let k = fits 1 in
    let to : converted (gray_of max count mode) gamma (rgb_of max 4 mode) gamma (v ∷ a ∷ []) ≡ v ∷ v ∷ v ∷ a ∷ [] =
    across_same (gray_of max count mode) (rgb_of max 4 mode) gamma (v ∷ a ∷ []) v v v a refl refl refl depth h h h k refl in
    let from : converted (rgb_of max 4 mode) gamma (gray_of max count mode) gamma (v ∷ v ∷ v ∷ a ∷ []) ≡ take count (weighted_sum max luminance v v v ∷ a ∷ []) =
    across_same (rgb_of max 4 mode) (gray_of max count mode) gamma (v ∷ v ∷ v ∷ a ∷ []) v v v a refl refl refl depth h h h k refl in
    ap (converted (rgb_of max 4 mode) gamma (gray_of max count mode) gamma) to ∙ from
    ∙ ap (λ (n : ℕ). take n (weighted_sum max luminance v v v ∷ a ∷ [])) (sym long) ∙ ap (λ (n : ℕ). n ∷ a ∷ []) (gray_stays max v h)
gray_and_back max mode gamma count (v ∷ a ∷ e ∷ more) long hi lo depth fits =
    absurd (let n : suc (suc (suc (length more))) ≡ count = long in omega (arith, n, lo))

-- an opaque pixel multiplied by its alpha
pub opaque_multiplied : (format to : Format) (pixel : List ℕ) → format.kind ≡ to.kind → format.layout ≡ to.layout → format.alpha_mode ≡ Straight → to.alpha_mode ≡ Premultiplied
    → IsDepth to.layout.max → ((x : ℕ) → channel_product to.layout.max x to.layout.max ≡ x) → length pixel ≡ to.layout.count
    → ((ch : ℕ) → channel to.layout.max pixel ch ≤ to.layout.max) → alpha_of to.layout pixel ≡ to.layout.max
    → converted format Linear to Linear pixel ≡ pixel
opaque_multiplied format to pixel kind layouts straight premultiplied depth identity long fits opaque =
    of_one_model format to Linear Linear pixel pixel kind (within_stays format to Linear Linear pixel layouts depth long fits
    (λ ch. rw (straight, premultiplied, opaque) (identity (channel to.layout.max pixel ch))))

-- an opaque pixel divided by its alpha
pub opaque_divided : (format to : Format) (pixel : List ℕ) → format.kind ≡ to.kind → format.layout ≡ to.layout → format.alpha_mode ≡ Premultiplied → to.alpha_mode ≡ Straight
    → IsDepth to.layout.max → length pixel ≡ to.layout.count
    → ((ch : ℕ) → channel to.layout.max pixel ch ≤ to.layout.max) → alpha_of to.layout pixel ≡ to.layout.max
    → converted format Linear to Linear pixel ≡ pixel
opaque_divided format to pixel kind layouts premultiplied straight depth long fits opaque =
    of_one_model format to Linear Linear pixel pixel kind (within_stays format to Linear Linear pixel layouts depth long fits
    (λ ch. rw (premultiplied, straight, opaque) (whole_quotient to.layout.max (channel to.layout.max pixel ch) (fits ch))))

-- depth never exchanges two channels
depth_rises : (max to_max x y : ℕ) → x ≤ y → at_depth max to_max x ≤ at_depth max to_max y
depth_rises max to_max x y h =
    let wide : 65535 / max * x ≤ 65535 / max * y = mul-le-mul_left (65535 / max) h in
    let product : to_16_bit max x * (to_max + 1) ≤ to_16_bit max y * (to_max + 1) = mul-le-mul_right (to_max + 1) wide in
    omega (arith, product)

-- a premultiplied pixel at another depth
pub premultiplied_at_depth : (layout to : Layout) (pixel : List ℕ) → to.hues ≡ layout.hues → to.alpha ≡ layout.alpha → to.count ≡ layout.count
    → ((ch : ℕ) → channel to.max (of_depth layout to pixel) ch ≤ to.max) → IsPremultiplied layout pixel → IsPremultiplied to (of_depth layout to pixel)
premultiplied_at_depth layout to pixel hues alpha count fits bound ch inside =
    let made = of_depth layout to pixel in
    let read : (k : ℕ) → k < to.count → channel to.max made k ≡ at_depth layout.max to.max (channel layout.max pixel k) =
    λ k h. get_or-map-range_with_len (λ c. at_depth layout.max to.max (channel layout.max pixel c)) 0 to.count k k to.max h (omega arith) in
    let below : channel layout.max pixel ch ≤ channel layout.max pixel layout.alpha =
    bound ch (record { within = omega (arith, inside.within, count); no_hue = ap (λ (r : Range ℕ). lies_in r ch) (sym hues) ∙ inside.no_hue }) in
    elim (cases_lt to.alpha to.count) [
      | inl has ↦
          let e : channel to.max made to.alpha ≡ at_depth layout.max to.max (channel layout.max pixel layout.alpha) =
          read to.alpha has ∙ ap (λ k. at_depth layout.max to.max (channel layout.max pixel k)) alpha in
          rw (read ch inside.within, e) (depth_rises layout.max to.max (channel layout.max pixel ch) (channel layout.max pixel layout.alpha) below)
      | inr none ↦
          let e : channel to.max made to.alpha ≡ to.max =
          get_or-eq_default made to.max (omega (arith, length-map-range_with_len (λ c. at_depth layout.max to.max (channel layout.max pixel c)) 0 to.count, none)) in
          rw e (fits ch)
    ]
