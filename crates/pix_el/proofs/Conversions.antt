-- Pixels made of four channels, and how they are converted.
use Rattle.std.proofs.Common.{◌≡◌, ℕ, ◌≤◌, ◌+◌, List, [], ◌∷◌, length, map, take, refl, sym, ap, ◌∙◌, arith}
use Rattle.std.specs.Prelude.{Bool, nat_eq, true, false, ◌≢◌, if◌then◌else◌}
use Rattle.std.specs.List.{range_with_len}
use Rattle.std.proofs.lemmas.List.FromFn.{take-map-range_with_len, fill_by_all, length-map-range_with_len}
use Rattle.pix_chan.specs.Runs.{over}
use Rattle.pix_chan.specs.Modes.{AlphaMode, Straight, Premultiplied, alpha_kind, GammaMode, Linear, Srgb, gamma_kind, to_linear}
use Rattle.pix_el.specs.Pixel.{Layout, lies_in, channel, alpha_of}
use Rattle.pix_el.specs.Color.{rgba_of, of_rgba}
use Rattle.pix_el.specs.Conversion.{Format, at_depth, reencoded, of_depth, channel_reencoded, within_model, rgba_format, across_models, converted}
use Rattle.pix_el.specs.Planes.{linear_four, premultiplied_four}

-- the first of four channels, each by its number
pub four_channels : (f : ℕ → ℕ) (a b c d count : ℕ) → count ≤ 4 → a ≡ f 0 → b ≡ f 1 → c ≡ f 2 → d ≡ f 3
    → take count (a ∷ b ∷ c ∷ d ∷ []) ≡ map f (range_with_len 0 count)
four_channels f a b c d count few ea eb ec ed = rw (ea, eb, ec, ed) (take-map-range_with_len f 0 4 count few)

-- a format of no more channels than its model has at most four
pub few_channels : (layout stated : Layout) → layout ≡ stated → stated.alpha ≤ 3 → layout.count ≤ layout.alpha + 1 → layout.count ≤ 4
few_channels layout stated is few within =
    let e : layout.alpha ≡ stated.alpha = ap (λ (l : Layout). l.alpha) is in omega arith

-- within one model, from the channels at the target's depth
pub within_is : (format to : Format) (gamma to_gamma : GammaMode) (layout to_layout : Layout) (pixel rescaled : List ℕ) (a b c d : ℕ)
    → format.layout ≡ layout → to.layout ≡ to_layout → rescaled ≡ of_depth layout to_layout pixel → to_layout.count ≤ 4
    → a ≡ channel_reencoded format gamma to to_gamma rescaled 0 → b ≡ channel_reencoded format gamma to to_gamma rescaled 1
    → c ≡ channel_reencoded format gamma to to_gamma rescaled 2 → d ≡ channel_reencoded format gamma to to_gamma rescaled 3
    → take to_layout.count (a ∷ b ∷ c ∷ d ∷ []) ≡ within_model format gamma to to_gamma pixel
within_is format to gamma to_gamma layout to_layout pixel rescaled a b c d el et ed few e0 e1 e2 e3 =
    four_channels (channel_reencoded format gamma to to_gamma rescaled) a b c d to_layout.count few e0 e1 e2 e3
    ∙ ap (λ (n : ℕ). map (channel_reencoded format gamma to to_gamma rescaled) (range_with_len 0 n)) (ap (λ (l : Layout). l.count) (sym et))
    ∙ ap (λ (p : List ℕ). map (channel_reencoded format gamma to to_gamma p) (range_with_len 0 to.layout.count))
    (ed ∙ ap (λ (l : Layout). of_depth l to_layout pixel) (sym el) ∙ ap (λ (l : Layout). of_depth format.layout l pixel) (sym et))

-- the same of the pixel that is made of the four
pub made_within : (format to : Format) (gamma to_gamma : GammaMode) (layout to_layout : Layout) (pixel rescaled made : List ℕ) (a b c d : ℕ)
    → format.layout ≡ layout → to.layout ≡ to_layout → rescaled ≡ of_depth layout to_layout pixel → to_layout.count ≤ 4
    → a ≡ channel_reencoded format gamma to to_gamma rescaled 0 → b ≡ channel_reencoded format gamma to to_gamma rescaled 1
    → c ≡ channel_reencoded format gamma to to_gamma rescaled 2 → d ≡ channel_reencoded format gamma to to_gamma rescaled 3
    → made ≡ take to_layout.count (a ∷ b ∷ c ∷ d ∷ []) → made ≡ within_model format gamma to to_gamma pixel
made_within format to gamma to_gamma layout to_layout pixel rescaled made a b c d el et ed few e0 e1 e2 e3 em =
    em ∙ within_is format to gamma to_gamma layout to_layout pixel rescaled a b c d el et ed few e0 e1 e2 e3

-- at another depth, from its first four channels
pub made_of_depth : (layout to : Layout) (max to_max : ℕ) (pixel made : List ℕ) (a b c d : ℕ) → layout.max ≡ max → to.max ≡ to_max → to.count ≤ 4
    → a ≡ at_depth max to_max (channel max pixel 0) → b ≡ at_depth max to_max (channel max pixel 1)
    → c ≡ at_depth max to_max (channel max pixel 2) → d ≡ at_depth max to_max (channel max pixel 3)
    → made ≡ take to.count (a ∷ b ∷ c ∷ d ∷ []) → made ≡ of_depth layout to pixel
made_of_depth layout to max to_max pixel made a b c d ef et few ea eb ec ed em =
    em ∙ four_channels (λ ch. at_depth max to_max (channel max pixel ch)) a b c d to.count few ea eb ec ed
    ∙ ap (λ (m : ℕ). map (λ ch. at_depth m to_max (channel m pixel ch)) (range_with_len 0 to.count)) (sym ef)
    ∙ ap (λ (m : ℕ). map (λ ch. at_depth layout.max m (channel layout.max pixel ch)) (range_with_len 0 to.count)) (sym et)

-- a format has no more channels than its model has
pub fits_model : (layout stated : Layout) → layout ≡ stated → layout.count ≤ layout.alpha + 1 → layout.count ≤ stated.alpha + 1
fits_model layout stated is few = let e : layout.alpha ≡ stated.alpha = ap (λ (l : Layout). l.alpha) is in omega arith

-- from one model to another, from the pixels in between
pub across_is : (format to stated to_stated : Format) (gamma to_gamma : GammaMode) (pixel rgba told made : List ℕ)
    → format ≡ stated → to ≡ to_stated
    → rgba ≡ rgba_of stated.to_rgb stated.layout.alpha stated.layout.max pixel
    → told ≡ within_model (rgba_format stated) gamma (rgba_format to_stated) to_gamma rgba
    → made ≡ take to_stated.layout.count (of_rgba to_stated.of_rgb to_stated.layout.max told)
    → made ≡ across_models format gamma to to_gamma pixel
across_is format to stated to_stated gamma to_gamma pixel rgba told made ef et er ew em =
    em ∙ ap (λ (t : List ℕ). take to_stated.layout.count (of_rgba to_stated.of_rgb to_stated.layout.max t))
    (ew ∙ ap (within_model (rgba_format stated) gamma (rgba_format to_stated) to_gamma) er)
    ∙ ap (λ (f : Format). across_models f gamma to_stated to_gamma pixel) (sym ef)
    ∙ ap (λ (t : Format). across_models format gamma t to_gamma pixel) (sym et)

-- a conversion, by whether the models are the same
pub converted_same : (format to stated to_stated : Format) (gamma to_gamma : GammaMode) (pixel made : List ℕ)
    → format ≡ stated → to ≡ to_stated → stated.kind ≡ to_stated.kind
    → made ≡ within_model format gamma to to_gamma pixel → made ≡ converted format gamma to to_gamma pixel
converted_same format to stated to_stated gamma to_gamma pixel made ef et same em =
    let e : format.kind ≡ to.kind = ap (λ (f : Format). f.kind) ef ∙ same ∙ ap (λ (f : Format). f.kind) (sym et) in
    let t : nat_eq format.kind to.kind ≡ true = grind (arith, e) in
    rw t em

pub converted_other : (format to stated to_stated : Format) (gamma to_gamma : GammaMode) (pixel made : List ℕ)
    → format ≡ stated → to ≡ to_stated → stated.kind ≢ to_stated.kind
    → made ≡ across_models format gamma to to_gamma pixel → made ≡ converted format gamma to to_gamma pixel
converted_other format to stated to_stated gamma to_gamma pixel made ef et other em =
    let ek : format.kind ≡ stated.kind = ap (λ (f : Format). f.kind) ef in
    let tk : to.kind ≡ to_stated.kind = ap (λ (f : Format). f.kind) et in
    let t : nat_eq format.kind to.kind ≡ false = grind (arith, ek, tk, other) in
    rw t em

-- red, green, blue and alpha, one by one
pub told_is : (format to : Format) (gamma to_gamma : GammaMode) (r g b a r' g' b' a' : ℕ)
    → a' ≡ at_depth format.layout.max to.layout.max a
    → r' ≡ reencoded to.layout.max format.alpha_mode gamma to.alpha_mode to_gamma a' (at_depth format.layout.max to.layout.max r)
    → g' ≡ reencoded to.layout.max format.alpha_mode gamma to.alpha_mode to_gamma a' (at_depth format.layout.max to.layout.max g)
    → b' ≡ reencoded to.layout.max format.alpha_mode gamma to.alpha_mode to_gamma a' (at_depth format.layout.max to.layout.max b)
    → r' ∷ g' ∷ b' ∷ a' ∷ [] ≡ within_model (rgba_format format) gamma (rgba_format to) to_gamma (r ∷ g ∷ b ∷ a ∷ [])
told_is format to gamma to_gamma r g b a r' g' b' a' ea er eg eb = rw (er, eg, eb, ea) refl

-- modes by their numbers
pub straight_is : (mode : AlphaMode) → alpha_kind mode ≡ 0 → mode ≡ Straight
straight_is Straight e = refl
straight_is Premultiplied e = absurd (omega (arith, e))

pub premultiplied_is : (mode : AlphaMode) → alpha_kind mode ≡ 1 → mode ≡ Premultiplied
premultiplied_is Straight e = absurd (omega (arith, e))
premultiplied_is Premultiplied e = refl

linear_is : (mode : GammaMode) → gamma_kind mode ≡ 0 → mode ≡ Linear
linear_is Linear e = refl
linear_is Srgb e = absurd (omega (arith, e))

-- from straight to premultiplied and linear, of four channels and within one model
within_premultiplied : (format to : Format) (gamma to_gamma : GammaMode) (pixel : List ℕ)
    → alpha_kind format.alpha_mode ≡ 0 → alpha_kind to.alpha_mode ≡ 1 → gamma_kind to_gamma ≡ 0
    → to.layout.count ≡ 4 → to.layout.alpha ≡ 3 → to.colors.start ≡ 0 → to.colors.end ≡ 3
    → within_model format gamma to to_gamma pixel ≡ premultiplied_four to.layout.max (linear_four format.layout.max to.layout.max (λ x. to_linear gamma (at_depth format.layout.max to.layout.max x)) pixel)
within_premultiplied format to gamma to_gamma pixel s p l count alpha start end =
    rw (straight_is format.alpha_mode s, premultiplied_is to.alpha_mode p, linear_is to_gamma l, count, alpha, start, end) refl

pub converted_premultiplied : (format to stated to_stated : Format) (gamma to_gamma : GammaMode) (pixel : List ℕ)
    → format ≡ stated → to ≡ to_stated → stated.kind ≡ to_stated.kind
    → alpha_kind stated.alpha_mode ≡ 0 → alpha_kind to_stated.alpha_mode ≡ 1 → gamma_kind to_gamma ≡ 0
    → to_stated.layout.count ≡ 4 → to_stated.layout.alpha ≡ 3 → to_stated.colors.start ≡ 0 → to_stated.colors.end ≡ 3
    → converted format gamma to to_gamma pixel ≡ premultiplied_four to_stated.layout.max (linear_four stated.layout.max to_stated.layout.max (λ x. to_linear gamma (at_depth stated.layout.max to_stated.layout.max x)) pixel)
converted_premultiplied format to stated to_stated gamma to_gamma pixel ef et same s p l count alpha start end =
    ap (λ (f : Format). converted f gamma to to_gamma pixel) ef
    ∙ ap (λ (t : Format). converted stated gamma t to_gamma pixel) et
    ∙ sym (converted_same stated to_stated stated to_stated gamma to_gamma pixel (within_model stated gamma to_stated to_gamma pixel) refl refl same refl)
    ∙ within_premultiplied stated to_stated gamma to_gamma pixel s p l count alpha start end

-- the same of a list of pixels, written over others
pub list_premultiplied : (convert linear premultiplied : List ℕ → List ℕ) → ((p : List ℕ) → convert p ≡ premultiplied (linear p))
    → (source dest : List (List ℕ)) → length dest ≡ length source → map premultiplied (map linear source) ≡ over (λ p d. convert p) source dest
list_premultiplied convert linear premultiplied is [] [] h = refl
list_premultiplied convert linear premultiplied is (s ∷ source) [] h = absurd (omega arith)
list_premultiplied convert linear premultiplied is [] (d ∷ dest) h = absurd (omega arith)
list_premultiplied convert linear premultiplied is (s ∷ source) (d ∷ dest) h =
    ap (λ (p : List ℕ). p ∷ map premultiplied (map linear source)) (sym (is s))
    ∙ ap (λ (l : List (List ℕ)). convert s ∷ l) (list_premultiplied convert linear premultiplied is source dest (omega arith))

-- lists made by functions that are alike
pub map_alike : {X Y : Type 0} (f g : X → Y) → ((x : X) → f x ≡ g x) → (xs : List X) → map f xs ≡ map g xs
map_alike f g same [] = refl
map_alike {Y = Y} f g same (x ∷ xs) = ap (λ (y : Y). y ∷ map f xs) (same x) ∙ ap (λ (l : List Y). g x ∷ l) (map_alike f g same xs)

-- a channel in the same modes
mode_kept : (max : ℕ) (mode : AlphaMode) (gamma : GammaMode) (to_mode : AlphaMode) (to_gamma : GammaMode) (alpha x : ℕ)
    → alpha_kind mode ≡ alpha_kind to_mode → gamma_kind gamma ≡ gamma_kind to_gamma → reencoded max mode gamma to_mode to_gamma alpha x ≡ x
mode_kept max mode gamma to_mode to_gamma alpha x ea eg =
    let t : nat_eq (alpha_kind mode) (alpha_kind to_mode) ≡ true = grind (arith, ea) in
    let u : nat_eq (gamma_kind gamma) (gamma_kind to_gamma) ≡ true = grind (arith, eg) in
    rw (t, u) refl

either_kept : (b : Bool) (x y : ℕ) → x ≡ y → (if b then x else y) ≡ y
either_kept true x y e = e
either_kept false x y e = refl

channel_kept : (format to : Format) (gamma to_gamma : GammaMode) (pixel : List ℕ) (ch : ℕ)
    → alpha_kind format.alpha_mode ≡ alpha_kind to.alpha_mode → gamma_kind gamma ≡ gamma_kind to_gamma
    → channel_reencoded format gamma to to_gamma pixel ch ≡ channel to.layout.max pixel ch
channel_kept format to gamma to_gamma pixel ch ea eg =
    let x = channel to.layout.max pixel ch in
    let alpha = alpha_of to.layout pixel in
    either_kept (lies_in to.colors ch) (reencoded to.layout.max format.alpha_mode gamma to.alpha_mode to_gamma alpha x) x
    (mode_kept to.layout.max format.alpha_mode gamma to.alpha_mode to_gamma alpha x ea eg)

-- channels at another depth are what they are
same_of_depth : (layout to : Layout) (pixel : List ℕ) → map (channel to.max (of_depth layout to pixel)) (range_with_len 0 to.count) ≡ of_depth layout to pixel
same_of_depth layout to pixel =
    let made = of_depth layout to pixel in
    sym (fill_by_all (channel to.max made) made to.count to.max (length-map-range_with_len (λ ch. at_depth layout.max to.max (channel layout.max pixel ch)) 0 to.count) (λ k h. refl))

-- a conversion within one model and in the same modes
pub converted_of_depth : (format to stated to_stated : Format) (gamma to_gamma : GammaMode) (layout to_layout : Layout) (pixel : List ℕ)
    → format ≡ stated → to ≡ to_stated → layout ≡ stated.layout → to_layout ≡ to_stated.layout → stated.kind ≡ to_stated.kind
    → alpha_kind stated.alpha_mode ≡ alpha_kind to_stated.alpha_mode → gamma_kind gamma ≡ gamma_kind to_gamma
    → converted format gamma to to_gamma pixel ≡ of_depth layout to_layout pixel
converted_of_depth format to stated to_stated gamma to_gamma layout to_layout pixel ef et el em same ea eg =
    let made = of_depth stated.layout to_stated.layout pixel in
    ap (λ (f : Format). converted f gamma to to_gamma pixel) ef
    ∙ ap (λ (t : Format). converted stated gamma t to_gamma pixel) et
    ∙ sym (converted_same stated to_stated stated to_stated gamma to_gamma pixel (within_model stated gamma to_stated to_gamma pixel) refl refl same refl)
    ∙ map_alike (channel_reencoded stated gamma to_stated to_gamma made) (channel to_stated.layout.max made)
    (λ ch. channel_kept stated to_stated gamma to_gamma made ch ea eg) (range_with_len 0 to_stated.layout.count)
    ∙ same_of_depth stated.layout to_stated.layout pixel
    ∙ ap (λ (l : Layout). of_depth l to_stated.layout pixel) (sym el)
    ∙ ap (λ (l : Layout). of_depth layout l pixel) (sym em)
