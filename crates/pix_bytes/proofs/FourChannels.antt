-- Four channels, and the lists that they stand for.
use Rattle.std.proofs.Common.{◌≡◌, ℕ, zero, suc, ◌≤◌, ◌<◌, List, [], ◌∷◌, length, map, take, refl, sym, ap, ◌∙◌, arith, inl, inr, true, false, nat_lt}
use Rattle.std.specs.Prelude.{if◌then◌else◌, nat_eq}
use Rattle.std.specs.List.{range_with_len}
use Rattle.std.proofs.lemmas.Bool.{cases_lt}
use Rattle.std.proofs.Math.ListN.{get_or-eq_default}
use Rattle.std.proofs.lemmas.List.FromFn.{fill_by_all, length-map-range_with_len, get_or-map-range_with_len}
use Rattle.pix_chan.specs.Modes.{GammaMode}
use Rattle.pix_el.specs.Pixel.{Layout, channel}
use Rattle.pix_el.specs.Color.{rgba_of, of_rgba}
use Rattle.pix_el.specs.Conversion.{Format, at_depth, of_depth, channel_reencoded, within_model, rgba_format, across_models, converted}
use Rattle.pix_el.specs.Light.{channel_in_light, channel_as_srgb, in_light, as_srgb}
use Rattle.pix_bytes.specs.Models.{four_of}

-- a channel of a list that is made by number
pub channel_within : (max count : ℕ) (f : ℕ → ℕ) (ch : ℕ) → ch < count → channel max (map f (range_with_len 0 count)) ch ≡ f ch
channel_within max count f ch lt = get_or-map-range_with_len f 0 count ch ch max lt (omega arith)

-- and the maximum past its end
pub channel_past : (max count : ℕ) (f : ℕ → ℕ) (ch : ℕ) → count ≤ ch → channel max (map f (range_with_len 0 count)) ch ≡ max
channel_past max count f ch past = get_or-eq_default (map f (range_with_len 0 count)) max (omega (arith, length-map-range_with_len f 0 count, past))

pub channel_made : (max count : ℕ) (f : ℕ → ℕ) (ch : ℕ) → (if nat_lt ch count then f ch else max) ≡ channel max (map f (range_with_len 0 count)) ch
channel_made max count f ch = elim (cases_lt ch count) [
  | inl lt ↦ let t : nat_lt ch count ≡ true = grind (arith, lt) in rw t (sym (channel_within max count f ch lt))
  | inr past ↦ let t : nat_lt ch count ≡ false = grind (arith, past) in rw t (sym (channel_past max count f ch past))
]

-- four channels are those of a list of at most as many
pub same_four : (max a b c d : ℕ) (l : List ℕ) → length l ≤ 4 → a ≡ channel max l 0 → b ≡ channel max l 1 → c ≡ channel max l 2 → d ≡ channel max l 3
    → (ch : ℕ) → channel max (a ∷ b ∷ c ∷ d ∷ []) ch ≡ channel max l ch
same_four max a b c d l few ea eb ec ed zero = ea
same_four max a b c d l few ea eb ec ed (suc zero) = eb
same_four max a b c d l few ea eb ec ed (suc (suc zero)) = ec
same_four max a b c d l few ea eb ec ed (suc (suc (suc zero))) = ed
same_four max a b c d l few ea eb ec ed (suc (suc (suc (suc ch)))) = sym (get_or-eq_default l max (omega (arith, few)))

-- of a list that is made by number
pub four_made : (max a b c d count : ℕ) (f : ℕ → ℕ) → count ≤ 4 → a ≡ channel max (map f (range_with_len 0 count)) 0 → b ≡ channel max (map f (range_with_len 0 count)) 1
    → c ≡ channel max (map f (range_with_len 0 count)) 2 → d ≡ channel max (map f (range_with_len 0 count)) 3
    → (ch : ℕ) → channel max (a ∷ b ∷ c ∷ d ∷ []) ch ≡ channel max (map f (range_with_len 0 count)) ch
four_made max a b c d count f few ea eb ec ed =
    same_four max a b c d (map f (range_with_len 0 count)) (omega (arith, few, length-map-range_with_len f 0 count)) ea eb ec ed

-- lists that are made by number are equal where their channels are
pub same_made : (f g : ℕ → ℕ) (n : ℕ) → ((k : ℕ) → k < n → f k ≡ g k) → map f (range_with_len 0 n) ≡ map g (range_with_len 0 n)
same_made f g n same =
    fill_by_all g (map f (range_with_len 0 n)) n 0 (length-map-range_with_len f 0 n)
    (λ k h. get_or-map-range_with_len f 0 n k k 0 h (omega arith) ∙ same k h)

-- pixels of the same channels are the same at another depth
pub same_depth : (layout to : Layout) (p q : List ℕ) → ((ch : ℕ) → channel layout.max p ch ≡ channel layout.max q ch) → of_depth layout to p ≡ of_depth layout to q
same_depth layout to p q same =
    same_made (λ ch. at_depth layout.max to.max (channel layout.max p ch)) (λ ch. at_depth layout.max to.max (channel layout.max q ch)) to.count (λ k h. ap (at_depth layout.max to.max) (same k))

-- and in another format
pub same_converted : (format to : Format) (gamma to_gamma : GammaMode) (p q : List ℕ) → ((ch : ℕ) → channel format.layout.max p ch ≡ channel format.layout.max q ch)
    → converted format gamma to to_gamma p ≡ converted format gamma to to_gamma q
same_converted format to gamma to_gamma p q same =
    let within : within_model format gamma to to_gamma p ≡ within_model format gamma to to_gamma q =
    ap (λ (d : List ℕ). map (channel_reencoded format gamma to to_gamma d) (range_with_len 0 to.layout.count)) (same_depth format.layout to.layout p q same) in
    let rgba : rgba_of format.to_rgb format.layout.alpha format.layout.max p ≡ rgba_of format.to_rgb format.layout.alpha format.layout.max q =
    rw (same 0, same 1, same 2, same format.layout.alpha) refl in
    let across : across_models format gamma to to_gamma p ≡ across_models format gamma to to_gamma q =
    ap (λ (r : List ℕ). take to.layout.count (of_rgba to.of_rgb to.layout.max (within_model (rgba_format format) gamma (rgba_format to) to_gamma r))) rgba in
    ap (λ (l : List ℕ). if nat_eq format.kind to.kind then l else across_models format gamma to to_gamma p) within
    ∙ ap (λ (l : List ℕ). if nat_eq format.kind to.kind then within_model format gamma to to_gamma q else l) across

-- and in light
pub same_in_light : (format to : Format) (p q : List ℕ) → ((ch : ℕ) → channel format.layout.max p ch ≡ channel format.layout.max q ch) → in_light format to p ≡ in_light format to q
same_in_light format to p q same =
    same_made (channel_in_light format to p) (channel_in_light format to q) to.layout.count (λ k h. rw (same k, same to.layout.alpha) refl)

-- the first channels of four
pub take_four : (max n : ℕ) (l : List ℕ) → n ≤ length l → n ≤ 4 → take n (four_of max l) ≡ take n l
take_four max zero l long few = refl
take_four max (suc n) [] long few = absurd (omega (arith, long))
take_four max (suc zero) (a ∷ l) long few = refl
take_four max (suc (suc n)) (a ∷ []) long few = absurd (omega (arith, long))
take_four max (suc (suc zero)) (a ∷ b ∷ l) long few = refl
take_four max (suc (suc (suc n))) (a ∷ b ∷ []) long few = absurd (omega (arith, long))
take_four max (suc (suc (suc zero))) (a ∷ b ∷ c ∷ l) long few = refl
take_four max (suc (suc (suc (suc n)))) (a ∷ b ∷ c ∷ []) long few = absurd (omega (arith, long))
take_four max (suc (suc (suc (suc zero)))) (a ∷ b ∷ c ∷ d ∷ l) long few = refl
take_four max (suc (suc (suc (suc (suc n))))) (a ∷ b ∷ c ∷ d ∷ l) long few = absurd (omega (arith, few))

-- the first channels of a list, and the maximum behind them
pub channel_taken : (max n k : ℕ) (l : List ℕ) → k < n → channel max (take n l) k ≡ channel max l k
channel_taken max zero k l lt = absurd (omega (arith, lt))
channel_taken max (suc n) k [] lt = refl
channel_taken max (suc n) zero (x ∷ l) lt = refl
channel_taken max (suc n) (suc k) (x ∷ l) lt = channel_taken max n k l (omega (arith, lt))

pub channel_untaken : (max n k : ℕ) (l : List ℕ) → n ≤ k → channel max (take n l) k ≡ max
channel_untaken max zero k l past = refl
channel_untaken max (suc n) k [] past = refl
channel_untaken max (suc n) zero (x ∷ l) past = absurd (omega (arith, past))
channel_untaken max (suc n) (suc k) (x ∷ l) past = channel_untaken max n k l (omega (arith, past))

pub channel_or_max : (max count k : ℕ) (l : List ℕ) → (if nat_lt k count then channel max l k else max) ≡ channel max (take count l) k
channel_or_max max count k l = elim (cases_lt k count) [
  | inl lt ↦ let t : nat_lt k count ≡ true = grind (arith, lt) in rw t (sym (channel_taken max count k l lt))
  | inr past ↦ let t : nat_lt k count ≡ false = grind (arith, past) in rw t (sym (channel_untaken max count k l past))
]

-- pixels of the same first channels are the same as sRGB
pub same_as_srgb : (format to : Format) (n : ℕ) (p q : List ℕ) → ((ch : ℕ) → ch < n → channel format.layout.max p ch ≡ channel format.layout.max q ch)
    → to.layout.count ≤ n → to.layout.alpha < n → as_srgb format to p ≡ as_srgb format to q
same_as_srgb format to n p q same count alpha =
    same_made (channel_as_srgb format to p) (channel_as_srgb format to q) to.layout.count (λ k h. rw (same k (omega (arith, h, count)), same to.layout.alpha alpha) refl)
