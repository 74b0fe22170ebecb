-- Composites of pixels, channel by channel.
use Rattle.std.proofs.Common.{◌≡◌, ℕ, zero, suc, ◌+◌, ◌<◌, ◌≤◌, List, [], ◌∷◌, map, arith, refl, ◌∙◌, le_refl, inl, inr, Bool, true, false, if◌then◌else◌}
use Rattle.std.specs.Prelude.{ℤ, pos, negsuc}
use Rattle.std.specs.List.{range_with_len}
use Rattle.std.specs.declared.ops.Range.{Range}
use Rattle.std.proofs.lemmas.Bool.{cases_lt}
use Rattle.std.proofs.lemmas.Bool.Decides.{nat_tests}
use Rattle.std.proofs.lemmas.List.{get_or_past}
use Rattle.std.proofs.lemmas.List.FromFn.{get_or-map-range_with_len, length-map-range_with_len}
use Rattle.pix_ops.specs.declared.ops.Op.{Op}
use Rattle.pix_ops.specs.declared.ops.Op.TheVariants.{SrcOver}
use Rattle.pix_chan.specs.Product.{channel_product, fineness, IsProduct}
use Rattle.pix_ops.specs.Operators.{sum_fits}
use Rattle.pix_ops.specs.Composite.{channel_composite}
use Rattle.pix_ops.specs.Hue.{hue_composite, hue_steps, hue_weight, hue_after}
use Rattle.pix_chan.specs.Channel.{IsNumbered}
use Rattle.pix_ops.proofs.Near.{channel_near, matted_near}
use Rattle.pix_ops.proofs.WithinAlpha.{composite_grows, sums_fit}
use Rattle.pix_ops.proofs.Transparent.{over_channel, over_hue}
use Rattle.pix_el.proofs.Models.{IsModel}
use Rattle.pix_el.specs.Pixel.{Layout, lies_in, is_hue, channel, alpha_of}
use Rattle.pix_el.specs.PixelLaws.{fit_at}
use Rattle.pix_el.specs.PixelComposite.{composite_at, pixel_composite, matted_at, matted_color, matted_composite}
use Rattle.pix_el.specs.ExactPixel.{IsNearExact, IsNearExactMatted}
use Rattle.pix_el.specs.Premultiplied.{IsBounded, IsPremultiplied, IsUncut}
use Rattle.pix_el.specs.Transparent.{IsTransparent, IsUnchanged}

-- no channel passes the top
pub record Fits (max : ℕ) (numbers : List ℕ) : Type 0 where
  pub at : (ch : ℕ) → channel max numbers ch ≤ max

-- the numbers of channels do not
pub channels_fit : {C : Type 0} (max : ℕ) (number : C → ℕ) (channels : List C) → IsNumbered max number → Fits max (map number channels)
channels_fit max number channels numbered = record { at = λ ch. fit_at max number channels ch numbered }

-- a number past a range does not lie in it
lies_past : (range : Range ℕ) (ch : ℕ) → range.end ≤ ch → lies_in range ch ≡ false
lies_past range ch le = grind (arith, nat_tests)

-- the alpha comes after the hue, so it is no hue
pub alpha_bounded : (layout : Layout) (linear : Range ℕ) → IsModel layout.hues linear layout.alpha → layout.count ≡ layout.alpha + 1 → IsBounded layout layout.alpha
alpha_bounded layout linear model has_alpha = record {
  within = omega arith;
  no_hue = lies_past layout.hues layout.alpha (omega (arith, model.linear_next, model.linear_whole, model.alpha_last));
}

-- a channel of a list made channel by channel
channel-made : (max count : ℕ) (f : ℕ → ℕ) (ch : ℕ) → ch < count → channel max (map f (range_with_len 0 count)) ch ≡ f ch
channel-made max count f ch lt = get_or-map-range_with_len f 0 count ch ch max lt (omega arith)

-- such a list fits where each of its channels does
made_fits : (max count : ℕ) (f : ℕ → ℕ) → ((ch : ℕ) → f ch ≤ max) → Fits max (map f (range_with_len 0 count))
made_fits max count f each = record {
  at = λ ch. elim (cases_lt ch count) [
    | inl lt ↦ rw (channel-made max count f ch lt) (each ch)
    | inr past ↦ rw (get_or_past (map f (range_with_len 0 count)) ch max (omega (arith, length-map-range_with_len f 0 count))) (le_refl max)
  ];
}

-- a channel of a pixel's composite
pub channel-pixel_composite : (layout : Layout) (op : Op) (source dest : List ℕ) (ch : ℕ) → ch < layout.count
    → channel layout.max (pixel_composite layout op source dest) ch ≡ composite_at layout op (alpha_of layout source) (alpha_of layout dest) source dest ch
channel-pixel_composite layout op source dest ch lt =
    channel-made layout.max layout.count (composite_at layout op (alpha_of layout source) (alpha_of layout dest) source dest) ch lt

-- .. that is no hue
pub bounded-pixel_composite : (layout : Layout) (op : Op) (source dest : List ℕ) (ch : ℕ) → IsBounded layout ch
    → channel layout.max (pixel_composite layout op source dest) ch ≡ channel_composite layout.max op (channel layout.max source ch) (alpha_of layout source) (channel layout.max dest ch) (alpha_of layout dest)
bounded-pixel_composite layout op source dest ch b = rw (channel-pixel_composite layout op source dest ch b.within, b.no_hue)

-- a channel of a matted color
pub channel-matted : (layout : Layout) (matte : ℕ) (source : List ℕ) (ch : ℕ) → ch < layout.count
    → channel layout.max (matted_color layout matte source) ch ≡ matted_at layout matte source ch
channel-matted layout matte source ch lt = channel-made layout.max layout.count (matted_at layout matte source) ch lt

-- .. that is no hue
pub bounded-matted : (layout : Layout) (matte : ℕ) (source : List ℕ) (ch : ℕ) → IsBounded layout ch
    → channel layout.max (matted_color layout matte source) ch ≡ channel_product layout.max (channel layout.max source ch) matte
bounded-matted layout matte source ch b = rw (channel-matted layout matte source ch b.within, b.no_hue)

-- a hue, moved by any number of steps, does not pass the top
turned_fits : (max d : ℕ) (steps : ℤ) → 0 < max → hue_after max d steps ≤ max
turned_fits max d (pos n) positive = omega arith
turned_fits max d (negsuc n) positive = omega arith

either_fits : (b : Bool) (x y z : ℕ) → x ≤ z → y ≤ z → (if b then x else y) ≤ z
either_fits true x y z lx ly = lx
either_fits false x y z lx ly = ly

-- no channel of a composite passes the top
pub composite_fits : (layout : Layout) (op : Op) (source dest : List ℕ) → IsProduct fineness layout.max (channel_product layout.max)
    → Fits layout.max (pixel_composite layout op source dest)
composite_fits layout op source dest laws =
    let max = layout.max in
    let sa = alpha_of layout source in
    let da = alpha_of layout dest in
    let s = λ (k : ℕ). channel max source k in
    let d = λ (k : ℕ). channel max dest k in
    made_fits max layout.count (composite_at layout op sa da source dest)
    (λ ch. either_fits (is_hue layout ch) (hue_composite max op (s ch) sa (d ch) da) (channel_composite max op (s ch) sa (d ch) da) max
    (turned_fits max (d ch) (hue_steps max (hue_weight max op sa da) (d ch) (s ch)) laws.positive) (omega arith))

-- no channel of a color through a matte does
pub matted_fits : (layout : Layout) (matte : ℕ) (source : List ℕ) → IsProduct fineness layout.max (channel_product layout.max)
    → Fits layout.max source → matte ≤ layout.max → Fits layout.max (matted_color layout matte source)
matted_fits layout matte source laws fs lm =
    let max = layout.max in
    let s = λ (k : ℕ). channel max source k in
    made_fits max layout.count (matted_at layout matte source)
    (λ ch. either_fits (is_hue layout ch) (s ch) (channel_product max (s ch) matte) max
    (fs.at ch) (omega (arith, laws.at_most_operand (s ch) matte (fs.at ch) lm, fs.at ch)))

-- each channel of a composite but a hue is near the exact one
pub made_near_exact : (layout : Layout) (op : Op) (source dest made : List ℕ) → IsProduct fineness layout.max (channel_product layout.max)
    → made ≡ pixel_composite layout op source dest → Fits layout.max source → Fits layout.max dest → IsNearExact layout op source dest made
made_near_exact layout op source dest made laws is fs fd = λ ch b.
    rw (is, bounded-pixel_composite layout op source dest ch b)
    (channel_near op layout.max _ _ _ _ laws (fs.at ch) (fs.at layout.alpha) (fd.at ch) (fd.at layout.alpha))

-- and through a matte
pub made_near_exact_matted : (layout : Layout) (op : Op) (matte : ℕ) (source dest made : List ℕ) → IsProduct fineness layout.max (channel_product layout.max)
    → made ≡ matted_composite layout op matte source dest → Fits layout.max source → matte ≤ layout.max → Fits layout.max dest → IsBounded layout layout.alpha
    → IsNearExactMatted layout op matte source dest made
made_near_exact_matted layout op matte source dest made laws is fs lm fd alpha = λ ch b.
    rw (is, bounded-pixel_composite layout op (matted_color layout matte source) dest ch b, bounded-matted layout matte source ch b, bounded-matted layout matte source layout.alpha alpha)
    (matted_near op layout.max _ _ _ _ _ laws (fs.at ch) (fs.at layout.alpha) lm (fd.at ch) (fd.at layout.alpha))

-- where no channel of the two pixels passes its alpha, none of their composite does
pub made_premultiplied : (layout : Layout) (op : Op) (source dest made : List ℕ) → IsProduct fineness layout.max (channel_product layout.max)
    → made ≡ pixel_composite layout op source dest → IsBounded layout layout.alpha
    → IsPremultiplied layout source → IsPremultiplied layout dest → IsPremultiplied layout made
made_premultiplied layout op source dest made laws is alpha ps pd = λ ch b.
    rw (is, bounded-pixel_composite layout op source dest ch b, bounded-pixel_composite layout op source dest layout.alpha alpha)
    (composite_grows op fineness layout.max _ _ _ _ laws (ps ch b) (pd ch b))

-- nor does any of the color through a matte
pub matted_premultiplied : (layout : Layout) (matte : ℕ) (source : List ℕ) → IsProduct fineness layout.max (channel_product layout.max) → IsBounded layout layout.alpha
    → IsPremultiplied layout source → IsPremultiplied layout (matted_color layout matte source)
matted_premultiplied layout matte source laws alpha ps = λ ch b.
    rw (bounded-matted layout matte source ch b, bounded-matted layout matte source layout.alpha alpha)
    (laws.monotone (channel layout.max source ch) (alpha_of layout source) matte (ps ch b))

-- and no sum is cut of an operator whose sums fit
pub composite_uncut : (layout : Layout) (op : Op) (source dest : List ℕ) → IsProduct fineness layout.max (channel_product layout.max)
    → Fits layout.max source → Fits layout.max dest
    → IsPremultiplied layout source → IsPremultiplied layout dest → sum_fits op ≡ true → IsUncut layout op source dest
composite_uncut layout op source dest laws fs fd ps pd fits = λ ch b.
    sums_fit op fineness layout.max _ _ _ _ laws (ps ch b) (fs.at layout.alpha) (pd ch b) (fd.at layout.alpha) fits

-- a transparent source changes no channel under `SrcOver`
over_at : (layout : Layout) (source dest : List ℕ) (ch : ℕ) (b : Bool) → IsProduct fineness layout.max (channel_product layout.max)
    → channel layout.max dest ch ≤ layout.max → alpha_of layout source ≡ 0 → (b ≡ false → channel layout.max source ch ≡ 0)
    → (if b then hue_composite layout.max SrcOver (channel layout.max source ch) (alpha_of layout source) (channel layout.max dest ch) (alpha_of layout dest)
    else channel_composite layout.max SrcOver (channel layout.max source ch) (alpha_of layout source) (channel layout.max dest ch) (alpha_of layout dest))
    ≡ channel layout.max dest ch
over_at layout source dest ch true laws fits alpha none =
    rw alpha (over_hue layout.max (channel layout.max source ch) (channel layout.max dest ch) (alpha_of layout dest) laws.positive fits)
over_at layout source dest ch false laws fits alpha none =
    rw (alpha, none refl) (over_channel fineness layout.max (channel layout.max dest ch) (alpha_of layout dest) laws fits)

pub transparent_over : (layout : Layout) (source dest : List ℕ) → IsProduct fineness layout.max (channel_product layout.max) → IsBounded layout layout.alpha
    → Fits layout.max dest → IsTransparent layout source → IsUnchanged layout dest (pixel_composite layout SrcOver source dest)
transparent_over layout source dest laws alpha fits none = λ ch lt.
    channel-pixel_composite layout SrcOver source dest ch lt
    ∙ over_at layout source dest ch (is_hue layout ch) laws (fits.at ch) (none layout.alpha alpha)
    (λ hue. none ch (record { within = lt; no_hue = hue }))

-- and is transparent through a matte
pub matted_transparent : (layout : Layout) (matte : ℕ) (source : List ℕ) → IsProduct fineness layout.max (channel_product layout.max)
    → matte ≤ layout.max → IsTransparent layout source → IsTransparent layout (matted_color layout matte source)
matted_transparent layout matte source laws fits none = λ ch b.
    let e : channel_product layout.max (channel layout.max source ch) matte ≤ channel layout.max source ch =
    laws.at_most_operand (channel layout.max source ch) matte (omega (arith, none ch b)) fits in
    bounded-matted layout matte source ch b ∙ (let z : channel_product layout.max (channel layout.max source ch) matte ≡ 0 = omega (arith, e, none ch b) in z)
