-- Mattes of the maximum, of 0 and of one value.
use Rattle.std.proofs.Common.{◌≡◌, ℕ, ◌-◌, ◌<◌, ◌≤◌, ◌∙◌, List, [], ◌∷◌, ◌++◌, ℤ, pos, ◌+ℤ◌, ◌-ℤ◌, map, fold, refl, ap, sym, arith, Bool, true, false, cond}
use denote.Bor.{Bor}
use Rattle.std.specs.List.{range_with_len, zip}
use Rattle.std.proofs.lemmas.List.FromFn.{fill_by_all, get_or-map-range_with_len, length-map-range_with_len}
use Rattle.pix_ops.specs.declared.ops.Op.{Op}
use Rattle.pix_chan.specs.Number.{saturating_sum}
use Rattle.pix_chan.specs.Product.{channel_product, fineness, IsProduct}
use Rattle.pix_ops.specs.Operators.{Coefficient, Zero, One, OtherAlpha, OneMinusAlpha, row}
use Rattle.pix_ops.specs.Composite.{term, channel_composite}
use Rattle.pix_ops.specs.Hue.{hue_composite, hue_after, hue_steps}
use Rattle.pix_ops.proofs.Transparent.{over_hue}
use Rattle.pix_el.specs.Pixel.{Layout, is_hue, channel, alpha_of}
use Rattle.pix_el.specs.PixelComposite.{composite_at, pixel_composite, matted_color, matted_composite, matte_value}
use Rattle.pix_el.specs.Premultiplied.{IsBounded}
use Rattle.pix_el.specs.Transparent.{IsTransparent, IsUnchanged}
use Rattle.pix_el.proofs.Composited.{Fits, channel-matted, bounded-matted, channel-pixel_composite}
use Rattle.pix_raster.specs.Region.{Rectangle}
use Rattle.pix_raster.specs.Image.{Image, Changed, point, region_of}
use Rattle.pix_raster.specs.Reach.{is_paired, natural, from_pair}
use Rattle.pix_raster.specs.View.{where_masked, where_paired}
use Rattle.pix_raster.specs.Run.{Effect, Matted, apply, run_at}
use Rattle.pix_raster.specs.declared.command.Command.TheVariants as commands
use Rattle.pix_raster.specs.Stays.{is_one_at_none, keeps_under}
use Rattle.pix_raster.proofs.Masked.{paired_below}
use Rattle.pix_raster.proofs.Steps.{from_pair_effect, masked_effect}

-- two lists made channel by channel, each channel alike
made_alike : (count : ℕ) (f g : ℕ → ℕ) → ((ch : ℕ) → ch < count → f ch ≡ g ch) → map f (range_with_len 0 count) ≡ map g (range_with_len 0 count)
made_alike count f g alike =
    fill_by_all g (map f (range_with_len 0 count)) count 0 (length-map-range_with_len f 0 count) (λ ch lt. get_or-map-range_with_len f 0 count ch ch 0 lt (omega arith) ∙ alike ch lt)

kept_at : (b : Bool) (x y d : ℕ) → x ≡ d → (b ≡ false → y ≡ d) → cond b x y ≡ d
kept_at true x y d e f = e
kept_at false x y d e f = f refl

module _ (layout : Layout) (laws : IsProduct fineness layout.max (channel_product layout.max)) (alpha : IsBounded layout layout.alpha) where
  either : (b : Bool) (x y : ℕ) → y ≡ x → cond b x y ≡ x
  either true x y e = refl
  either false x y e = e

  -- a color through a matte of the maximum has the same channels
  whole_at : (source : List ℕ) (ch : ℕ) → ch < layout.count → channel layout.max (matted_color layout layout.max source) ch ≡ channel layout.max source ch
  whole_at source ch lt =
      channel-matted layout layout.max source ch lt
      ∙ either (is_hue layout ch) (channel layout.max source ch) (channel_product layout.max (channel layout.max source ch) layout.max) (laws.identity (channel layout.max source ch))

  -- a composite through a matte of the maximum is the plain one
  pub whole_matte : (op : Op) (source dest : List ℕ) → matted_composite layout op layout.max source dest ≡ pixel_composite layout op source dest
  whole_matte op source dest =
      let max = layout.max in
      let color = matted_color layout max source in
      let da : ℕ = alpha_of layout dest in
      let same : alpha_of layout color ≡ alpha_of layout source = whole_at source layout.alpha alpha.within in
      let at = λ (sa s : ℕ) (ch : ℕ).
      cond (is_hue layout ch) (hue_composite max op s sa (channel max dest ch) da) (channel_composite max op s sa (channel max dest ch) da) in
      made_alike layout.count (composite_at layout op (alpha_of layout color) da color dest) (composite_at layout op (alpha_of layout source) da source dest)
      (λ ch lt. ap (λ (sa : ℕ). at sa (channel max color ch) ch) same ∙ ap (λ (s : ℕ). at (alpha_of layout source) s ch) (whole_at source ch lt))

  -- a color through a matte of 0 is transparent
  none_transparent : (source : List ℕ) → Fits layout.max source → IsTransparent layout (matted_color layout 0 source)
  none_transparent source fits = λ ch b.
      let e : channel_product layout.max 0 (channel layout.max source ch) ≤ 0 = laws.at_most_operand 0 (channel layout.max source ch) (omega arith) (fits.at ch) in
      bounded-matted layout 0 source ch b ∙ laws.commutes (channel layout.max source ch) 0
      ∙ (let z : channel_product layout.max 0 (channel layout.max source ch) ≡ 0 = omega (arith, e) in z)

  -- a term of 0, and a term that is kept
  zero_term : (c : Coefficient) (a : ℕ) → a ≤ layout.max → term layout.max c 0 a ≡ 0
  zero_term Zero a le = refl
  zero_term One a le = refl
  zero_term OtherAlpha a le = let e : channel_product layout.max 0 a ≤ 0 = laws.at_most_operand 0 a (omega arith) le in omega (arith, e)
  zero_term OneMinusAlpha a le =
      let e : channel_product layout.max 0 (layout.max - a) ≤ 0 = laws.at_most_operand 0 (layout.max - a) (omega arith) (omega arith) in omega (arith, e)

  kept_term : (c : Coefficient) (d : ℕ) → is_one_at_none c ≡ true → term layout.max c d 0 ≡ d
  kept_term Zero d keeps = absurd (let f : false ≡ true = keeps in cc)
  kept_term One d keeps = refl
  kept_term OtherAlpha d keeps = absurd (let f : false ≡ true = keeps in cc)
  kept_term OneMinusAlpha d keeps = let all : layout.max - 0 ≡ layout.max = omega arith in ap (channel_product layout.max d) all ∙ laws.identity d

  -- one channel that is no hue, and a hue
  kept_channel : (op : Op) (d da : ℕ) → d ≤ layout.max → da ≤ layout.max → keeps_under op ≡ true → channel_composite layout.max op 0 0 d da ≡ d
  kept_channel op d da fits fits_alpha keeps =
      let zero : term layout.max (row op).source 0 da ≡ 0 = zero_term (row op).source da fits_alpha in
      let kept : term layout.max (row op).dest d 0 ≡ d = kept_term (row op).dest d keeps in
      ap (λ (t : ℕ). saturating_sum layout.max t (term layout.max (row op).dest d 0)) zero ∙ ap (saturating_sum layout.max 0) kept
      ∙ (let e : saturating_sum layout.max 0 d ≡ d = omega arith in e)

  kept_hue : (op : Op) (s d da : ℕ) → d ≤ layout.max → da ≤ layout.max → hue_composite layout.max op s 0 d da ≡ d
  kept_hue op s d da fits fits_alpha =
      ap (λ (w : ℕ). hue_after layout.max d (hue_steps layout.max w d s)) (zero_term (row op).source da fits_alpha) ∙ over_hue layout.max s d da laws.positive fits

  -- a transparent source changes nothing under an operator that keeps a pixel
  kept_under : (op : Op) (source dest : List ℕ) → Fits layout.max dest → IsTransparent layout source → keeps_under op ≡ true
      → IsUnchanged layout dest (pixel_composite layout op source dest)
  kept_under op source dest fits none keeps = λ ch lt.
      let max = layout.max in
      let da : ℕ = alpha_of layout dest in
      let d : ℕ = channel max dest ch in
      let at = λ (b : Bool) (sa : ℕ). cond b (hue_composite max op (channel max source ch) sa d da) (channel_composite max op (channel max source ch) sa d da) in
      channel-pixel_composite layout op source dest ch lt
      ∙ ap (at (is_hue layout ch)) (none layout.alpha alpha)
      ∙ kept_at (is_hue layout ch) (hue_composite max op (channel max source ch) 0 d da) (channel_composite max op (channel max source ch) 0 d da) d
      (kept_hue op (channel max source ch) d da (fits.at ch) (fits.at layout.alpha))
      (λ hue. ap (λ (s : ℕ). channel_composite max op s 0 d da) (none ch (record { within = lt; no_hue = hue })) ∙ kept_channel op d da (fits.at ch) (fits.at layout.alpha) keeps)

  -- a composite through a matte of 0 changes nothing under such an operator
  pub no_matte : (op : Op) (source dest : List ℕ) → Fits layout.max source → Fits layout.max dest → keeps_under op ≡ true
      → IsUnchanged layout dest (matted_composite layout op 0 source dest)
  no_matte op source dest fs fd keeps = kept_under op (matted_color layout 0 source) dest fd (none_transparent source fs) keeps

-- what is unchanged where a test holds, and what stays elsewhere
pub unchanged_where : (layout : Layout) (f : List ℕ → List ℕ → List ℕ) (source pixel : List ℕ) (reached : Bool) → IsUnchanged layout pixel (f source pixel)
    → IsUnchanged layout pixel (fold (λ p s. f s p) pixel (cond reached (source ∷ []) []))
unchanged_where layout f source pixel true same = same
unchanged_where layout f source pixel false same = λ ch lt. refl

-- one effect where a source is reached, of a matte that stands wherever it is
one_matte : (layout : Layout) (effect : List ℕ → List ℕ → Effect) (f : List ℕ → List ℕ → List ℕ → List ℕ) (matte m s pixel : List ℕ) (covered reached : Bool)
    → (reached ≡ true → covered ≡ true) → (covered ≡ true → m ≡ matte) → ((m s p : List ℕ) → f m s p ≡ apply layout p (effect m s))
    → fold (λ p t. f t.0 t.1 p) pixel (zip (cond covered (m ∷ []) []) (cond reached (s ∷ []) [])) ≡ fold (apply layout) pixel (cond reached (effect matte s ∷ []) [] ++ [])
one_matte layout effect f matte m s pixel true true there same is = is m s pixel ∙ ap (λ z. apply layout pixel (effect z s)) (same refl)
one_matte layout effect f matte m s pixel true false there same is = refl
one_matte layout effect f matte m s pixel false true there same is = absurd (let e : false ≡ true = there refl in cc)
one_matte layout effect f matte m s pixel false false there same is = refl

-- a change through a mask of one value is the run of a command at that opacity
pub changed_by_one : {P S M : Type 0} (layout : Layout) (n : P → List ℕ) (s : S → List ℕ) (m : M → List ℕ) (old new : Image P) (to from : Rectangle) (src : Image S)
    (mask_from : Rectangle) (mask : Image M) (f : List ℕ → List ℕ → List ℕ → List ℕ) (effect : List ℕ → List ℕ → Effect) (matte : List ℕ)
    → Changed n old new (where_masked to (region_of old) from (region_of src) mask_from (region_of mask) (point s src) (point m mask) f)
    → ((matte source p : List ℕ) → f matte source p ≡ apply layout p (effect matte source))
    → ((x y : ℕ) → x < mask.width → y < mask.height → point m mask x y ≡ matte)
    → ((i j : ℤ) → is_paired to (region_of old) from (region_of src) i j ≡ true → is_paired to (region_of old) mask_from (region_of mask) i j ≡ true)
    → Changed n old new (λ x y pixel. fold (apply layout) pixel (from_pair to (region_of old) from (region_of src) (λ a b. effect matte (point s src a b)) x y ++ []))
changed_by_one layout n s m old new to from src mask_from mask f effect matte changed is one there = record {
  same_width = changed.same_width;
  same_height = changed.same_height;
  points = λ x y hx hy.
      let i : ℤ = pos x -ℤ to.left in
      let j : ℤ = pos y -ℤ to.top in
      changed.points x y hx hy
      ∙ one_matte layout effect f matte (point m mask (natural (mask_from.left +ℤ i)) (natural (mask_from.top +ℤ j))) (point s src (natural (from.left +ℤ i)) (natural (from.top +ℤ j)))
      (point n old x y) (is_paired to (region_of old) mask_from (region_of mask) i j) (is_paired to (region_of old) from (region_of src) i j) (there i j)
      (λ covered. let below = paired_below to (region_of old) mask_from mask.width mask.height i j covered in
      one (natural (mask_from.left +ℤ i)) (natural (mask_from.top +ℤ j)) below.0 below.1) is;
}

-- the run of a composite through a mask is a change of the points that are paired
pub masked_change : {P M : Type 0} (layout : Layout) (n : P → List ℕ) (m : M → List ℕ) (old new : Image P) (to from : Rectangle) (src : Bor (Image P)) (mask_from : Rectangle) (mask : Bor (Image M)) (op : Op)
    → Changed n old new (run_at layout n m (region_of old) (commands.RasterMatte to src from mask mask_from op ∷ []))
    → Changed n old new (where_masked to (region_of old) from (region_of src.now) mask_from (region_of mask.now) (point n src.now) (point m mask.now) (λ t. matted_composite layout op (matte_value layout t)))
masked_change layout n m old new to from src mask_from mask op ran = record {
  same_width = ran.same_width;
  same_height = ran.same_height;
  points = λ x y lx ly.
      ran.points x y lx ly
      ∙ sym (masked_effect layout to (region_of old) from (region_of src.now) mask_from (region_of mask.now) (point n src.now) (point m mask.now) (λ t. matted_composite layout op (matte_value layout t))
      (Matted op) x y (point n old x y) (λ t s p. refl));
}

-- so is that of a composite at an opacity
pub faded_change : {P M : Type 0} (layout : Layout) (n : P → List ℕ) (m : M → List ℕ) (old new : Image P) (to from : Rectangle) (src : Bor (Image P)) (alpha : M) (op : Op)
    → Changed n old new (run_at layout n m (region_of old) (commands.RasterAlpha to src from alpha op ∷ []))
    → Changed n old new (where_paired to (region_of old) from (region_of src.now) (point n src.now) (matted_composite layout op (matte_value layout (m alpha))))
faded_change layout n m old new to from src alpha op ran = record {
  same_width = ran.same_width;
  same_height = ran.same_height;
  points = λ x y lx ly.
      ran.points x y lx ly
      ∙ sym (from_pair_effect layout to (region_of old) from (region_of src.now) (point n src.now) (matted_composite layout op (matte_value layout (m alpha)))
      (Matted op (m alpha)) x y (point n old x y) (λ s p. refl));
}
