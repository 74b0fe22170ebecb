-- What blits of views make of the points of an image, as effects of commands.
use Rattle.std.proofs.Common.{◌≡◌, ℕ, List, [], ◌∷◌, ◌++◌, length, map, fold, pos, ℤ, ◌+ℤ◌, ◌-ℤ◌, Bool, true, false, cond, ap, sym, ◌∙◌, refl}
use Rattle.std.specs.List.{zip}
use Rattle.pix_el.specs.Pixel.{Layout}
use Rattle.pix_raster.specs.Region.{Rectangle, whole}
use Rattle.pix_raster.specs.Image.{point, region_of}
use Rattle.pix_raster.specs.Reach.{from_pair, is_paired, natural}
use Rattle.pix_raster.specs.View.{read_at, where_paired, where_masked, IsShaped}
use Rattle.pix_raster.specs.Run.{Effect, apply}
use Rattle.pix_raster.proofs.Masked.{paired_below}
use Rattle.pix_raster.proofs.Steps.{masked_effect as raster_masked}
use Rattle.pix_raster.specs.Draw.{image_of}
use Rattle.pix_raster.proofs.ViewImages.{point_read}

one_read : {X : Type 0} (s t : X) (reached : Bool) → (reached ≡ true → s ≡ t) → cond reached (s ∷ []) [] ≡ cond reached (t ∷ []) []
one_read {X = X} s t true same = ap (λ (z : X). z ∷ []) (same refl)
one_read s t false same = refl

paired_step : (layout : Layout) (effect : List ℕ → Effect) (f : List ℕ → List ℕ → List ℕ) (s t pixel : List ℕ) (reached : Bool) → (reached ≡ true → s ≡ t)
    → ((source p : List ℕ) → f source p ≡ apply layout p (effect source))
    → fold (λ p source. f source p) pixel (cond reached (s ∷ []) []) ≡ fold (apply layout) pixel (cond reached (effect t ∷ []) [] ++ [])
paired_step layout effect f s t pixel true same is = is s pixel ∙ ap (λ z. apply layout pixel (effect z)) (same refl)
paired_step layout effect f s t pixel false same is = refl

-- a change of the points that are paired with others of an image is one effect at each
pub paired_effect : {S : Type 0} (layout : Layout) (to dest from : Rectangle) (m : S → List ℕ) (width height stride : ℕ) (src : List S) (f : List ℕ → List ℕ → List ℕ) (effect : List ℕ → Effect)
    (x y : ℕ) (pixel : List ℕ) → IsShaped (record { width = width; height = height; stride = stride }) (length src) → ((source p : List ℕ) → f source p ≡ apply layout p (effect source))
    → where_paired to dest from (whole width height) (read_at m stride src) f x y pixel
    ≡ fold (apply layout) pixel (from_pair to dest from (region_of (image_of width height stride src)) (λ a b. effect (point m (image_of width height stride src) a b)) x y ++ [])
paired_effect layout to dest from m width height stride src f effect x y pixel shaped is =
    let i : ℤ = pos x -ℤ to.left in
    let j : ℤ = pos y -ℤ to.top in
    paired_step layout effect f _ _ pixel (is_paired to dest from (whole width height) i j)
    (λ e. let below = paired_below to dest from width height i j e in
    sym (point_read m width height stride src (natural (from.left +ℤ i)) (natural (from.top +ℤ j)) shaped below.0 below.1)) is

-- what is read at the point that a point is paired with stands there in the image
pair_read : {S : Type 0} (to dest from : Rectangle) (m : S → List ℕ) (width height stride : ℕ) (src : List S) (x y : ℕ) → IsShaped (record { width = width; height = height; stride = stride }) (length src)
    → from_pair to dest from (whole width height) (read_at m stride src) x y
    ≡ from_pair to dest from (region_of (image_of width height stride src)) (point m (image_of width height stride src)) x y
pair_read to dest from m width height stride src x y shaped =
    let i : ℤ = pos x -ℤ to.left in
    let j : ℤ = pos y -ℤ to.top in
    one_read _ _ (is_paired to dest from (whole width height) i j)
    (λ e. let below = paired_below to dest from width height i j e in
    sym (point_read m width height stride src (natural (from.left +ℤ i)) (natural (from.top +ℤ j)) shaped below.0 below.1))

-- a change of the points that are paired with others of a mask and of an image is one effect at
-- each
pub masked_effect : {S M : Type 0} (layout : Layout) (to dest from mask_from : Rectangle) (n : S → List ℕ) (width height stride : ℕ) (src : List S)
    (m : M → List ℕ) (mask_width mask_height mask_stride : ℕ) (mask : List M) (f : List ℕ → List ℕ → List ℕ → List ℕ) (effect : List ℕ → List ℕ → Effect) (x y : ℕ) (pixel : List ℕ)
    → IsShaped (record { width = width; height = height; stride = stride }) (length src)
    → IsShaped (record { width = mask_width; height = mask_height; stride = mask_stride }) (length mask)
    → ((matte source p : List ℕ) → f matte source p ≡ apply layout p (effect matte source))
    → where_masked to dest from (whole width height) mask_from (whole mask_width mask_height) (read_at n stride src) (read_at m mask_stride mask) f x y pixel
    ≡ fold (apply layout) pixel (map (λ t. effect t.0 t.1)
    (zip (from_pair to dest mask_from (region_of (image_of mask_width mask_height mask_stride mask)) (point m (image_of mask_width mask_height mask_stride mask)) x y)
    (from_pair to dest from (region_of (image_of width height stride src)) (point n (image_of width height stride src)) x y)) ++ [])
masked_effect layout to dest from mask_from n width height stride src m mask_width mask_height mask_stride mask f effect x y pixel shaped mask_shaped is =
    let image = image_of width height stride src in
    let mattes = image_of mask_width mask_height mask_stride mask in
    let made = λ (us vs : List (List ℕ)). fold (λ p t. f t.0 t.1 p) pixel (zip us vs) in
    ap (λ us. made us (from_pair to dest from (whole width height) (read_at n stride src) x y)) (pair_read to dest mask_from m mask_width mask_height mask_stride mask x y mask_shaped)
    ∙ ap (made (from_pair to dest mask_from (region_of mattes) (point m mattes) x y)) (pair_read to dest from n width height stride src x y shaped)
    ∙ raster_masked layout to dest from (region_of image) mask_from (region_of mattes) (point n image) (point m mattes) f effect x y pixel is
