-- Blocks of pixels, composited from their channels: through mattes, and at one opacity.
use Rattle.std.proofs.Common.{◌≡◌, ℕ, ◌∙◌, List, length, ap, sym, refl, arith, replicate, take}
use Rattle.std.specs.List.{zip}
use Rattle.std.proofs.lemmas.List.{length-replicate, length-take-le}
use Rattle.pix_chan.specs.Runs.{over}
use Rattle.pix_chan.specs.Product.{channel_product}
use Rattle.pix_ops.specs.declared.ops.Op.{Op}
use Rattle.pix_el.specs.Pixel.{Layout}
use Rattle.pix_el.specs.Planes.{by_fours}
use Rattle.pix_el.specs.PixelComposite.{pixel_composite, matted_color, matted_composite}
use Rattle.pix_el.proofs.FourPlanes.{four_of}
use Rattle.pix_el.proofs.EightPixels.{eight_matted, over-replicate}
use Rattle.pix_el.proofs.MattePlanes.{over-mapped}
use Rattle.pix_el.proofs.Masked.{over-beside, over-one}

-- how long the first half of sixteen is
pub first_eight : {A : Type 0} (p : List A) → length p ≡ 16 → length (take 8 p) ≡ 8
first_eight p h = length-take-le 8 p (omega (arith, h))

module _ (layout : Layout) (op : Op) where
  -- pixels of a block are those of its channels
  pub made_of : (cs ss ds new : List (List ℕ)) → new ≡ over (pixel_composite layout op) cs ds → cs ≡ ss → new ≡ over (pixel_composite layout op) ss ds
  made_of cs ss ds new e same = e ∙ ap (λ (l : List (List ℕ)). over (pixel_composite layout op) l ds) same

  -- one color, through each matte of a block of n pixels
  pub made_matted : (n : ℕ) (ms vs color : List ℕ) (by cs ds new : List (List ℕ)) → length ms ≡ n
      → new ≡ over (pixel_composite layout op) by ds → by ≡ over (matted_color layout) ms cs → cs ≡ replicate n color → ms ≡ vs
      → new ≡ over (λ m. matted_composite layout op m color) vs ds
  made_matted n ms vs color by cs ds new long e covered colors same =
      let f = matted_color layout in
      let made = pixel_composite layout op in
      e ∙ ap (λ (l : List (List ℕ)). over made l ds) (covered ∙ ap (over f ms) colors ∙ over-replicate f n ms color long)
      ∙ over-mapped made (λ (m : ℕ). f m color) ms ds
      ∙ ap (λ (l : List ℕ). over (λ m. matted_composite layout op m color) l ds) same

  -- each pixel of a block, through the matte of the same index
  pub made_masked : (ms vs : List ℕ) (by cs ss ds new : List (List ℕ)) → length ms ≡ length ss
      → new ≡ over (pixel_composite layout op) by ds → by ≡ over (matted_color layout) ms cs → cs ≡ ss → ms ≡ vs
      → new ≡ over (λ t. matted_composite layout op t.0 t.1) (zip vs ss) ds
  made_masked ms vs by cs ss ds new long e covered colors same =
      let f = matted_color layout in
      let made = pixel_composite layout op in
      e ∙ ap (λ (l : List (List ℕ)). over made l ds) (covered ∙ ap (over f ms) colors)
      ∙ over-beside made f ms ss ds long
      ∙ ap (λ (l : List ℕ). over (λ t. matted_composite layout op t.0 t.1) (zip l ss) ds) same

  -- each pixel of a block of n at one opacity
  pub made_one : (n a : ℕ) (by cs ss ds new : List (List ℕ)) → length ss ≡ n
      → new ≡ over (pixel_composite layout op) by ds → by ≡ over (matted_color layout) (replicate n a) cs → cs ≡ ss
      → new ≡ over (matted_composite layout op a) ss ds
  made_one n a by cs ss ds new long e covered colors =
      let all = replicate n a in
      made_masked all all by cs ss ds new (length-replicate n a ∙ sym long) e covered colors refl
      ∙ over-one (λ (m : ℕ) (x y : List ℕ). matted_composite layout op m x y) n a ss ds (omega (arith, long))

  -- each pixel of eight at one opacity, by its four channels
  pub made_faded : (max a : ℕ) (by cs : List ℕ) (ss ds new : List (List ℕ)) → layout ≡ four_of max 0 → length cs ≡ 32 → length ss ≡ 8
      → new ≡ over (pixel_composite layout op) (by_fours by) ds → by ≡ over (λ y x. channel_product max x y) (replicate 32 a) cs → by_fours cs ≡ ss
      → new ≡ over (matted_composite layout op a) ss ds
  made_faded max a by cs ss ds new four wide long e faded colors =
      let own : by_fours by ≡ over (matted_color layout) (replicate 8 a) (by_fours cs) = ap by_fours faded ∙ eight_matted max a a a a a a a a cs wide
      ∙ ap (λ (l : Layout). over (matted_color l) (replicate 8 a) (by_fours cs)) (sym four) in
      made_one 8 a (by_fours by) (by_fours cs) ss ds new long e own colors
