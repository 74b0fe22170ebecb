-- Commands through mattes of 8 bits do what the same commands do with these mattes in 16 bits.
use Rattle.std.proofs.Common.{◌≡◌, ℕ, zero, suc, ◌+◌, ◌*◌, List, [], ◌∷◌, ◌++◌, length, map, take, drop, fold, nat_eq, Bool, true, false, cond, ◌⊎◌, inl, inr, arith, refl, ap, sym, ◌∙◌}
use Rattle.std.specs.Prelude.{slice_index_or, not, ◌&&◌, ◌||◌}
use Rattle.std.specs.List.{zip}
use Rattle.std.proofs.lemmas.List.{take-map, drop-map, map-append, length-map}
use Rattle.std.proofs.lemmas.Bool.Decides.{nat_tests}
use Rattle.std.proofs.lemmas.Simd.{map-map}
use denote.Bor.{Bor}
use Rattle.pix_ops.specs.declared.ops.Op.{Op}
use Rattle.pix_el.specs.Pixel.{Layout}
use Rattle.pix_raster.specs.Region.{Rectangle, whole}
use Rattle.pix_raster.specs.Image.{Image, point, region_of}
use Rattle.pix_raster.specs.Reach.{from_pair}
use Rattle.pix_raster.specs.Run.{Effect, Matted, effect_at, apply, run_at}
use Rattle.pix_raster.specs.declared.command.Command.TheVariants as commands
use Rattle.pix_flat.specs.declared.command.FlatCommand.{FlatCommand}
use Rattle.pix_flat.specs.declared.command.PixCommandRgba16.{PixCommandRgba16}
use Rattle.pix_flat.specs.declared.format.PixMatte8.{PixMatte8}
use Rattle.pix_flat.specs.Format.{rgba16_numbers, matte16_numbers, widened, widened_numbers}
use Rattle.pix_flat.specs.Command.{joined_rows, image_of, borrowed, command_of, rectangle, op_at, with_mattes, is_narrow, wide_command, narrow_command, rgba16_command}
use Rattle.pix_flat.specs.Status.{fault_of}

-- rows of what is made of each element
joined_mapped : {X Y : Type 0} (f : X → Y) (width height stride : ℕ) (items : List X)
    → joined_rows width height stride (map f items) ≡ map f (joined_rows width height stride items)
joined_mapped f width zero stride items = refl
joined_mapped {X = X} {Y = Y} f width (suc height) stride items =
    let rest : joined_rows width height stride (drop stride (map f items)) ≡ map f (joined_rows width height stride (drop stride items)) =
    ap (joined_rows width height stride) (drop-map f stride items) ∙ joined_mapped f width height stride (drop stride items) in
    ap (λ (l : List Y). l ++ joined_rows width height stride (drop stride (map f items))) (take-map f width items)
    ∙ ap (λ (l : List Y). map f (take width items) ++ l) rest
    ∙ sym (map-append f (take width items) (joined_rows width height stride (drop stride items)))

-- the numbers of mattes of 8 bits in rows are those of the same mattes in 16 bits
mattes_alike : (width height stride : ℕ) (items : List PixMatte8)
    → map widened_numbers (joined_rows width height stride items) ≡ map matte16_numbers (joined_rows width height stride (map widened items))
mattes_alike width height stride items =
    sym (ap (map matte16_numbers) (joined_mapped widened width height stride items)
    ∙ map-map matte16_numbers widened (joined_rows width height stride items))

module _ {D M : Type 0} where
  -- the command that is meant, of a kind that takes mattes
  matte_command : (c : FlatCommand D M) → c.kind ≡ 5
      → command_of c ≡ commands.Matte (rectangle c.to) (borrowed (image_of c.width c.height c.stride c.mattes.now)) (rectangle c.from) c.color (op_at c.op)
  matte_command c e = rw e refl

  masked_command : (c : FlatCommand D M) → c.kind ≡ 6
      → command_of c ≡ commands.RasterMatte (rectangle c.to) (borrowed (image_of c.width c.height c.stride c.pixels.now)) (rectangle c.from)
      (borrowed (image_of c.mask_width c.mask_height c.mask_stride c.mattes.now)) (rectangle c.mask) (op_at c.op)
  masked_command c e = rw e refl

module _ {D M N : Type 0} (n : D → List ℕ) (m : M → List ℕ) (o : N → List ℕ) (dest to from : Rectangle) (op : Op) (width height stride : ℕ) (ms : List M) (ns : List N) (x y : ℕ) where
  -- its effect depends on its mattes by their numbers alone
  matte_effect : (clr : D) → map m (joined_rows width height stride ms) ≡ map o (joined_rows width height stride ns)
      → effect_at n m dest (commands.Matte to (borrowed (image_of width height stride ms)) from clr op) x y
      ≡ effect_at n o dest (commands.Matte to (borrowed (image_of width height stride ns)) from clr op) x y
  matte_effect clr alike =
      ap (λ (l : List (List ℕ)). from_pair to dest from (whole width height) (λ a b. Matted op (slice_index_or l (b * width + a) []) (n clr)) x y) alike

  masked_effect : (src : Bor (Image D)) (src_from : Rectangle) → map m (joined_rows width height stride ms) ≡ map o (joined_rows width height stride ns)
      → effect_at n m dest (commands.RasterMatte to src src_from (borrowed (image_of width height stride ms)) from op) x y
      ≡ effect_at n o dest (commands.RasterMatte to src src_from (borrowed (image_of width height stride ns)) from op) x y
  masked_effect src src_from alike =
      ap (λ (l : List (List ℕ)). map (λ t. Matted op t.0 t.1) (zip (from_pair to dest from (whole width height) (λ a b. slice_index_or l (b * width + a) []) x y)
      (from_pair to dest src_from (region_of src.now) (point n src.now) x y))) alike

-- the mattes of 8 bits of a command, in 16 bits
abbrev in_sixteen : PixCommandRgba16 → Bor (List ℕ)
in_sixteen c = record { ref_ptr = (0, 0); now = map widened c.mattes8.now }

-- a command that reads them, and one that does not
reads_narrow : (c : PixCommandRgba16) → is_narrow c ≡ true → rgba16_command c ≡ with_mattes c (in_sixteen c) c.alpha
reads_narrow c e = ap (λ (b : Bool). with_mattes c (cond b (in_sixteen c) c.mattes) c.alpha) e

pub reads_wide : (c : PixCommandRgba16) → is_narrow c ≡ false → rgba16_command c ≡ wide_command c
reads_wide c e = ap (λ (b : Bool). with_mattes c (cond b (in_sixteen c) c.mattes) c.alpha) e

-- it takes mattes
either : (a b k : Bool) → (not a && (b || k)) ≡ true → (b ≡ true) ⊎ (k ≡ true)
either false true k e = inl refl
either false false k e = inr e
either true b k e = absurd (let f : false ≡ true = e in cc)

-- it is refused as it would be with these mattes in 16 bits
pub narrow_fault : (c : PixCommandRgba16) → is_narrow c ≡ true → fault_of (narrow_command c) ≡ fault_of (rgba16_command c)
narrow_fault c e =
    let same : fault_of (with_mattes c (in_sixteen c) c.alpha) ≡ fault_of (narrow_command c) = rw (length-map c.mattes8.now widened) refl in
    sym (ap fault_of (reads_narrow c e) ∙ same)

-- and has the effect that it would have with them
narrow_effect : (dest : Rectangle) (c : PixCommandRgba16) (x y : ℕ) → is_narrow c ≡ true
    → effect_at rgba16_numbers widened_numbers dest (command_of (narrow_command c)) x y
    ≡ effect_at rgba16_numbers matte16_numbers dest (command_of (rgba16_command c)) x y
narrow_effect dest c x y e =
    let wide = with_mattes c (in_sixteen c) c.alpha in
    let told : effect_at rgba16_numbers matte16_numbers dest (command_of (rgba16_command c)) x y ≡ effect_at rgba16_numbers matte16_numbers dest (command_of wide) x y =
    ap (λ f. effect_at rgba16_numbers matte16_numbers dest (command_of f) x y) (reads_narrow c e) in
    elim (either (nat_eq (length c.mattes8.now) 0) (nat_eq c.kind 5) (nat_eq c.kind 6) e) [
      | inl five ↦
          let k : c.kind ≡ 5 = grind (arith, nat_tests) in
          ap (λ f. effect_at rgba16_numbers widened_numbers dest f x y) (matte_command (narrow_command c) k)
          ∙ matte_effect rgba16_numbers widened_numbers matte16_numbers dest (rectangle c.to) (rectangle c.from) (op_at c.op) c.width c.height c.stride c.mattes8.now (map widened c.mattes8.now) x y c.color
          (mattes_alike c.width c.height c.stride c.mattes8.now)
          ∙ sym (told ∙ ap (λ f. effect_at rgba16_numbers matte16_numbers dest f x y) (matte_command wide k))
      | inr six ↦
          let k : c.kind ≡ 6 = grind (arith, nat_tests) in
          ap (λ f. effect_at rgba16_numbers widened_numbers dest f x y) (masked_command (narrow_command c) k)
          ∙ masked_effect rgba16_numbers widened_numbers matte16_numbers dest (rectangle c.to) (rectangle c.mask) (op_at c.op) c.mask_width c.mask_height c.mask_stride c.mattes8.now (map widened c.mattes8.now) x y
          (borrowed (image_of c.width c.height c.stride c.pixels.now)) (rectangle c.from)
          (mattes_alike c.mask_width c.mask_height c.mask_stride c.mattes8.now)
          ∙ sym (told ∙ ap (λ f. effect_at rgba16_numbers matte16_numbers dest f x y) (masked_command wide k))
    ]

-- so it makes the same of each pixel
pub narrow_run : (layout : Layout) (dest : Rectangle) (c : PixCommandRgba16) (x y : ℕ) (pixel : List ℕ) → is_narrow c ≡ true
    → run_at layout rgba16_numbers widened_numbers dest (command_of (narrow_command c) ∷ []) x y pixel
    ≡ run_at layout rgba16_numbers matte16_numbers dest (command_of (rgba16_command c) ∷ []) x y pixel
narrow_run layout dest c x y pixel e = ap (λ (es : List Effect). fold (apply layout) pixel (es ++ [])) (narrow_effect dest c x y e)
