-- What drawings make of an image.
use Rattle.std.proofs.Common.{◌≡◌, ℕ, ◌+◌, ◌*◌, ◌<◌, length, get_or, take, drop, replicate, pos, ℤ, ◌+ℤ◌, ◌-ℤ◌, ◌<ℤ◌, ◌≤ℤ◌, List, [], ◌∷◌, ◌++◌, Bool, true, false, refl, sym, ap, ◌∙◌, arith, fold, map, inl, inr}
use Rattle.std.specs.Prelude.{◌&&◌, not, int_lt}
use Rattle.std.specs.Int.{int_min}
use Rattle.std.specs.List.{refill}
use Rattle.std.proofs.lemmas.Bool.{cases_Bool}
use Rattle.std.proofs.lemmas.Int.{ints, clamps}
use Rattle.std.proofs.lemmas.List.Sums.{fold-append}
use Rattle.std.proofs.lemmas.List.{take_more, take_all, take-append-le, append-nil, get_or-replicate}
use Rattle.pix_raster.specs.Region.{Rectangle, covers, has_column, has_row}
use Rattle.pix_raster.specs.Image.{Image, point, region_of, Changed}
use Rattle.pix_raster.specs.Written.{with_pixels}
use Rattle.pix_raster.specs.Reach.{natural, has_offset, leads_into, is_paired, from_pair}
use Rattle.pix_raster.specs.Run.{Copied, Composited, effect_at, effects_at, run_at}
use Rattle.pix_raster.specs.declared.command.Command.{Command}
use Rattle.pix_raster.specs.declared.command.Command.TheVariants as commands
use Rattle.pix_ops.specs.declared.ops.Op.{Op}
use Rattle.pix_raster.proofs.Rectangles.{below_is, not_below_is}
use Rattle.pix_script.specs.declared.command.Line.{Line}
use Rattle.pix_script.specs.declared.command.Line.TheVariants as forms
use Rattle.pix_script.specs.Pixels.{Rgba8p, Matte8, color_numbers}
use Rattle.pix_script.specs.Picture.{Picture, rgba8, all_of, effect_of, drawn, Images, after, clear_picture, run_of}
use Rattle.pix_script.specs.Seen.{clears, keeps, picture_of, Effects, brought_by, effects_of, Shows}
use Rattle.pix_script.specs.Script.{text_of}
use Rattle.pix_script.specs.Text.{picture_text}
use Rattle.pix_raster.proofs.Places.{place_within}
use Rattle.pix_script.proofs.PictureLemmas.{picture_same}

and_true : (a b : Bool) → (a && b) ≡ true → (a ≡ true) × (b ≡ true)
and_true true b e = (refl, e)
and_true false b e = absurd cc

not_true : (a : Bool) → not a ≡ true → a ≡ false
not_true false e = refl
not_true true e = absurd cc

-- a coordinate from 0 on and below the first `size` numbers is one of them
within : (p : ℤ) (size : ℕ) → (not (int_lt p (pos 0)) && int_lt p (int_min (pos 0 +ℤ pos size) (pos 2147483647))) ≡ true → natural p < size
within p size e =
    let h = and_true _ _ e in
    let low : pos 0 ≤ℤ p = not_below_is p (pos 0) (not_true _ h.0) in
    let high : p <ℤ int_min (pos 0 +ℤ pos size) (pos 2147483647) = below_is p _ h.1 in
    below p size low high
  where
    below : (p : ℤ) (size : ℕ) → pos 0 ≤ℤ p → p <ℤ int_min (pos 0 +ℤ pos size) (pos 2147483647) → natural p < size
    below p size low high = grind (arith, ints, clamps)

-- a point that is paired gets the same from two functions that agree on the source's points
pair_same : {X : Type 0} (to dest from : Rectangle) (w h : ℕ) (f g : ℕ → ℕ → X) (x y : ℕ)
    → ((a b : ℕ) → a < w → b < h → f a b ≡ g a b)
    → let all : Rectangle = record { left = pos 0; top = pos 0; width = w; height = h } in
    from_pair to dest from all f x y ≡ from_pair to dest from all g x y
pair_same to dest from w h f g x y same =
    let all : Rectangle = record { left = pos 0; top = pos 0; width = w; height = h } in
    let i : ℤ = pos x -ℤ to.left in
    let j : ℤ = pos y -ℤ to.top in
    elim (cases_Bool (is_paired to dest from all i j)) [
      | inl paired ↦
          let p : ℤ = from.left +ℤ i in
          let q : ℤ = from.top +ℤ j in
          let both = and_true (has_offset to i j && has_offset from i j) (leads_into to dest i j && leads_into from all i j) paired in
          let leads = and_true (leads_into to dest i j) (leads_into from all i j) both.1 in
          let there = and_true (covers from p q) (covers all p q) leads.1 in
          let axes = and_true (has_column all p) (has_row all q) there.1 in
          let a = within p w axes.0 in
          let b = within q h axes.1 in
          rw (paired, same (natural p) (natural q) a b) refl
      | inr alone ↦ rw alone refl
    ]

-- the rectangle of all points of an image that shows a picture
same_points : (kept : Image Rgba8p) (picture : Picture) → Shows kept picture → all_of (picture_of kept) ≡ all_of picture
same_points kept picture shows = parts kept.width picture.width kept.height picture.height shows.same_width shows.same_height
  where
    parts : (w v h k : ℕ) → w ≡ v → h ≡ k
        → ◌≡◌ {A = Rectangle} (record { left = pos 0; top = pos 0; width = w; height = h }) (record { left = pos 0; top = pos 0; width = v; height = k })
    parts w v h k e f = rw (e, f) refl

-- what a command brings where a picture is kept that an image shows
effect_same : (kept : Image Rgba8p) (picture : Picture) → Shows kept picture → (all : Rectangle) (x y : ℕ) (m : Line)
    → effect_of (picture_of kept) all x y m ≡ effect_of picture all x y m
effect_same kept picture shows all x y (forms.Image w h) = refl
effect_same kept picture shows all x y forms.Clear = refl
effect_same kept picture shows all x y (forms.Fill reg color) = refl
effect_same kept picture shows all x y (forms.Paint op reg color) = refl
effect_same kept picture shows all x y forms.Keep = refl
effect_same kept picture shows all x y (forms.Copy to from) =
    ap (λ (r : Rectangle). from_pair to all from r (λ a b. Copied (point color_numbers kept a b)) x y) (same_points kept picture shows)
    ∙ pair_same to all from picture.width picture.height (λ a b. Copied (point color_numbers kept a b)) (λ a b. Copied (picture.at a b)) x y
    (λ a b la lb. ap (λ (p : List ℕ). Copied p) (shows.points a b la lb))
effect_same kept picture shows all x y (forms.Comp op to from) =
    ap (λ (r : Rectangle). from_pair to all from r (λ a b. Composited op (point color_numbers kept a b)) x y) (same_points kept picture shows)
    ∙ pair_same to all from picture.width picture.height (λ a b. Composited op (point color_numbers kept a b)) (λ a b. Composited op (picture.at a b)) x y
    (λ a b la lb. ap (λ (p : List ℕ). Composited op p) (shows.points a b la lb))

-- what commands of one color bring, where a pixel has the color's numbers
pub fill_brings : (kept : Image Rgba8p) (reg : Rectangle) (clr : Rgba8p) (color : List ℕ) → color_numbers clr ≡ color
    → brought_by (commands.CopyColor reg clr) ≡ effects_of kept (forms.Fill reg color)
fill_brings kept reg clr color is = rw (← is) refl

pub paint_brings : (kept : Image Rgba8p) (op : Op) (reg : Rectangle) (clr : Rgba8p) (color : List ℕ) → color_numbers clr ≡ color
    → brought_by (commands.Color reg clr op) ≡ effects_of kept (forms.Paint op reg color)
paint_brings kept op reg clr color is = rw (← is) refl

-- what the command on a raster makes of an image that shows a picture
pub run_shows : (mattes : Matte8 → List ℕ) (old new kept : Image Rgba8p) (line : Line) (command : Command Rgba8p Matte8)
    → brought_by command ≡ effects_of kept line → Changed color_numbers old new (run_at rgba8 color_numbers mattes (region_of old) (command ∷ []))
    → (images : Images) → Shows old images.image → Shows kept images.kept → Shows new (drawn images.kept images.image line)
run_shows mattes old new kept line command brings changed images shows keeps =
    let w : old.width ≡ images.image.width = shows.same_width in
    let h : old.height ≡ images.image.height = shows.same_height in
    record {
      same_width = changed.same_width ∙ w;
      same_height = changed.same_height ∙ h;
      points = λ x y lx ly.
          let effects : effects_at color_numbers mattes (region_of old) (command ∷ []) x y ≡ effect_of images.kept (all_of images.image) x y line =
          append-nil (effect_at color_numbers mattes (region_of old) command x y)
          ∙ ap (λ (e : Effects). e mattes (region_of old) x y) brings
          ∙ ap (λ (all : Rectangle). effect_of (picture_of kept) all x y line) (same_points old images.image shows)
          ∙ effect_same kept images.kept keeps (all_of images.image) x y line in
          changed.points x y (omega (arith, w, lx)) (omega (arith, h, ly)) ∙ rw (effects, shows.points x y lx ly) refl;
    }

-- an image that stays as it is, where nothing is drawn
pub none_shows : (image kept : Image Rgba8p) (line : Line) → effects_of kept line ≡ (λ mattes all x y. [])
    → (images : Images) → Shows image images.image → Shows kept images.kept → Shows image (drawn images.kept images.image line)
none_shows image kept line none images shows keeps = record {
  same_width = shows.same_width;
  same_height = shows.same_height;
  points = λ x y lx ly.
      let nothing : effect_of images.kept (all_of images.image) x y line ≡ [] =
      sym (effect_same kept images.kept keeps (all_of images.image) x y line)
      ∙ ap (λ (e : Effects). e (λ matte. []) (all_of images.image) x y) none in
      shows.points x y lx ly ∙ rw nothing refl;
}

-- the images after one line more
fold_more : (lines : List Line) (i : ℕ) (line : Line) (start : Images) → i < length lines → line ≡ get_or lines i line
    → fold after start (take (i + 1) lines) ≡ after (fold after start (take i lines)) line
fold_more lines i line start lt is =
    let more : take (i + 1) lines ≡ take i lines ++ line ∷ [] = take_more lines i line lt ∙ ap (λ (l : Line). take i lines ++ l ∷ []) (sym is) in
    ap (λ (ls : List Line). fold after start ls) more ∙ fold-append after start (take i lines) (line ∷ [])

-- a command that keeps the image leaves it as it is
after_keep : (images : Images) (line : Line) → keeps line ≡ true → after images line ≡ record { image = images.image; kept = images.image }
after_keep images forms.Keep is = refl
after_keep images (forms.Image width height) is = absurd cc
after_keep images forms.Clear is = absurd cc
after_keep images (forms.Fill reg clr) is = absurd cc
after_keep images (forms.Paint op reg clr) is = absurd cc
after_keep images (forms.Copy to from) is = absurd cc
after_keep images (forms.Comp op to from) is = absurd cc

-- and each other draws, and leaves the kept picture
after_other : (images : Images) (line : Line) → keeps line ≡ false → after images line ≡ record { image = drawn images.kept images.image line; kept = images.kept }
after_other images (forms.Image width height) is = refl
after_other images forms.Clear is = refl
after_other images (forms.Fill reg clr) is = refl
after_other images (forms.Paint op reg clr) is = refl
after_other images forms.Keep is = absurd cc
after_other images (forms.Copy to from) is = refl
after_other images (forms.Comp op to from) is = refl

-- the image and the kept one show the pictures
abbrev pub Show : (image kept : Image Rgba8p) → Images → Type 0
Show image kept images = Shows image images.image × Shows kept images.kept

-- one command more, which keeps the image
pub keep_more : (lines : List Line) (i : ℕ) (line : Line) (start : Images) (image kept copy : Image Rgba8p) → i < length lines → line ≡ get_or lines i line
    → keeps line ≡ true → copy ≡ image → Show image kept (fold after start (take i lines)) → Show image copy (fold after start (take (i + 1) lines))
keep_more lines i line start image kept copy lt is keep same show =
    rw (fold_more lines i line start lt is, after_keep (fold after start (take i lines)) line keep, same) (show.0, show.0)

-- and one that draws
pub other_more : (lines : List Line) (i : ℕ) (line : Line) (start : Images) (old new kept : Image Rgba8p) → i < length lines → line ≡ get_or lines i line
    → keeps line ≡ false → Show old kept (fold after start (take i lines))
    → ((images : Images) → Shows old images.image → Shows kept images.kept → Shows new (drawn images.kept images.image line))
    → Show new kept (fold after start (take (i + 1) lines))
other_more lines i line start old new kept lt is keep show draws =
    rw (fold_more lines i line start lt is, after_other (fold after start (take i lines)) line keep) (draws (fold after start (take i lines)) show.0 show.1, show.1)

-- all pixels of an image are clear
abbrev pub IsCleared : Image Rgba8p → Type 0
IsCleared image = (x y : ℕ) → x < image.width → y < image.height → point color_numbers image x y ≡ replicate 4 0

-- where a command changes nothing, all pixels are clear, and it clears
pub unchanged : (a b : Bool) → not (a && b) ≡ false → (a ≡ true) × (b ≡ true)
unchanged true true e = (refl, refl)
unchanged true false e = absurd cc
unchanged false b e = absurd cc

-- an image shows its own picture
own_picture : (image : Image Rgba8p) → Shows image (picture_of image)
own_picture image = record { same_width = refl; same_height = refl; points = λ x y lx ly. refl }

-- what a command that clears leaves
pub cleared_by : (old new kept : Image Rgba8p) (line : Line) → clears line ≡ true
    → ((images : Images) → Shows old images.image → Shows kept images.kept → Shows new (drawn images.kept images.image line))
    → IsCleared new
cleared_by old new kept forms.Clear is draws =
    let shows = draws (record { image = picture_of old; kept = picture_of kept }) (own_picture old) (own_picture kept) in
    λ x y lx ly. shows.points x y (rw shows.same_width at lx) (rw shows.same_height at ly)
cleared_by old new kept (forms.Image width height) is draws = absurd cc
cleared_by old new kept (forms.Fill reg clr) is draws = absurd cc
cleared_by old new kept (forms.Paint op reg clr) is draws = absurd cc
cleared_by old new kept forms.Keep is draws = absurd cc
cleared_by old new kept (forms.Copy to from) is draws = absurd cc
cleared_by old new kept (forms.Comp op to from) is draws = absurd cc

-- and it changes nothing where all pixels are clear
pub clear_again : (image kept : Image Rgba8p) (line : Line) → clears line ≡ true → IsCleared image
    → (images : Images) → Shows image images.image → Shows kept images.kept → Shows image (drawn images.kept images.image line)
clear_again image kept forms.Clear is cleared images shows keeps = record {
  same_width = shows.same_width;
  same_height = shows.same_height;
  points = λ x y lx ly. cleared x y (rw (← shows.same_width) at lx) (rw (← shows.same_height) at ly);
}
clear_again image kept (forms.Image width height) is cleared images shows keeps = absurd cc
clear_again image kept (forms.Fill reg clr) is cleared images shows keeps = absurd cc
clear_again image kept (forms.Paint op reg clr) is cleared images shows keeps = absurd cc
clear_again image kept forms.Keep is cleared images shows keeps = absurd cc
clear_again image kept (forms.Copy to from) is cleared images shows keeps = absurd cc
clear_again image kept (forms.Comp op to from) is cleared images shows keeps = absurd cc

-- an image whose pixels are clear
pub clear_shows : (image : Image Rgba8p) (width height : ℕ) → image.width ≡ width → image.height ≡ height
    → map color_numbers image.pixels ≡ replicate (height * width) (replicate 4 0) → Shows image (clear_picture width height)
clear_shows image width height wide high pixels = record {
  same_width = wide;
  same_height = high;
  points = λ x y lx ly.
      let place = y * image.width + x in
      let within : place < height * width = rw wide (place_within x y width height lx ly) in
      ap (λ (l : List (List ℕ)). get_or l place []) pixels ∙ get_or-replicate (height * width) place (replicate 4 0) [] within;
}

-- the text of an image that shows the picture of the commands after `image`
pub shown_text : (image : Image Rgba8p) (width height : ℕ) (commands : List Line) → Shows image (run_of width height commands)
    → picture_text (picture_of image) ≡ text_of (forms.Image width height ∷ commands)
shown_text image width height commands shows =
    picture_same (picture_of image) (run_of width height commands) shows.same_width shows.same_height shows.points

-- an image of the same sides whose pixels were all copied is the image
pub copied_whole : (kept image : Image Rgba8p) (ps : List Rgba8p) → kept.width ≡ image.width → kept.height ≡ image.height
    → length ps ≡ length kept.pixels → ps ≡ image.pixels → with_pixels kept ps ≡ image
copied_whole kept image ps wide high long same =
    let whole : refill (length kept.pixels) kept.pixels ps ≡ ps =
    take-append-le (length kept.pixels) ps (drop (length ps) kept.pixels) (omega (arith, long)) ∙ take_all (length kept.pixels) ps (omega (arith, long)) in
    parts kept.width image.width kept.height image.height _ image.pixels wide high (whole ∙ same)
  where
    parts : (w v h k : ℕ) (p q : List Rgba8p) → w ≡ v → h ≡ k → p ≡ q
        → ◌≡◌ {A = Image Rgba8p} (record { width = w; height = h; pixels = p }) (record { width = v; height = k; pixels = q })
    parts w v h k p q e f g = rw (e, f, g) refl
