-- A run on rows in memory, as one on an image.
use Rattle.std.proofs.Common.{◌≡◌, ℕ, ◌+◌, ◌≤◌, ◌<◌, List, length, map, get_or, arith, ap, sym, ◌∙◌, refl}
use Rattle.std.proofs.lemmas.List.{length-map, get_or-map}
use Rattle.pix_el.specs.Pixel.{Layout}
use Rattle.pix_raster.specs.Region.{limit, whole}
use Rattle.pix_raster.specs.Image.{Image}
use Rattle.pix_raster.specs.Run.{run_at}
use Rattle.pix_raster.specs.Window.{command_from}
use Rattle.pix_raster.specs.Claims.{IsImageRun}
use Rattle.pix_raster.specs.View.{IsShaped, ChangedIn, largest}
use Rattle.pix_raster.specs.declared.command.Command.{Command}
use Rattle.pix_raster.specs.declared.view.Shape.{Shape}
use Rattle.pix_raster.proofs.RunBounds.{IsFormat}
use Rattle.pix_raster.proofs.Claimed.{claims}
use Rattle.pix_raster.proofs.Seen.{commands_there}
use Rattle.pix_raster.proofs.Pictures.{run_in_picture}
use Rattle.pix_raster.proofs.Windows.{RanIn, ran_on, ran_seen}
use Rattle.pix_raster.proofs.ViewImages.{point_read}
use Rattle.pix_flat.specs.declared.command.FlatCommand.{FlatCommand}
use Rattle.pix_flat.specs.Command.{image_of, command_of}
use Rattle.pix_flat.specs.Run.{IsWindowRun}

-- the command at place i of a list, as one of the library
pub told_at : {D M C : Type 0} (flat : C → FlatCommand D M) (cs : List C) (i : ℕ) (c : C) → i < length cs → c ≡ get_or cs i c
    → command_of (flat c) ≡ get_or (map command_of (map flat cs)) i (command_of (flat c))
told_at flat cs i c within is =
    let there : get_or (map flat cs) i (flat c) ≡ flat c = get_or-map flat cs i c (flat c) within ∙ ap flat (sym is) in
    sym (get_or-map command_of (map flat cs) i (flat c) (command_of (flat c)) (omega (arith, length-map cs flat)) ∙ ap command_of there)

pub count_told : {D M C : Type 0} (flat : C → FlatCommand D M) (cs : List C) → length (map command_of (map flat cs)) ≡ length cs
count_told flat cs = length-map (map flat cs) command_of ∙ length-map cs flat

-- commands that are seen from the window at the corner of a picture are those of the picture
at_corner : {D M : Type 0} (layout : Layout) (n : D → List ℕ) (m : M → List ℕ) (left top : ℕ) (cs : List (Command D M)) (before after : Image D) → left ≡ 0 → top ≡ 0
    → IsImageRun layout n m (map (command_from left top) cs) before after → IsImageRun layout n m cs before after
at_corner layout n m left top cs before after at_left at_top run =
    let same : map (command_from left top) cs ≡ cs = rw (at_left, at_top) (commands_there cs) in
    rw same at run

module _ {D M : Type 0} (layout : Layout) (n : D → List ℕ) (m : M → List ℕ) (left top width height stride : ℕ) (commands : List (FlatCommand D M)) (old new : List D) where
  abbrev shape : Shape
  shape = record { width = width; height = height; stride = stride }

  -- commands were done on a window of a picture
  abbrev AreDone : List (Command D M) → Type 0
  AreDone cs = ChangedIn n shape old new (λ x y. run_at layout n m largest cs (left + x) (top + y))

  -- and what follows of it
  pub ran_in_window : IsFormat layout n m → left + width ≤ 2147483647 → top + height ≤ 2147483647 → IsShaped shape (length old) → length new ≡ length old
      → AreDone (map command_of commands) → IsWindowRun layout n m left top width height stride commands old new
  ran_in_window format across down shaped long ran =
      let shaped_new : IsShaped shape (length new) = rw long shaped in
      let cs = map command_of commands in
      let before = image_of width height stride old in
      let after = image_of width height stride new in
      let here : RanIn layout n m left top cs before after = record {
        same_width = refl;
        same_height = refl;
        points = λ x y lx ly.
            point_read n width height stride new x y shaped_new lx ly
            ∙ ran.points x y lx ly
            ∙ sym (run_in_picture layout n m cs (left + width) (top + height) limit limit (left + x) (top + y) _ across down across down (omega arith) (omega arith))
            ∙ ap (run_at layout n m (whole (left + width) (top + height)) cs (left + x) (top + y)) (sym (point_read n width height stride old x y shaped lx ly));
      } in
      let run : IsImageRun layout n m (map (command_from left top) cs) before after =
      claims layout n m (map (command_from left top) cs) before after format (ran_seen layout n m left top cs before after across down here) in
      record {
        fold = λ picture_width picture_height wide high. ran_on layout n m left top cs before after across down here picture_width picture_height wide high;
        run = run;
        stays = ran.stays;
        image = λ at_left at_top. record { run = at_corner layout n m left top cs before after at_left at_top run; stays = ran.stays };
      }
