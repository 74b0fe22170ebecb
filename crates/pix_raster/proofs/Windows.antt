-- Runs on a window of a picture.
use Rattle.std.proofs.Common.{ℕ, ◌<◌, ◌≤◌, ◌+◌, List, map, arith, refl, ap, sym, ◌∙◌}
use Rattle.pix_el.specs.Pixel.{Layout}
use Rattle.pix_raster.specs.Region.{limit, whole}
use Rattle.pix_raster.specs.Image.{Image, Changed, region_of}
use Rattle.pix_raster.specs.Run.{run_at}
use Rattle.pix_raster.specs.View.{ChangedIn, largest}
use Rattle.pix_raster.specs.Window.{IsPartOf, command_from}
use Rattle.pix_raster.specs.declared.command.Command.{Command}
use Rattle.pix_raster.proofs.Pictures.{run_in_picture}
use Rattle.pix_raster.proofs.Seen.{run_seen}

module _ {P M : Type 0} (layout : Layout) (n : P → List ℕ) (m : M → List ℕ) (left top : ℕ) (cs : List (Command P M)) (old new : Image P) where
  -- at each point of the window, the run on a picture of that size
  abbrev pub RanOn : ℕ → ℕ → Type 0
  RanOn width height = Changed n old new (λ x y. run_at layout n m (whole width height) cs (left + x) (top + y))

  -- it was done, on the smallest picture that has the window
  abbrev pub RanIn : Type 0
  RanIn = RanOn (left + old.width) (top + old.height)

  module _ (across : left + old.width ≤ limit) (down : top + old.height ≤ limit) (ran : RanIn) where
    -- on each picture that has it
    pub ran_on : (width height : ℕ) → left + old.width ≤ width → top + old.height ≤ height → RanOn width height
    ran_on width height wide high = record {
      same_width = ran.same_width;
      same_height = ran.same_height;
      points = λ x y lx ly.
          ran.points x y lx ly
          ∙ run_in_picture layout n m cs (left + old.width) (top + old.height) width height (left + x) (top + y) _ across down wide high (omega arith) (omega arith);
    }

    -- it is a run on the window, of the commands as seen from there
    pub ran_seen : Changed n old new (run_at layout n m (region_of old) (map (command_from left top) cs))
    ran_seen = record {
      same_width = ran.same_width;
      same_height = ran.same_height;
      points = λ x y lx ly. ran.points x y lx ly ∙ run_seen left top old.width old.height x y across down lx ly layout n m cs _;
    }

    -- a part of a picture, after it, is that part of the picture after the run on the whole
    pub stays_part : (before after : Image P) → IsPartOf n old left top before
        → Changed n before after (run_at layout n m (region_of before) cs) → IsPartOf n new left top after
    stays_part before after part whole_run =
        let here = ran_on before.width before.height part.across part.down in
        record {
          across = omega (arith, ran.same_width, whole_run.same_width, part.across);
          down = omega (arith, ran.same_height, whole_run.same_height, part.down);
          points = λ x y lx ly.
              let in_width : x < old.width = omega (arith, ran.same_width, lx) in
              let in_height : y < old.height = omega (arith, ran.same_height, ly) in
              let wide : left + old.width ≤ before.width = part.across in
              let high : top + old.height ≤ before.height = part.down in
              here.points x y in_width in_height
              ∙ ap (run_at layout n m (region_of before) cs (left + x) (top + y)) (part.points x y in_width in_height)
              ∙ sym (whole_run.points (left + x) (top + y) (omega arith) (omega arith));
        }

-- what is painted in rows that follow one another, was done on an image
pub ran_rows : {P M : Type 0} (layout : Layout) (n : P → List ℕ) (m : M → List ℕ) (left top : ℕ) (cs : List (Command P M)) (width height : ℕ) (before after : List P)
    → left + width ≤ limit → top + height ≤ limit
    → ChangedIn n (record { width = width; height = height; stride = width }) before after (λ x y. run_at layout n m largest cs (left + x) (top + y))
    → RanIn layout n m left top cs (record { width = width; height = height; pixels = before }) (record { width = width; height = height; pixels = after })
ran_rows layout n m left top cs width height before after across down painted = record {
  same_width = refl;
  same_height = refl;
  points = λ x y lx ly.
      painted.points x y lx ly
      ∙ sym (run_in_picture layout n m cs (left + width) (top + height) limit limit (left + x) (top + y) _ across down across down (omega arith) (omega arith));
}
