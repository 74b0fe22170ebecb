-- What follows of a run at each point.
use Rattle.std.proofs.Common.{ℕ, ◌≤◌, ◌+◌, List, map}
use Rattle.pix_el.specs.Pixel.{Layout}
use Rattle.pix_raster.specs.Image.{Image, Changed, region_of}
use Rattle.pix_raster.specs.Region.{limit}
use Rattle.pix_raster.specs.Run.{run_at}
use Rattle.pix_raster.specs.View.{ChangedIn, largest}
use Rattle.pix_raster.specs.Window.{command_from}
use Rattle.pix_raster.specs.Claims.{IsImageRun}
use Rattle.pix_raster.specs.declared.command.Command.{Command}
use Rattle.pix_raster.proofs.RunBounds.{IsFormat, keeps_premultiplied, within_budget, small_budget, within_premultiplied_bound}
use Rattle.pix_raster.proofs.Transparent.{stays_under_transparent}
use Rattle.pix_raster.proofs.Steps.{changed_swapped}
use Rattle.pix_raster.proofs.Windows.{ran_rows, ran_seen}

-- all that is claimed of a run
pub claims : {P M : Type 0} (layout : Layout) (n : P → List ℕ) (m : M → List ℕ) (cs : List (Command P M)) (old new : Image P)
    → IsFormat layout n m → Changed n old new (run_at layout n m (region_of old) cs) → IsImageRun layout n m cs old new
claims layout n m cs old new format done = record {
  fold = done;
  swapped = λ others e. changed_swapped layout n m old new cs others done e;
  premultiplied = keeps_premultiplied layout n m cs old new format done;
  within_budget = within_budget layout n m cs old new format done;
  small_budget = small_budget layout n m cs old new;
  premultiplied_bound = within_premultiplied_bound layout n m cs old new format done;
  transparent = stays_under_transparent layout n m cs old new format done;
}

-- so does all of what is painted in rows that follow one another
pub claimed_in_window : {P M : Type 0} (layout : Layout) (n : P → List ℕ) (m : M → List ℕ) (left top : ℕ) (cs : List (Command P M)) (width height : ℕ) (before after : List P)
    → left + width ≤ limit → top + height ≤ limit → IsFormat layout n m
    → ChangedIn n (record { width = width; height = height; stride = width }) before after (λ x y. run_at layout n m largest cs (left + x) (top + y))
    → IsImageRun layout n m (map (command_from left top) cs) (record { width = width; height = height; pixels = before }) (record { width = width; height = height; pixels = after })
claimed_in_window layout n m left top cs width height before after across down format painted =
    claims layout n m (map (command_from left top) cs) _ _ format
    (ran_seen layout n m left top cs _ _ across down (ran_rows layout n m left top cs width height before after across down painted))
