-- Runs of lists of commands on an image in memory.
use Rattle.std.specs.Prelude.{◌≡◌, ℕ, ◌+◌, ◌≤◌, List, [], map, slice_index_or}
use Rattle.pix_el.specs.Pixel.{Layout}
use Rattle.pix_raster.specs.Region.{whole}
use Rattle.pix_raster.specs.Image.{Changed}
use Rattle.pix_raster.specs.Run.{run_at}
use Rattle.pix_raster.specs.Claims.{IsImageRun}
use Rattle.pix_raster.specs.Window.{command_from}
use Rattle.pix_raster.specs.View.{IsNoPoint}
use Rattle.pix_flat.specs.declared.command.FlatCommand.{FlatCommand}
use Rattle.pix_flat.specs.Command.{image_of, command_of}

-- The run of a list of commands on an image in memory.
pub record IsRun {D M : Type 0} (layout : Layout) (numbers : D → List ℕ) (mattes : M → List ℕ) (width height stride : ℕ)
    (commands : List (FlatCommand D M)) (old new : List D) : Type 0 where
  -- the run on the image that lies there
  pub run : IsImageRun layout numbers mattes (map command_of commands) (image_of width height stride old) (image_of width height stride new)
  -- what stands between the rows and after them stays
  pub stays : (place : ℕ) → IsNoPoint (record { width = width; height = height; stride = stride }) place
      → slice_index_or (map numbers new) place [] ≡ slice_index_or (map numbers old) place []

-- The run of a list of commands on a window of a picture: its first pixel lies at the picture's
-- point (left, top). An image by itself is the window at (0, 0).
pub record IsWindowRun {D M : Type 0} (layout : Layout) (numbers : D → List ℕ) (mattes : M → List ℕ) (left top width height stride : ℕ)
    (commands : List (FlatCommand D M)) (old new : List D) : Type 0 where
  -- of each picture that has the window: at each point of the window, the effects of just those
  -- commands that reach the picture's point there
  pub fold : (picture_width picture_height : ℕ) → left + width ≤ picture_width → top + height ≤ picture_height
      → Changed numbers (image_of width height stride old) (image_of width height stride new)
      (λ x y. run_at layout numbers mattes (whole picture_width picture_height) (map command_of commands) (left + x) (top + y))
  -- and all that is claimed of a run on an image, for the commands as seen from the window
  pub run : IsImageRun layout numbers mattes (map (command_from left top) (map command_of commands))
      (image_of width height stride old) (image_of width height stride new)
  -- what stands between the rows and after them stays
  pub stays : (place : ℕ) → IsNoPoint (record { width = width; height = height; stride = stride }) place
      → slice_index_or (map numbers new) place [] ≡ slice_index_or (map numbers old) place []
  -- at the picture's point (0, 0), the run on the image itself
  pub image : left ≡ 0 → top ≡ 0 → IsRun layout numbers mattes width height stride commands old new
