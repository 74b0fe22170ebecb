-- What holds at each turn of the loop over `first` in `paint_by_bands`, and its measure.
use Rattle.std.proofs.Common.{◌≤◌, ◌-◌}
use Rattle.pix_raster.specs.View.{ChangedIn, in_window}
use Rattle.pix_raster.specs.declared.view.Shape.{Shape}
use Rattle.pix_raster.proofs.view.paint_by_bands.Given as goal

-- the rows above `first` are painted
abbrev pub invariant-loop-first : goal.invariant-loop-first
invariant-loop-first g l =
    let shape = l.fn.window.shape in
    let painted : Shape = record { width = shape.width; height = l.first; stride = shape.stride } in
    record {
      within : l.first ≤ shape.height;
      done : ChangedIn g.W.Painting.reads painted l.initial.pixels l.pixels (in_window l.fn.window (g.W.Painting.makes l.work));
    }

abbrev pub decreases-loop-first : goal.decreases-loop-first
decreases-loop-first g l = l.fn.window.shape.height - l.first
