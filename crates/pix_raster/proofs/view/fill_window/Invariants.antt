-- What holds at each turn of the loop over `y` in `fill_window`.
use Rattle.std.proofs.Common.{◌≡◌, ℕ, ◌<◌, length}
use Rattle.pix_raster.specs.View.{read_at}
use Rattle.pix_raster.specs.Clip.{where_in}
use Rattle.pix_raster.proofs.view.fill_window.Given as goal

-- the rows above y are done
abbrev pub invariant-loop-y : goal.invariant-loop-y
invariant-loop-y g l =
    let n = g.F.Fill.reads in
    let stride = l.fn.window.shape.stride in
    record {
      long : length l.pixels ≡ length l.initial.pixels;
      done : (x y : ℕ) → x < stride → read_at n stride l.pixels x y
          ≡ where_in l.seen.columns (record { start = l.seen.rows.start; end = l.y }) (λ _ _. g.F.Fill.makes l.change) x y (read_at n stride l.initial.pixels x y);
    }
