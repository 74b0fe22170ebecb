-- What holds at each turn of the loop over `y` in `blit_overlap`.
use Rattle.std.proofs.Common.{◌≡◌, ℕ, ◌<◌, ◌+◌, ◌-◌, length}
use Rattle.pix_raster.specs.View.{read_at}
use Rattle.pix_raster.specs.Clip.{where_in}
use Rattle.pix_raster.proofs.view.blit_overlap.Given as goal

-- the rows above y are done
abbrev pub invariant-loop-y : goal.invariant-loop-y
invariant-loop-y g l =
    let n = g.B.Blit.reads in
    let m = g.B.Blit.source_reads in
    let columns = l.fn.overlap.columns in
    let rows = l.fn.overlap.rows in
    record {
      long : length l.pixels ≡ length l.initial.pixels;
      done : (x y : ℕ) → x < l.stride → read_at n l.stride l.pixels x y
          ≡ where_in columns.dst (record { start = rows.dst.start; end = l.y })
          (λ a b. g.B.Blit.makes l.change (read_at m l.src_stride l.src
          (columns.src_start + (a - columns.dst.start)) (rows.src_start + (b - rows.dst.start))))
          x y (read_at n l.stride l.initial.pixels x y);
    }
