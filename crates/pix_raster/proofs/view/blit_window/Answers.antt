use Rattle.std.proofs.Common.{rules}
use Rattle.pix_raster.specs.View.{picture}
use Rattle.pix_raster.proofs.Overlaps.{changed_in_overlap}
use Rattle.pix_raster.proofs.view.blit_window.Goals as goal

pub returns-then-window-gt0 : goal.returns-then-window-gt0
returns-then-window-gt0 g c =
    let a = c.args in
    let o = c.overlap_in-overlap.ensures in
    changed_in_overlap a.to (picture a.window) a.from a.window.left a.window.top g.B.Blit.reads a.window.shape a.pixels.now c.blit_overlap.new.pixels
    g.B.Blit.source_reads a.src_shape a.src.now (g.B.Blit.makes a.change.now) c.overlap_in-overlap.result
    o.in_width o.in_height c.requires.fits.shaped.apart (search rules) o.points o.src_columns o.src_rows c.blit_overlap.ensures
