use Rattle.std.proofs.Common.{rules}
use Rattle.pix_raster.proofs.Masked.{changed_in_masked}
use Rattle.pix_raster.proofs.view.masked.blit_masked.Goals as goal

pub returns-then-window-gt0 : goal.returns-then-window-gt0
returns-then-window-gt0 g c =
    let a = c.args in
    changed_in_masked a.window a.to a.src.now.from a.mask.now.from a.src.now.shape a.mask.now.shape c.masked_overlap_in.result.0 c.masked_overlap_in.result.1 c.masked_overlap_in.ensures
    g.B.MaskedBlit.reads a.pixels.now c.blit_rows.new.pixels g.B.MaskedBlit.source_reads a.src.now.pixels.now g.B.MaskedBlit.mask_reads a.mask.now.pixels.now (g.B.MaskedBlit.makes a.change.now)
    c.requires.fits.shaped.apart (search rules) c.blit_rows.ensures
