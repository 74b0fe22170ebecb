-- Of `paint_by_bands`: its pixels, that the invariant of its loop over `first`
-- holds after each turn, and that a band is a window.
use Rattle.std.proofs.Common.{◌≡◌, ◌+◌, ◌*◌, ◌≤◌, length, arith, refl}
use Rattle.pix_raster.proofs.Bands.{band_fits, band_more}
use Rattle.pix_raster.proofs.view.paint_by_bands.Goals as goal

pub paint-requires-in-loop-first-clause-fits : goal.paint-requires-in-loop-first-clause-fits
paint-requires-in-loop-first-clause-fits g c =
    let window = c.args.window in
    let first = c.loop-first.first in
    let height = c.min-height.result in
    let begins : first * window.shape.stride + window.shape.width ≤ length c.args.pixels.now = c.requires.fits.shaped.last first (omega arith) in
    let low : first + height ≤ window.shape.height = omega (arith, c.min-height.ensures) in
    band_fits window first height (first * window.shape.stride) _ c.loop-first.pixels (rw c.loop-first.auto.pixels c.requires.fits) low refl (omega arith)

pub loop-first-preserved : goal.loop-first-preserved
loop-first-preserved g c =
    let window = c.args.window in
    let first = c.loop-first.first in
    let height = c.min-height.result in
    let begins : first * window.shape.stride + window.shape.width ≤ length c.args.pixels.now = c.requires.fits.shaped.last first (omega arith) in
    record {
      within = omega (arith, c.min-height.ensures);
      done = band_more g.W.Painting.reads window (g.W.Painting.makes c.args.work.now) first height (first * window.shape.stride) _ c.args.pixels.now c.loop-first.pixels c.paint-in-loop-first.new.pixels
          c.requires.fits.shaped.apart refl (omega arith) c.loop-first.invariant.done c.paint-in-loop-first.ensures;
    }

pub returns : goal.returns
returns g c = let e : c.loop-first.first ≡ c.args.window.shape.height = omega arith in rw e at c.loop-first.invariant.done
