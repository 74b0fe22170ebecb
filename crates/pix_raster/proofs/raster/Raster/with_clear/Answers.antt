-- Of `Raster::with_clear`: the clause `ok`.
use Rattle.pix_raster.proofs.Clear.{clear_from_filled}
use Rattle.pix_raster.proofs.raster.Raster.with_clear.Goals as goal

pub returns-clause-ok : goal.returns-clause-ok
returns-clause-ok g c =
    clear_from_filled g.P.Pixel.numbers g.P.Pixel.layout.count c.args.width c.args.height c.default.result c.with_color.result
    (g.met.P.Pixel.default_is_clear c.default.result c.default.ensures) c.with_color.ensures.ok
