use Rattle.std.proofs.Common.{ap, length, List, sym, ◌∙◌}
use Rattle.pix_raster.specs.Image.{Image}
use Rattle.pix_raster.proofs.ViewImages.{dense_rows}
use Rattle.pix_raster.proofs.raster.Raster.source.Goals as goal

pub returns-clause-image : goal.returns-clause-image
returns-clause-image g c =
    let image = c.args.self.now in
    rw (c.width.ensures.value, c.width-2.ensures.value, c.height.ensures.value, c.pixels.ensures.pixels)
    (ap (λ (l : List g.row.P.Denot). let i : Image g.row.P.Denot = record { width = image.width; height = image.height; pixels = l } in i)
    (dense_rows image.width image.height image.pixels (ap length (sym c.pixels.ensures.pixels) ∙ c.pixels.ensures.count)))
