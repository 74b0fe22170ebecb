use Rattle.pix_raster.proofs.raster.Raster.composite_color.Goals as goal

pub returns : goal.returns
returns g c = c.draw.ensures
