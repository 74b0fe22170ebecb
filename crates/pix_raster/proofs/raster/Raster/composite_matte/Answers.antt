use Rattle.pix_raster.proofs.raster.Raster.composite_matte.Goals as goal

pub returns : goal.returns
returns g c = rw (c.source.ensures.image, c.source.ensures.region) at c.draw.ensures
