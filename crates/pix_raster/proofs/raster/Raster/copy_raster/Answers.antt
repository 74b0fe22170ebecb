use Rattle.std.proofs.Common.{refl}
use Rattle.pix_raster.specs.Run.{Copied}
use Rattle.pix_raster.proofs.Steps.{changed_where_paired}
use Rattle.pix_raster.proofs.raster.Raster.copy_raster.Goals as goal

pub returns : goal.returns
returns g c =
    changed_where_paired g.P.Pixel.layout g.P.Pixel.numbers g.P.Pixel.numbers c.args.self.now c.blit_region.new.self c.args.to c.args.from c.args.src.now _ Copied c.blit_region.ensures (λ s p. refl)
