use Rattle.std.proofs.Common.{refl}
use Rattle.pix_raster.specs.Run.{Copied}
use Rattle.pix_raster.proofs.Steps.{changed_where_covered}
use Rattle.pix_raster.proofs.raster.Raster.copy_color.Goals as goal

pub returns : goal.returns
returns g c =
    changed_where_covered g.P.Pixel.layout g.P.Pixel.numbers c.args.self.now c.fill_region.new.self c.args.reg _ (Copied (g.P.Pixel.numbers c.args.clr)) c.fill_region.ensures (λ p. refl)
