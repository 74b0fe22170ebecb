-- Of `Raster::intersection`: the clauses `inside` and `points`.
use Rattle.pix_raster.specs.Image.{Image, region_of}
use Rattle.pix_raster.proofs.Rectangles.{inside_image, covers-intersection_of}
use Rattle.pix_raster.proofs.raster.Raster.intersection.Goals as goal

pub returns-clause-inside : goal.returns-clause-inside
returns-clause-inside g c =
    let image : Image g.row.P.Denot = record { width = c.self.inside.width; height = c.self.inside.height; pixels = c.self.inside.pixels.items } in
    rw (c.clip.ensures, ← c.self.view_is) (inside_image c.args.reg image)

pub returns-clause-points : goal.returns-clause-points
returns-clause-points g c x y =
    let image : Image g.row.P.Denot = record { width = c.self.inside.width; height = c.self.inside.height; pixels = c.self.inside.pixels.items } in
    rw (c.clip.ensures, ← c.self.view_is) (covers-intersection_of c.args.reg (region_of image) x y)
