use Rattle.std.proofs.Common.{◌∙◌}
use Rattle.pix_raster.specs.Image.{Image}
use Rattle.pix_raster.proofs.WrittenLemmas.{walk_fits, walk_is}
use Rattle.pix_raster.proofs.raster.Raster.rows.Goals as goal

pub invariant_of-result : goal.invariant_of-result
invariant_of-result g c =
    let f = c.new-clipped.ensures in
    walk_fits c.deref.result.now c.self.inside.width c.self.inside.height c.new-clipped.result (c.deref.ensures.len ∙ c.self.invariant.0) f.ordered f.from_top f.in_width f.in_height

pub returns : goal.returns
returns g c =
    let f = c.new-clipped.ensures in
    let a = c.self.inside in
    let image : Image g.row.P.Denot = record { width = a.width; height = a.height; pixels = a.pixels.items } in
    let fits = walk_fits c.deref.result.now a.width a.height c.new-clipped.result (c.deref.ensures.len ∙ c.self.invariant.0) f.ordered f.from_top f.in_width f.in_height in
    let walk = walk_is image c.args.reg c.new-clipped.result c.deref.result.now c.deref.ensures.value f.left f.right f.top f.bottom f.in_width fits.2 in
    rw (← c.self.view_is) (record { rows = walk.rows; count = walk.count; wide = walk.wide })
