use Rattle.std.proofs.Common.{◌≡◌, ◌+◌, ◌*◌, SFits, w32, get_or, rules}
use Rattle.std.specs.Prelude.{vec_len}
use lib.IntN.{nat_abs}
use Rattle.std.proofs.lemmas.Int.{to_z-of_z}
use Rattle.pix_raster.specs.Image.{Image}
use Rattle.pix_raster.proofs.Places.{point_within, pixel_read}
use Rattle.pix_raster.proofs.raster.Raster.pixel.Goals as goal

pub index-requires : goal.index-requires
index-requires g c =
    let fx : SFits w32 c.args.x = c.ranges.x in
    let fy : SFits w32 c.args.y = c.ranges.y in
    simp to_z-of_z (rw c.self.invariant.0 (point_within _ c.args.x c.args.y (rw (← c.self.view_is) at c.requires)))

pub returns : goal.returns
returns g c =
    let fx : SFits w32 c.args.x = c.ranges.x in
    let fy : SFits w32 c.args.y = c.ranges.y in
    let a = c.self.inside in
    let image : Image g.row.P.Denot = record { width = a.width; height = a.height; pixels = a.pixels.items } in
    let r = c.index.result.now in
    let read : r ≡ get_or a.pixels.items (nat_abs c.args.y * a.width + nat_abs c.args.x) r = simp to_z-of_z at c.index.ensures in
    rw (← c.self.view_is) (pixel_read image c.args.x c.args.y (vec_len a.pixels) r (rw (← c.self.view_is) at c.requires) (search rules) c.self.invariant.0 read)
