use Rattle.std.proofs.Common.{◌≡◌, ◌+◌, ◌*◌, SFits, w32, get_or, refl, ap, rules}
use Rattle.std.specs.Prelude.{vec_len}
use lib.IntN.{nat_abs}
use Rattle.std.proofs.lemmas.Int.{to_z-of_z}
use Rattle.pix_raster.specs.Image.{Image, IsPoint}
use Rattle.pix_raster.specs.Written.{with_pixel}
use Rattle.pix_raster.proofs.Places.{point_within, pixel_read}
use Rattle.pix_raster.proofs.WrittenLemmas.{point_place}
use Rattle.pix_raster.proofs.raster.Raster.pixel_mut.Goals as goal

pub index_mut-requires : goal.index_mut-requires
index_mut-requires g c =
    let fx : SFits w32 c.args.x = c.ranges.x in
    let fy : SFits w32 c.args.y = c.ranges.y in
    simp to_z-of_z (rw c.self.invariant.0 (point_within _ c.args.x c.args.y (rw (← c.self.view_is) at c.requires)))

pub returns : goal.returns
returns g c =
    let fx : SFits w32 c.args.x = c.ranges.x in
    let fy : SFits w32 c.args.y = c.ranges.y in
    let a = c.self.inside in
    let image : Image g.row.P.Denot = record { width = a.width; height = a.height; pixels = a.pixels.items } in
    let r = c.index_mut.result.now in
    let there : IsPoint image c.args.x c.args.y = rw (← c.self.view_is) at c.requires in
    let read : r ≡ get_or a.pixels.items (nat_abs c.args.y * a.width + nat_abs c.args.x) r = simp to_z-of_z at c.index_mut.ensures.value in
    rw (← c.self.view_is) (
      (refl, λ v. simp to_z-of_z (ap (λ k. with_pixel image k v) (point_place image c.args.x c.args.y there))),
      record { lends = tt; now = pixel_read image c.args.x c.args.y (vec_len a.pixels) r there (search rules) c.self.invariant.0 read },
    )
