-- Of `row_places`: the clauses `start` and `end`.
use Rattle.std.proofs.Common.{◌≡◌, false, refl, SFits, w32}
use Rattle.std.proofs.lemmas.Int.{to_z-of_z}
use Rattle.pix_raster.specs.Region.{has_row, whole, intersection_of}
use Rattle.pix_raster.proofs.WrittenLemmas.{no_row}
use Rattle.pix_raster.proofs.clip.row_places.Goals as goal

-- the region has no such row
none : (c : goal.Joined-then-row-clipped) → has_row (intersection_of c.args.reg (whole c.args.width c.args.height)) c.args.y ≡ false
none c =
    let fy : SFits w32 c.args.y = c.ranges.y in
    let f = c.new-clipped.ensures in
    no_row (intersection_of c.args.reg (whole c.args.width c.args.height)) c.args.y (simp to_z-of_z at c.if-y-lt0.false) (rw (f.top, f.bottom) at (simp to_z-of_z at c.then-row-clipped.either))

pub returns-then-row-clipped-clause-start : goal.returns-then-row-clipped-clause-start
returns-then-row-clipped-clause-start c = rw (none c) refl

pub returns-then-row-clipped-clause-end : goal.returns-then-row-clipped-clause-end
returns-then-row-clipped-clause-end c = rw (none c) refl
