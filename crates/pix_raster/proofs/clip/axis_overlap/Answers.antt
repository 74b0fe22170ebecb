-- Of `axis_overlap`: the clauses `points` and `sources`.
use Rattle.std.proofs.Common.{◌≡◌, ℕ, ℤ, pos, ◌+ℤ◌, ◌+◌, ◌-◌, arith, SFits, w32, to_z, of_z}
use Rattle.std.proofs.lemmas.Int.{ints, to_z-of_z}
use Rattle.pix_raster.proofs.Overlaps.{none_meet, points_meet, sources_meet}
use Rattle.pix_raster.proofs.clip.axis_overlap.Goals as goal

-- a place, from that of the number that the call is handed
place_of : (coordinate : ℤ) (first place : ℕ) → SFits w32 coordinate → pos (first + place) ≡ to_z w32 (of_z w32 coordinate) +ℤ pos 4294967296
    → pos (first + place) ≡ coordinate +ℤ pos 4294967296
place_of coordinate first place fits e = simp to_z-of_z at e

-- the same for a source, which is seen from 0
src_place_of : (coordinate : ℤ) (place : ℕ) → SFits w32 coordinate → pos (0 + place) ≡ to_z w32 (of_z w32 coordinate) +ℤ pos 4294967296
    → pos place ≡ coordinate +ℤ pos 4294967296
src_place_of coordinate place fits e = let h = place_of coordinate 0 place fits e in omega (arith, ints, h)

pub returns-then-end-start-clause-points : goal.returns-then-end-start-clause-points
returns-then-end-start-clause-points c =
    none_meet c.args.to c.args.from c.args.to_len c.args.first c.args.count c.args.from_len c.args.src_count c.place-near.result c.place-src_near.result c.saturating_sub-start.result c.min-end.result
    (place_of c.args.to c.args.first _ c.ranges.to c.place-near.ensures) (src_place_of c.args.from _ c.ranges.from c.place-src_near.ensures) (omega arith) (omega arith) (omega arith)

pub returns-clause-points : goal.returns-clause-points
returns-clause-points c =
    points_meet c.args.to c.args.from c.args.to_len c.args.first c.args.count c.args.from_len c.args.src_count c.place-near.result c.place-src_near.result c.saturating_sub-start.result c.min-end.result
    (place_of c.args.to c.args.first _ c.ranges.to c.place-near.ensures) (src_place_of c.args.from _ c.ranges.from c.place-src_near.ensures) (omega arith) (omega arith) (omega arith)
    _ (c.place-src_near.result + c.saturating_sub-start.result - 4294967296) (omega arith) (omega arith)

pub returns-clause-sources : goal.returns-clause-sources
returns-clause-sources c =
    sources_meet c.args.to c.args.from c.args.to_len c.args.first c.args.count c.args.from_len c.args.src_count c.place-near.result c.place-src_near.result c.saturating_sub-start.result c.min-end.result
    (place_of c.args.to c.args.first _ c.ranges.to c.place-near.ensures) (src_place_of c.args.from _ c.ranges.from c.place-src_near.ensures) (omega arith) (omega arith) (omega arith)
    _ _ (omega arith) (omega arith)
