-- Of `masked_overlap`: the clauses `points`, `sources` and `masks`.
use Rattle.std.proofs.Common.{◌≡◌, ℕ, ℤ, pos, ◌+ℤ◌, ◌+◌, ◌-◌, arith, FitsSigned, w32, to_z, of_z, rules}
use Rattle.std.proofs.lemmas.Int.{ints, to_z-of_z}
use Rattle.pix_raster.proofs.MaskedOverlaps.{none_meet, points_meet, sources_meet, masks_meet}
use Rattle.pix_raster.proofs.clip.masked.masked_overlap.Goals as goal

-- a place, from that of the number that the call is handed
place_of : (coordinate : ℤ) (first place : ℕ) → FitsSigned w32 coordinate → pos (first + place) ≡ to_z w32 (of_z w32 coordinate) +ℤ pos 4294967296
    → pos (first + place) ≡ coordinate +ℤ pos 4294967296
place_of coordinate first place fits e = simp to_z-of_z at e

-- the same for a source or a mask, which is seen from 0
src_place_of : (coordinate : ℤ) (place : ℕ) → FitsSigned w32 coordinate → pos (0 + place) ≡ to_z w32 (of_z w32 coordinate) +ℤ pos 4294967296
    → pos place ≡ coordinate +ℤ pos 4294967296
src_place_of coordinate place fits e = let h = place_of coordinate 0 place fits e in omega (arith, ints, h)

pub returns-then-end-start-clause-points : goal.returns-then-end-start-clause-points
returns-then-end-start-clause-points c =
    let from = c.args.from in
    let mask = c.args.mask in
    none_meet c.args.to from.start mask.start c.args.to_len c.args.first c.args.count from.len from.count mask.len mask.count
    c.place-near.result c.place-src_near.result c.place-mask_near.result c.saturating_sub-start.result c.min-end.result
    (place_of c.args.to c.args.first _ (search rules) c.place-near.ensures) (src_place_of from.start _ (search rules) c.place-src_near.ensures)
    (src_place_of mask.start _ (search rules) c.place-mask_near.ensures) (omega arith) (omega arith) (omega arith)

pub returns-clause-points : goal.returns-clause-points
returns-clause-points c =
    let from = c.args.from in
    let mask = c.args.mask in
    points_meet c.args.to from.start mask.start c.args.to_len c.args.first c.args.count from.len from.count mask.len mask.count
    c.place-near.result c.place-src_near.result c.place-mask_near.result c.saturating_sub-start.result c.min-end.result
    (place_of c.args.to c.args.first _ (search rules) c.place-near.ensures) (src_place_of from.start _ (search rules) c.place-src_near.ensures)
    (src_place_of mask.start _ (search rules) c.place-mask_near.ensures) (omega arith) (omega arith) (omega arith)
    _ (c.place-src_near.result + c.saturating_sub-start.result - 4294967296) (c.place-mask_near.result + c.saturating_sub-start.result - 4294967296) (omega arith) (omega arith) (omega arith)

pub returns-clause-sources : goal.returns-clause-sources
returns-clause-sources c =
    let from = c.args.from in
    let mask = c.args.mask in
    sources_meet c.args.to from.start mask.start c.args.to_len c.args.first c.args.count from.len from.count mask.len mask.count
    c.place-near.result c.place-src_near.result c.place-mask_near.result c.saturating_sub-start.result c.min-end.result
    (place_of c.args.to c.args.first _ (search rules) c.place-near.ensures) (src_place_of from.start _ (search rules) c.place-src_near.ensures)
    (src_place_of mask.start _ (search rules) c.place-mask_near.ensures) (omega arith) (omega arith) (omega arith)
    _ _ (c.place-mask_near.result + c.saturating_sub-start.result - 4294967296) (omega arith) (omega arith) (omega arith)

pub returns-clause-masks : goal.returns-clause-masks
returns-clause-masks c =
    let from = c.args.from in
    let mask = c.args.mask in
    masks_meet c.args.to from.start mask.start c.args.to_len c.args.first c.args.count from.len from.count mask.len mask.count
    c.place-near.result c.place-src_near.result c.place-mask_near.result c.saturating_sub-start.result c.min-end.result
    (place_of c.args.to c.args.first _ (search rules) c.place-near.ensures) (src_place_of from.start _ (search rules) c.place-src_near.ensures)
    (src_place_of mask.start _ (search rules) c.place-mask_near.ensures) (omega arith) (omega arith) (omega arith)
    _ (c.place-src_near.result + c.saturating_sub-start.result - 4294967296) _ (omega arith) (omega arith) (omega arith)
