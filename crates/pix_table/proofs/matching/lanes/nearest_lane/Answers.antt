-- Of `nearest_lane`: that the invariant of its loop holds at first and stays, and that the lane is
-- the nearest.
use Rattle.std.proofs.Common.{arith, length, subst, ℕ, ◌*◌, ◌%◌, ◌≡◌}
use Rattle.pix_table.specs.matching.Lanes.{IsNearestLane, lane_distance}
use Rattle.pix_table.proofs.lemmas.matching.LaneSearch.{first_in, lanes_more, nearest_of_lanes}
use Rattle.pix_table.proofs.matching.lanes.nearest_lane.Goals as goal

pub loop-j-init : goal.loop-j-init
loop-j-init g c =
    first_in (λ block. g.B.LaneBlock.apart block c.args.sought) c.args.blocks.now c.index-blocks-0.result c.distances-least.result c.requires.some
    c.index-blocks-0.is c.distances-least.ensures.long c.distances-least.ensures.each

pub loop-j-preserved : goal.loop-j-preserved
loop-j-preserved g c =
    lanes_more (λ block. g.B.LaneBlock.apart block c.args.sought) c.args.blocks.now c.loop-j.j c.index-blocks-j.result c.loop-j.least c.loop-j.at c.distances.result
    c.lesser-now.result c.blocks_of-at.result (omega arith) c.loop-j-test.true c.index-blocks-j.is c.loop-j.invariant c.distances.ensures.long c.distances.ensures.each
    c.lesser-now.ensures c.blocks_of-at.ensures.long c.blocks_of-at.ensures.each

pub keys-requires : goal.keys-requires
keys-requires g c = c.loop-j.invariant.few

pub returns : goal.returns
returns g c = λ none.
    let far : ℕ → ℕ = lane_distance (λ block. g.B.LaneBlock.apart block c.args.sought) none c.args.blocks.now in
    let all : c.loop-j.j ≡ length c.args.blocks.now = omega arith in
    subst (λ n. IsNearestLane far (16 * n) (c.least_of-key.result % 256)) all
    (nearest_of_lanes far c.loop-j.j c.loop-j.least c.loop-j.at c.keys.result c.least_of-key.result (c.loop-j.invariant.each none) c.keys.ensures
    c.least_of-key.ensures c.if-key-ge-FAR.false)
