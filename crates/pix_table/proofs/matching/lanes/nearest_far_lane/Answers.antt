-- Of `nearest_far_lane`: that the invariant of its loop holds at first and stays, and that the lane
-- is the nearest.
use Rattle.std.proofs.Common.{arith, length, subst, ℕ, ◌*◌, ◌%◌, ◌≡◌}
use Rattle.pix_table.specs.matching.Lanes.{IsNearestLane, lane_distance}
use Rattle.pix_table.proofs.lemmas.matching.LaneSearch.{first_keys, keys_are, more_keys, nearest_of_wide_keys}
use Rattle.pix_table.proofs.matching.lanes.nearest_far_lane.Goals as goal

pub loop-j-init : goal.loop-j-init
loop-j-init g c =
    first_keys (λ block. g.B.LaneBlock.apart block c.args.sought) c.args.blocks.now c.index-blocks-0.result c.wide_keys-least.result c.requires.some c.index-blocks-0.is
    (keys_are (λ block. g.B.LaneBlock.apart block c.args.sought) c.index-blocks-0.result 0 c.wide_distances.result c.wide_keys-least.result c.wide_distances.ensures.each
    c.wide_keys-least.ensures.long c.wide_keys-least.ensures.each)

pub loop-j-preserved : goal.loop-j-preserved
loop-j-preserved g c =
    more_keys (λ block. g.B.LaneBlock.apart block c.args.sought) c.args.blocks.now c.loop-j.j c.index-blocks-j.result c.loop-j.least c.wide_keys.result c.lesser_wide-least.result
    c.loop-j-test.true c.index-blocks-j.is c.loop-j.invariant
    (keys_are (λ block. g.B.LaneBlock.apart block c.args.sought) c.index-blocks-j.result c.loop-j.j c.wide_distances-in-loop-j.result c.wide_keys.result c.wide_distances-in-loop-j.ensures.each
    c.wide_keys.ensures.long c.wide_keys.ensures.each)
    c.lesser_wide-least.ensures

pub returns : goal.returns
returns g c = λ none.
    let far : ℕ → ℕ = lane_distance (λ block. g.B.LaneBlock.apart block c.args.sought) none c.args.blocks.now in
    let all : c.loop-j.j ≡ length c.args.blocks.now = omega arith in
    subst (λ n. IsNearestLane far (16 * n) (c.least_of.result % 256)) all
    (nearest_of_wide_keys far c.loop-j.j c.loop-j.least c.least_of.result (omega arith) (c.loop-j.invariant.each none) c.least_of.ensures)
