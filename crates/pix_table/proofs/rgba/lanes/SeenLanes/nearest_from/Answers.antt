-- Of `SeenLanes::nearest_from`: the ends of the blocks that are searched, and that the entry is the nearest.
use Rattle.std.proofs.Common.{arith}
use Rattle.std.proofs.lemmas.List.{length-take-le, get_or-take}
use Rattle.pix_table.specs.matching.EntryLanes.{blocks_for}
use Rattle.pix_table.specs.SeenPixels.{seen_numbers}
use Rattle.pix_table.proofs.lemmas.matching.NearBlocks.{first_ends}
use Rattle.pix_table.proofs.lemmas.matching.SeenLaneEntries.{seen_nearest}
use Rattle.pix_table.proofs.rgba.lanes.SeenLanes.nearest_from.Goals as goal

pub nearest_near-requires-clause-near : goal.nearest_near-requires-clause-near
nearest_near-requires-clause-near c =
    let lanes = c.args.self.now in
    omega (arith, c.requires.near, length-take-le (blocks_for lanes.len) lanes.blocks (omega arith))

pub nearest_near-requires-clause-ends : goal.nearest_near-requires-clause-ends
nearest_near-requires-clause-ends c =
    let lanes = c.args.self.now in
    first_ends lanes.blocks c.args.ends.now (blocks_for lanes.len) (omega arith) c.requires.ends

pub returns : goal.returns
returns c = λ entries h.
    let lanes = c.args.self.now in
    seen_nearest entries lanes _ (seen_numbers c.args.clr) c.both_views.result.black c.both_views.result.white c.nearest_near.result h
    (length-take-le (blocks_for lanes.len) lanes.blocks (omega arith)) (λ k b. get_or-take (blocks_for lanes.len) lanes.blocks k _ b)
    c.both_views.ensures.black c.both_views.ensures.white c.nearest_near.ensures
