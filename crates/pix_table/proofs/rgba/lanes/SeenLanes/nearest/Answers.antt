-- Of `SeenLanes::nearest`: that the entry is the nearest.
use Rattle.std.proofs.Common.{arith}
use Rattle.std.proofs.lemmas.List.{length-take-le, get_or-take}
use Rattle.pix_table.specs.matching.EntryLanes.{blocks_for}
use Rattle.pix_table.specs.SeenPixels.{seen_numbers}
use Rattle.pix_table.specs.matching.SeenLanes.{no_views}
use Rattle.pix_table.proofs.lemmas.matching.SeenLaneEntries.{seen_nearest}
use Rattle.pix_table.proofs.rgba.lanes.SeenLanes.nearest.Goals as goal

pub returns : goal.returns
returns c = λ entries h.
    let lanes = c.args.self.now in
    seen_nearest entries lanes _ (seen_numbers c.args.clr) c.both_views.result.black c.both_views.result.white c.nearest_lane.result h
    (length-take-le (blocks_for lanes.len) lanes.blocks (omega arith)) (λ k b. get_or-take (blocks_for lanes.len) lanes.blocks k _ b)
    c.both_views.ensures.black c.both_views.ensures.white (c.nearest_lane.ensures no_views)
