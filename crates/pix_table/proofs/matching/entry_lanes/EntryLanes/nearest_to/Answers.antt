-- Of `EntryLanes::nearest_to`: that the entry is the nearest.
use Rattle.std.proofs.Common.{ℕ, List, [], ◌∷◌, arith, sym, subst, get_or}
use Rattle.std.proofs.lemmas.List.{length-take-le, get_or-take}
use Rattle.pix_table.specs.matching.Nearest.{IsNearest}
use Rattle.pix_table.specs.matching.EntryLanes.{blocks_for}
use Rattle.pix_table.specs.matching.Lanes.{no_block}
use Rattle.pix_table.proofs.lemmas.matching.LaneEntries.{nearest_entry}
use Rattle.pix_table.proofs.matching.entry_lanes.EntryLanes.nearest_to.Goals as goal

pub returns : goal.returns
returns c = λ entries h.
    let lanes = c.args.self.now in
    let clr : List ℕ = c.args.red ∷ c.args.green ∷ c.args.blue ∷ [] in
    subst (λ p. IsNearest entries clr (get_or lanes.indices p 0)) (sym c.from.ensures)
    (nearest_entry entries lanes _ clr _ h
    (length-take-le (blocks_for lanes.len) lanes.blocks (omega arith)) (λ k b. get_or-take (blocks_for lanes.len) lanes.blocks k _ b) (c.nearest_lane-lane.ensures no_block))
