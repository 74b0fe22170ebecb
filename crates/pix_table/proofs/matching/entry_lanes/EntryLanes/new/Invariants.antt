-- What holds at each turn of the loop over `i` in `EntryLanes::new`.
use Rattle.std.specs.Prelude.{◌≡◌, map}
use Rattle.pix_table.proofs.lemmas.matching.LaneEntries.{AreCandidatesBelow}
use Rattle.pix_table.proofs.matching.entry_lanes.EntryLanes.new.Given as goal

-- the entries below the index are chosen
abbrev pub invariant-loop-i : goal.invariant-loop-i
invariant-loop-i g l = record {
  len : l.chosen.len ≡ l.i;
  chosen : AreCandidatesBelow (map g.C.TableColor.channels l.colors) l.i l.chosen.colors l.chosen.indices l.chosen.len;
}
