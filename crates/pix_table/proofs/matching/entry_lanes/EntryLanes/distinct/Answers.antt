-- Of `EntryLanes::distinct`: that the invariant of its loop stays, and that an entry is chosen.
use Rattle.std.proofs.Common.{arith, ◌<◌, ◌+◌, [], ◌∙◌, sym, ap, map, length, subst}
use Rattle.std.proofs.lemmas.List.{get_or-map, length-map}
use Rattle.pix_table.specs.declared.matching.candidates.Candidates.{Candidates}
use Rattle.pix_table.proofs.lemmas.matching.LaneEntries.{AreCandidatesBelow, one_chosen, one_passed}
use Rattle.pix_table.proofs.matching.entry_lanes.EntryLanes.distinct.Goals.{then-is_first, else-is_first}
use Rattle.pix_table.proofs.matching.entry_lanes.EntryLanes.distinct.Goals as goal

pub loop-i-preserved : goal.loop-i-preserved
loop-i-preserved g c =
    let read = g.C.TableColor.channels in
    let colors = c.args.colors.now in
    let i = c.loop-i.i in
    let chosen = c.loop-i.chosen in
    let is = c.color-clr.ensures ∙ ap read c.index-colors-i.is ∙ sym (get_or-map read colors i c.index-colors-i.result [] c.loop-i-test.true) in
    let stands : i < length (map read colors) = omega (arith, length-map colors read) in
    let Below : Candidates → Type 0 = λ x. AreCandidatesBelow (map read colors) (i + 1) x.colors x.indices x.len in
    elim c.if-is_first.branch [
      | then-is_first w ↦
          let more : Below w.add.new.self =
          rw (w.add.ensures.len, w.add.ensures.colors, w.add.ensures.indices)
          (one_chosen (map read colors) i chosen.colors chosen.indices chosen.len c.color-clr.result (omega arith) (omega arith) stands is
          c.loop-i.invariant.chosen) in
          record { len = omega (arith, ap (λ (x : Candidates). x.len) w.chosen-is, w.add.ensures.len); chosen = subst Below (sym w.chosen-is) more }
      | else-is_first w ↦
          let found = c.is_first.ensures w.if-is_first.false (map read colors) c.requires.copy in
          let same : Below chosen = one_passed (map read colors) i chosen.colors chosen.indices chosen.len found.0 c.color-clr.result stands is found.1 found.2 c.loop-i.invariant.chosen in
          record { len = omega (arith, ap (λ (x : Candidates). x.len) w.chosen-is); chosen = subst Below (sym w.chosen-is) same }
    ]
