-- Of `EntryLanes::new`: that the invariant of its loop stays.
use Rattle.std.proofs.Common.{arith, [], ◌∙◌, sym, ap, map}
use Rattle.std.proofs.lemmas.List.{get_or-map, length-map}
use Rattle.pix_table.proofs.lemmas.matching.LaneEntries.{one_chosen}
use Rattle.pix_table.proofs.matching.entry_lanes.EntryLanes.new.Goals as goal

pub loop-i-preserved : goal.loop-i-preserved
loop-i-preserved g c =
    let read = g.C.TableColor.channels in
    let colors = c.args.colors.now in
    let i = c.loop-i.i in
    let chosen = c.loop-i.chosen in
    let is = c.color.ensures ∙ ap read c.index-colors-i.is ∙ sym (get_or-map read colors i c.index-colors-i.result [] c.loop-i-test.true) in
    record {
      len = omega (arith, c.add.ensures.len);
      chosen =
          rw (c.add.ensures.len, c.add.ensures.colors, c.add.ensures.indices)
          (one_chosen (map read colors) i chosen.colors chosen.indices chosen.len c.color.result (omega arith) (omega arith)
          (omega (arith, length-map colors read)) is c.loop-i.invariant.chosen);
    }
