-- Of `EntryLanes::of`: that the invariant of its loop stays, and that the copy has the entries that
-- are chosen.
use Rattle.std.proofs.Common.{arith, ℕ, ◌*◌, ◌≡◌, ◌≤◌, sym, subst, map, length, length-set, inl, inr}
use Rattle.std.proofs.lemmas.Bool.{cases_lt}
use Rattle.pix_table.specs.matching.Nearest.{numbers}
use Rattle.pix_table.specs.threshold.ColorBlocks.{IsBlock}
use Rattle.pix_table.specs.matching.Lanes.{no_block}
use Rattle.pix_table.specs.matching.EntryLanes.{AreChosen, blocks_for}
use Rattle.pix_table.proofs.lemmas.matching.LaneEntries.{IsFilled, filled_chosen, set_below, set_there}
use Rattle.pix_table.proofs.matching.entry_lanes.EntryLanes.of.Goals as goal

pub loop-j-preserved : goal.loop-j-preserved
loop-j-preserved c = record {
  long = omega (arith, length-set c.loop-j.blocks c.loop-j.j c.new.result);
  made = λ k b.
      let colors = map numbers c.fill.new.self.colors in
      let blocks = c.loop-j.blocks in
      let j = c.loop-j.j in
      let new = c.new.result in
      elim (cases_lt k j) [
        | inl d ↦ subst (IsBlock colors (16 * k)) (sym (set_below blocks j k new no_block d)) (c.loop-j.invariant.made k d)
        | inr d ↦
            let z : j ≡ k = omega arith in
            subst (IsBlock colors (16 * k)) (sym (set_there blocks j k new no_block (omega arith) z)) (subst (λ n. IsBlock colors (16 * n) new) z c.new.ensures)
      ];
}

pub returns-clause-lanes : goal.returns-clause-lanes
returns-clause-lanes c = λ entries h.
    let old = c.args.chosen in
    let new = c.fill.new.self in
    let filled : IsFilled old.colors new.colors old.indices new.indices old.len = record {
      colors_before = c.fill.ensures.colors_before;
      indices_before = c.fill.ensures.indices_before;
      colors_behind = c.fill.ensures.colors_behind;
      indices_behind = c.fill.ensures.indices_behind;
    } in
    let chosen : (count : ℕ) → old.len ≤ count → count ≤ 256 → AreChosen entries (length entries) (map numbers new.colors) new.indices count =
    (λ count more few. filled_chosen entries (length entries) old.colors new.colors old.indices new.indices old.len count c.requires.some more few
    (omega arith) (omega arith) filled h) in
    record {
      colors = map numbers new.colors;
      blocks = λ k b. c.loop-j.invariant.made k (omega arith);
      chosen = chosen new.len (omega (arith, c.fill.ensures.len)) (omega (arith, c.fill.ensures.len));
      filled = chosen (16 * blocks_for new.len) (omega (arith, c.fill.ensures.len)) (omega (arith, c.fill.ensures.len));
    }
