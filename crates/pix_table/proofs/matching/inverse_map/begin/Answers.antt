-- Of `begin`: the cells afterwards.
use Rattle.std.proofs.Common.{arith, map, List, length, ◌+◌, ◌<◌, ◌≡◌, ◌∙◌, ap, get_or}
use Rattle.std.proofs.lemmas.List.{length-map}
use Rattle.pix_table.specs.matching.Nearest.{numbers}
use Rattle.pix_table.specs.declared.matching.inverse_map.ShortList.{ShortList}
use Rattle.pix_table.proofs.lemmas.matching.ShortLists.{chosen_listed, empty_cells}
use Rattle.pix_table.proofs.matching.inverse_map.begin.Goals as goal

pub returns-clause-cells : goal.returns-clause-cells
returns-clause-cells c =
    let entries = map numbers c.args.entries.now in
    let lists = c.loop-p.cells.lists in
    let lanes = c.args.lanes.now in
    let h = c.requires.lanes in
    let some_entries : 0 < length entries = omega (arith, h.chosen.stands 0 (omega arith)) in
    empty_cells entries _ (ap length c.loop-p.invariant.known ∙ c.requires.cells.places) c.loop-p.invariant.long (omega arith)
    (λ some. record {
      few = omega arith;
      begun = omega arith;
      enough = λ color.
          chosen_listed entries h.colors lanes.indices color (λ p. get_or lists (0 + p) 0) lanes.len some_entries (omega (arith, length-map c.args.entries.now numbers)) h.chosen
          (λ p b. let z : 0 + p ≡ p = omega arith in ap (λ k. get_or lists k 0) z ∙ c.loop-p.invariant.written p (omega arith));
    })
    (λ k d b.
    let same = c.loop-p.invariant.known in
    ap (λ (ks : List ShortList). (get_or ks k d).count) same ∙ c.requires.cells.none c.requires.unused k d (omega (arith, ap length same, b)))
