-- Of `give_up`: the cells afterwards.
use Rattle.std.proofs.Common.{arith, map, ℕ, List, length, get_or, ◌+◌, ◌∙◌, ap, sym, subst}
use Rattle.pix_table.specs.matching.Nearest.{numbers}
use Rattle.pix_table.specs.matching.InverseMap.{AreEnough}
use Rattle.pix_table.proofs.lemmas.matching.ShortLists.{empty_cells}
use Rattle.pix_table.proofs.matching.inverse_map.give_up.Goals as goal

pub returns-clause-cells : goal.returns-clause-cells
returns-clause-cells c =
    let entries = map numbers c.args.entries.now in
    let old = c.args.cells.now in
    let new = c.loop-k.cells in
    let first = c.requires.cells.first c.requires.begun in
    let same = c.loop-k.invariant in
    empty_cells entries _ same.long (ap length same.lists ∙ c.requires.cells.lists) (omega arith)
    (λ some. record {
      few = omega (arith, first.few, same.first);
      begun = omega arith;
      enough = λ color.
          subst (λ n. AreEnough entries color (λ p. get_or new.lists (0 + p) 0) n) (sym same.first)
          (subst (λ (ls : List ℕ). AreEnough entries color (λ p. get_or ls (0 + p) 0) old.first) (sym same.lists) (first.enough color));
    })
    (λ k d b. same.empty k d (omega arith))
