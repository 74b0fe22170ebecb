-- Of `visit_with_lists`: that the matcher is right.
use Rattle.std.proofs.Common.{arith, ℕ, ap, sym, subst}
use Rattle.std.proofs.lemmas.Simd.{length-replicate, get_or-replicate}
use Rattle.pix_table.specs.matching.EntryLanes.{AreLanes}
use Rattle.pix_table.specs.declared.matching.inverse_map.ShortList.{ShortList}
use Rattle.pix_table.proofs.lemmas.matching.ShortLists.{empty_cells}
use Rattle.pix_table.proofs.matching.matcher.visit_with_lists.Goals as goal

pub invariant_of-matcher : goal.invariant_of-matcher
invariant_of-matcher g c =
    let none : ShortList = record { start = 0; count = 0 } in (
      c.requires.some,
      c.requires.few,
      c.colors_of-entries.ensures.long,
      c.words_of-words.ensures,
      subst (λ es. AreLanes es c.args.lanes) (sym c.colors_of-entries.ensures.colors) c.requires.lanes,
      empty_cells _ _ (length-replicate 37440 none) (length-replicate {A = ℕ} 65539 0) (omega arith) (λ b. absurd (omega arith))
          (λ k d b. ap (λ (k : ShortList). k.count) (get_or-replicate 37440 k none d (omega (arith, length-replicate 37440 none)))),
    )
