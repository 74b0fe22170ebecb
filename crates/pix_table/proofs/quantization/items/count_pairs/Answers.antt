-- Of `count_pairs`: that the same sums make the same colors.
use Rattle.std.proofs.Common.{map, sym, ◌∙◌}
use Rattle.std.specs.Prelude.{⊤}
use Rattle.std.specs.Simd.{first_chunks}
use Rattle.pix_table.specs.quantization.Items.{pair_items, spread}
use Rattle.pix_table.proofs.lemmas.quantization.PairItems.{same_sums}
use Rattle.pix_table.proofs.lemmas.quantization.TableRounds.{of_some}
use Rattle.pix_table.proofs.quantization.items.count_pairs.Goals as goal

pub returns-in-Some : goal.returns-in-Some
returns-in-Some g c =
    of_some ⊤ _ _
    (λ n h. (
      h.0,
      h.1,
      same_sums (map g.C.Counted.parts c.args.colors.now) (spread g.C.Counted.channels (pair_items g.C.Counted.parts (first_chunks 2 n c.pairs_of_all.new.colors)))
          (λ f. c.in-Some.ensures.2 f ∙ sym (h.2 f)),
    ))
    c.pairs_of_all.result c.pairs_of_all.ensures
