-- Of `add_pair`: that the items are those before and the pair.
use Rattle.std.proofs.Common.{◌≡◌, ◌+◌, ◌*◌, ◌++◌, ◌∷◌, [], ◌≢◌, All, sum_by, map, set, get_or, arith, sym, ap, ◌∙◌, subst}
use Rattle.std.specs.Simd.{first_chunks}
use Rattle.std.proofs.lemmas.List.{map-set, get_or-set_other}
use Rattle.pix_table.specs.quantization.Items.{IsItem, count_of, pair_items, spread}
use Rattle.pix_table.proofs.lemmas.quantization.PairItems.{items_more, pairs_more, sum_more}
use Rattle.pix_table.proofs.quantization.items.add_pair.Goals as goal

pub returns-clause-rest : goal.returns-clause-rest
returns-clause-rest g c = λ k behind.
    let parts = g.C.Counted.parts in
    let at = 2 * c.args.pairs in
    let xs = c.args.colors.now in
    ap (λ l. get_or l k []) (map-set parts (set xs at c.of_key.result) (at + 1) c.of_count.result)
    ∙ get_or-set_other (map parts (set xs at c.of_key.result)) (at + 1) k (parts c.of_count.result) [] (λ e. omega arith)
    ∙ ap (λ l. get_or l k []) (map-set parts xs at c.of_key.result)
    ∙ get_or-set_other (map parts xs) at k (parts c.of_key.result) [] (λ e. omega arith)

pub returns-clause-items : goal.returns-clause-items
returns-clause-items g c =
    let items = pair_items g.C.Counted.parts (first_chunks 2 c.args.pairs c.args.colors.now) in
    let color = g.C.Counted.parts c.of_key.result in
    let is : pair_items g.C.Counted.parts (first_chunks 2 (c.args.pairs + 1)
    (set (set c.args.colors.now (2 * c.args.pairs) c.of_key.result) (2 * c.args.pairs + 1) c.of_count.result))
    ≡ pair_items g.C.Counted.parts (first_chunks 2 c.args.pairs c.args.colors.now) ++ (g.C.Counted.parts c.of_key.result ++ c.args.out.count ∷ []) ∷ [] =
    pairs_more g.C.Counted.parts c.args.pairs c.args.colors.now c.of_key.result c.of_count.result (omega arith)
    ∙ ap (λ n. items ++ (color ++ n ∷ []) ∷ []) c.of_count.ensures in (
      omega arith,
      λ are. subst (All (IsItem g.C.Counted.channels)) (sym is)
          (items_more g.C.Counted.channels c.args.out.count items color c.of_key.ensures.long (omega arith) are),
      λ f. ap (λ l. sum_by f (spread g.C.Counted.channels l)) is
          ∙ sum_more g.C.Counted.channels c.args.out.count items color c.of_key.ensures.long f
          ∙ ap (λ x. sum_by f (spread g.C.Counted.channels items) + c.args.out.count * f x) c.of_key.ensures.color,
    )
