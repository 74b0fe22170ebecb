-- Of `put_pair`: that the items are those before and the pair.
use Rattle.std.proofs.Common.{◌+◌, ◌*◌, map, arith, ap, ◌∙◌}
use Rattle.std.proofs.lemmas.List.{length-map}
use Rattle.pix_table.specs.quantization.Items.{item_sum}
use Rattle.pix_table.proofs.lemmas.quantization.ItemSums.{pair_put}
use Rattle.pix_table.proofs.quantization.items.put_pair.Goals as goal

pub returns-clause-items : goal.returns-clause-items
returns-clause-items g c = λ f.
    pair_put (map g.C.Counted.parts c.args.colors.now) (map g.C.Counted.parts c.step_over.new.colors) (map g.C.Counted.parts c.step_over-2.new.colors)
    (map g.C.Counted.parts c.write.new.colors) (map g.C.Counted.parts c.write-2.new.colors) c.args.items.pairs c.args.items.singles
    (g.C.Counted.parts c.args.clr) (g.C.Counted.parts c.of_count.result) (omega (arith, c.requires, length-map c.args.colors.now g.C.Counted.parts))
    c.step_over.ensures c.step_over-2.ensures c.write.ensures c.write-2.ensures f
    ∙ ap (λ n. item_sum f (map g.C.Counted.parts c.args.colors.now) c.args.items.pairs (c.args.items.pairs + c.args.items.singles) + n * f (g.C.Counted.parts c.args.clr))
    c.of_count.ensures
