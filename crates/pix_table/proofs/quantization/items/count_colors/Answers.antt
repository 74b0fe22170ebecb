-- Of `count_colors`: that few colors count one each.
use Rattle.std.proofs.Common.{◌≡◌, ◌+◌, length, map, sum_by, arith, sym, ap, ◌∙◌, take_all}
use Rattle.std.proofs.lemmas.List.{length-map}
use Rattle.pix_table.specs.quantization.Items.{item_sum}
use Rattle.pix_table.proofs.lemmas.quantization.ItemSums.{all_single}
use Rattle.pix_table.proofs.quantization.items.count_colors.Goals as goal

pub returns-then-colors-lt-FEW-clause-items : goal.returns-then-colors-lt-FEW-clause-items
returns-then-colors-lt-FEW-clause-items g c = λ f.
    let xs = map g.C.Counted.parts c.args.colors.now in
    let n = length c.args.colors.now in
    let e : 0 + n ≡ n = omega arith in
    sym (ap (item_sum f xs 0) e ∙ all_single f xs n (omega (arith, length-map c.args.colors.now g.C.Counted.parts))
    ∙ ap (sum_by f) (take_all n xs (omega (arith, length-map c.args.colors.now g.C.Counted.parts))))
