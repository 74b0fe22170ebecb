-- Of `put_out`: that an item that counts one is a color.
use Rattle.std.proofs.Common.{◌≡◌, ◌+◌, ◌*◌, map, arith, sym, ap, ◌∙◌}
use Rattle.std.proofs.lemmas.List.{length-map}
use Rattle.pix_table.specs.quantization.Items.{item_sum}
use Rattle.pix_table.proofs.lemmas.quantization.ItemSums.{single_put}
use Rattle.pix_table.proofs.quantization.items.put_item.Goals as goal

pub returns-then-out-eq1-clause-items : goal.returns-then-out-eq1-clause-items
returns-then-out-eq1-clause-items g c = λ f.
    let p = c.args.items.pairs in
    let s = c.args.items.singles in
    let xs = map g.C.Counted.parts c.args.colors.now in
    let ys = map g.C.Counted.parts c.put_single.new.colors in
    let color = g.C.Counted.key_parts c.args.out.key in
    let more : item_sum f ys p (p + (s + 1)) ≡ item_sum f xs p (p + s) + f (g.C.Counted.parts c.of_key.result) =
    single_put f xs ys p s (g.C.Counted.parts c.of_key.result) (omega (arith, length-map c.args.colors.now g.C.Counted.parts)) c.put_single.ensures.written in
    let once : f (g.C.Counted.parts c.of_key.result) ≡ c.args.out.count * f color =
    ap f c.of_key.ensures.color ∙ (let one : f color ≡ 1 * f color = omega arith in one) ∙ ap (λ n. n * f color) (sym c.if-out-eq1.true) in
    ap (λ q. item_sum f ys q (q + c.put_single.result.singles)) c.put_single.ensures.pairs ∙ ap (λ n. item_sum f ys p (p + n)) c.put_single.ensures.singles
    ∙ more ∙ ap (λ n. item_sum f xs p (p + s) + n) once
