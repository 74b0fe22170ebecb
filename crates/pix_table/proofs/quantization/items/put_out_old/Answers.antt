-- Of `put_out_old`: that the invariant of its loop stays.
use Rattle.std.proofs.Common.{◌≡◌, ℕ, ◌+◌, ◌*◌, List, [], map, get_or, arith, sym, ap, ◌∙◌}
use Rattle.std.proofs.lemmas.List.{length-map, get_or-map}
use Rattle.std.proofs.lemmas.List.Sums.{sum_by_more}
use Rattle.pix_table.specs.quantization.Items.{counted_sum}
use Rattle.pix_table.proofs.quantization.items.put_out_old.Goals as goal

pub loop-i-preserved : goal.loop-i-preserved
loop-i-preserved g c =
    let i = c.loop-i.i in
    let xs = map g.C.Counted.parts c.args.colors.now in
    let out = c.count-out.result in
    let here : g.C.Counted.key_parts c.key.result ≡ get_or xs i [] =
    c.key.ensures ∙ ap g.C.Counted.parts c.index-colors-i.is
    ∙ sym (get_or-map g.C.Counted.parts c.loop-i.colors i c.index-colors-i.result [] (omega (arith, c.loop-i.auto.colors, c.loop-i-test.true)))
    ∙ c.loop-i.invariant.rest i (omega arith) in
    let total : (f : List ℕ → ℕ) → counted_sum g.C.Counted.key_parts f c.count-out.new.counts + out.count * f (g.C.Counted.key_parts out.key)
    ≡ counted_sum g.C.Counted.key_parts f c.loop-i.counts + f (get_or xs i []) =
    (λ f. c.count-out.ensures g.C.Counted.key_parts f ∙ ap (λ q. counted_sum g.C.Counted.key_parts f c.loop-i.counts + f q) here) in
    record {
      room = omega (arith, c.loop-i.invariant.room, c.put_item-items.ensures.room, total (λ q. 1));
      items = λ f. omega (
        arith,
        sum_by_more f xs i [] (omega (arith, length-map c.args.colors.now g.C.Counted.parts, c.loop-i-test.true)),
        c.loop-i.invariant.items f,
        total f,
        c.put_item-items.ensures.items f,
      );
      rest = λ k h. c.put_item-items.ensures.rest k (omega (arith, h, c.loop-i.invariant.room, total (λ q. 1))) ∙ c.loop-i.invariant.rest k (omega (arith, h));
    }
