use Rattle.std.proofs.Common.{◌≡◌, ◌*◌, length, arith, sym, ap, ◌∙◌}
use Rattle.pix_scale.proofs.SignedTables.{rows_sound}
use Rattle.pix_scale.proofs.signed_table.signed_table.Goals as goal

pub write_signed_table-requires-clause-plus : goal.write_signed_table-requires-clause-plus
write_signed_table-requires-clause-plus c = c.requires.plus ∙ ap (λ z. length c.args.firsts.now * z) (sym c.taps-count.ensures.value)

pub write_signed_table-requires-clause-minus : goal.write_signed_table-requires-clause-minus
write_signed_table-requires-clause-minus c = c.requires.minus ∙ ap (λ z. length c.args.firsts.now * z) (sym c.taps-count.ensures.value)

pub returns : goal.returns
returns c = record {
  sound =
      let plus : length c.args.plus.now ≡ length c.args.firsts.now * c.taps-count.result = c.requires.plus ∙ ap (λ z. length c.args.firsts.now * z) (sym c.taps-count.ensures.value) in
      let minus : length c.args.minus.now ≡ length c.args.firsts.now * c.taps-count.result = c.requires.minus ∙ ap (λ z. length c.args.firsts.now * z) (sym c.taps-count.ensures.value) in
      let a = ap (λ z. z * c.taps-count.result) c.write_signed_table.auto.firsts in
      rows_sound c.args.filter c.args.places c.args.n c.args.m c.args.at c.taps-count.result c.write_signed_table.new.firsts c.write_signed_table.new.plus c.write_signed_table.new.minus
      (omega (arith, c.write_signed_table.auto.plus, plus, a)) (omega (arith, c.write_signed_table.auto.minus, minus, a))
      (λ i lt. c.write_signed_table.ensures i (omega (arith, lt, c.write_signed_table.auto.firsts)));
  rows = c.write_signed_table.ensures;
}
