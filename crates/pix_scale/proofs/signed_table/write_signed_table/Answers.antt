use Rattle.std.proofs.Common.{◌≡◌, ℕ, ◌+◌, ◌-◌, ◌*◌, length, take, drop, slice_index, arith, subst}
use Rattle.std.proofs.lemmas.Nat.{row_fits}
use Rattle.pix_scale.specs.SignedTable.{IsFilterRow}
use Rattle.pix_scale.proofs.Sums.{length_part}
use Rattle.pix_scale.proofs.SignedTables.{rows_none, rows_more}
use Rattle.pix_scale.proofs.signed_table.write_signed_table.Goals as goal

pub loop-i-init : goal.loop-i-init
loop-i-init c = rows_none _ _ _ _ _ _ _ _ _

pub returns : goal.returns
returns c = λ i lt. c.loop-i.invariant.rows i (omega arith)

pub loop-i-preserved : goal.loop-i-preserved
loop-i-preserved c =
    let i = c.loop-i.i in
    let taps = c.args.taps in
    let k : ℕ = i * taps + taps - i * taps in
    let row = row_fits i taps (length c.args.firsts.now) taps c.loop-i-test.true (omega arith) in
    let p = length_part c.loop-i.plus (i * taps) k (omega (arith, row, c.requires.plus)) in
    let q = length_part c.loop-i.minus (i * taps) k (omega (arith, row, c.requires.minus)) in
    rows_more c.args.filter c.args.places c.args.n c.args.m c.args.at taps c.loop-i.firsts c.loop-i.plus c.loop-i.minus c.weigh_signed-first.new.plus c.weigh_signed-first.new.minus
    i k k c.weigh_signed-first.result (omega arith) (omega (arith, row, c.requires.plus)) (omega (arith, row, c.requires.minus))
    (omega (arith, c.weigh_signed-first.auto.plus, p)) (omega (arith, c.weigh_signed-first.auto.minus, q)) c.loop-i.invariant
    (subst (λ z. IsFilterRow c.args.filter c.args.places c.args.n c.args.m (c.args.at + i) c.weigh_signed-first.result z (slice_index c.weigh_signed-first.new.plus) (slice_index c.weigh_signed-first.new.minus))
    (let e : length (take k (drop (i * taps) c.loop-i.plus)) ≡ taps = omega (arith, p) in e) c.weigh_signed-first.ensures)
