use Rattle.std.proofs.Common.{◌≡◌, ◌+◌, ◌-◌, ◌*◌, length, arith, ap, sym, subst, ◌∙◌}
use Rattle.std.proofs.lemmas.Nat.{row_fits}
use Rattle.pix_scale.specs.Axis.{axis_of}
use Rattle.pix_scale.proofs.Sums.{length_part}
use Rattle.pix_scale.proofs.Terms.{Pixels, made_none, made_more, pixels_none}
use Rattle.pix_scale.proofs.Parts.{rows_more}
use Rattle.pix_scale.proofs.Tables.{table_is, tap_at}
use Rattle.pix_scale.proofs.table.write_table.Goals as goal

pub loop-i-init : goal.loop-i-init
loop-i-init c = record { made = made_none _ _; rows = pixels_none _ _ _ }

pub loop-i-preserved : goal.loop-i-preserved
loop-i-preserved c =
    let i = c.loop-i.i in
    let taps = c.taps-taps.result in
    let row = row_fits i taps (length c.args.firsts.now) taps c.loop-i-test.true (omega arith) in
    let long : length c.args.weights.now ≡ length c.args.firsts.now * taps = c.requires.table ∙ ap (λ t. length c.args.firsts.now * t) (sym c.taps-taps.ensures.value) in
    let part = length_part c.loop-i.weights (i * taps) (i * taps + taps - i * taps) (omega (arith, row, long)) in
    record {
      made = made_more _ _ _ _ (omega arith) c.loop-i.invariant.made c.weigh-first.ensures.first;
      rows = rows_more taps _ i _ c.loop-i.weights c.weigh-first.new.row (omega (arith, row, long)) (omega (arith, part)) c.loop-i.invariant.rows
          (λ k lt. c.weigh-first.ensures.row.weighs k (omega (arith, part, lt))
          ∙ ap (λ f. (axis_of c.args.side.kernel c.args.side.places c.args.side.n c.args.side.m).weight (c.args.at + i) (f + k)) c.weigh-first.ensures.first);
    }

pub returns : goal.returns
returns c =
    table_is c.args.side.kernel c.args.side.places c.args.size c.args.side.n c.args.side.m c.args.at c.loop-i.i _ _ c.requires.side (omega arith) (omega arith)
    c.loop-i.invariant.made
    (subst (λ t. Pixels c.loop-i.weights t (tap_at c.args.side.kernel c.args.side.places c.args.side.n c.args.side.m c.args.at) c.loop-i.i) c.taps-taps.ensures.value c.loop-i.invariant.rows)
