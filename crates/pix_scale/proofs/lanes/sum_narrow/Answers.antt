use Rattle.std.proofs.Common.{slice_index, ◌*◌, length, get_or, ◌+◌, ◌-◌, arith, rules, ap, ◌∙◌}
use Rattle.pix_scale.specs.Axis.{total}
use Rattle.pix_scale.specs.Table.{row_term}
use Rattle.pix_scale.proofs.Sums.{room_of_all, summed_more, at_of_part}
use Rattle.pix_scale.proofs.LaneSums.{lanes_none}
use Rattle.pix_scale.proofs.lanes.sum_narrow.Goals as goal

pub loop-k-init : goal.loop-k-init
loop-k-init c = record { lanes = search rules; summed = lanes_none 4 _ _ }

pub add_narrow-acc-requires-clause-fits : goal.add_narrow-acc-requires-clause-fits
add_narrow-acc-requires-clause-fits c = λ x lt.
    omega (
      arith,
      c.requires.fits x lt,
      room_of_all c.loop-k.acc c.args.weights.now (slice_index c.args.sums.now) 4 c.loop-k.k (length c.args.weights.now) (omega arith) c.loop-k.invariant.summed x (omega (arith, lt, c.loop-k.invariant.lanes)),
      ap (λ v. get_or c.args.weights.now c.loop-k.k 0 * v) (at_of_part c.args.sums.now (c.loop-k.k * 4) (c.loop-k.k * 4 + 4 - c.loop-k.k * 4) x (omega (arith, lt))),
    )

pub loop-k-preserved : goal.loop-k-preserved
loop-k-preserved c = record {
  lanes = c.add_narrow-acc.ensures.lanes;
  summed = summed_more c.loop-k.acc _ _ _ _ _ _ (omega (arith, c.add_narrow-acc.ensures.lanes, c.loop-k.invariant.lanes)) c.loop-k.invariant.summed
      (λ x lt. at_of_part c.args.sums.now (c.loop-k.k * 4) _ x (omega (arith, lt, c.loop-k.invariant.lanes)))
      (λ x lt. c.add_narrow-acc.ensures.sums x (omega (arith, lt, c.loop-k.invariant.lanes)));
}

pub returns : goal.returns
returns c = record {
  lanes = c.loop-k.invariant.lanes;
  sums = λ x lt. c.loop-k.invariant.summed.at x (omega (arith, lt, c.loop-k.invariant.lanes)) ∙ ap (λ n. total n (row_term c.args.weights.now (slice_index c.args.sums.now) 4 x)) (omega arith);
}
