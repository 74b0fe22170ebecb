use Rattle.std.proofs.Common.{slice_index, ◌*◌, ◌^◌, arith, rules, ap, ◌∙◌}
use Rattle.pix_scale.specs.Axis.{total}
use Rattle.pix_scale.specs.Table.{row_term}
use Rattle.pix_scale.proofs.Sums.{room, summed_more, below_32, at_of_part}
use Rattle.pix_scale.proofs.LaneSums.{lanes_none}
use Rattle.pix_scale.proofs.lanes.sum_both.Goals as goal

pub loop-k-init : goal.loop-k-init
loop-k-init c = record { lanes = search rules; summed = lanes_none 4 _ _; taken_lanes = search rules; taken_summed = lanes_none 4 _ _ }

pub add_lanes-added-requires-clause-fits : goal.add_lanes-added-requires-clause-fits
add_lanes-added-requires-clause-fits c = λ x lt.
    omega (
      arith,
      c.requires.plus_fits,
      room c.loop-k.added c.args.plus.now (slice_index c.args.sums.now) 4 c.loop-k.k (2 ^ 32) (omega arith)
          (below_32 c.args.sums.now c.type_inv.sums) c.loop-k.invariant.summed x (omega (arith, lt, c.loop-k.invariant.lanes)),
    )

pub add_lanes-taken-requires-clause-fits : goal.add_lanes-taken-requires-clause-fits
add_lanes-taken-requires-clause-fits c = λ x lt.
    omega (
      arith,
      c.requires.minus_fits,
      room c.loop-k.taken c.args.minus.now (slice_index c.args.sums.now) 4 c.loop-k.k (2 ^ 32) (omega (arith, c.requires.same))
          (below_32 c.args.sums.now c.type_inv.sums) c.loop-k.invariant.taken_summed x (omega (arith, lt, c.loop-k.invariant.taken_lanes)),
    )

pub loop-k-preserved : goal.loop-k-preserved
loop-k-preserved c = record {
  lanes = c.add_lanes-added.ensures.lanes;
  summed = summed_more c.loop-k.added _ _ _ _ _ _ (omega (arith, c.add_lanes-added.ensures.lanes, c.loop-k.invariant.lanes)) c.loop-k.invariant.summed
      (λ x lt. at_of_part c.args.sums.now (c.loop-k.k * 4) _ x (omega (arith, lt, c.loop-k.invariant.lanes)))
      (λ x lt. c.add_lanes-added.ensures.sums x (omega (arith, lt, c.loop-k.invariant.lanes)));
  taken_lanes = c.add_lanes-taken.ensures.lanes;
  taken_summed = summed_more c.loop-k.taken _ _ _ _ _ _ (omega (arith, c.add_lanes-taken.ensures.lanes, c.loop-k.invariant.taken_lanes)) c.loop-k.invariant.taken_summed
      (λ x lt. at_of_part c.args.sums.now (c.loop-k.k * 4) _ x (omega (arith, lt, c.loop-k.invariant.taken_lanes)))
      (λ x lt. c.add_lanes-taken.ensures.sums x (omega (arith, lt, c.loop-k.invariant.taken_lanes)));
}

pub returns : goal.returns
returns c = record {
  lanes = c.loop-k.invariant.lanes;
  taken_lanes = c.loop-k.invariant.taken_lanes;
  added = λ x lt. c.loop-k.invariant.summed.at x (omega (arith, lt, c.loop-k.invariant.lanes)) ∙ ap (λ n. total n (row_term c.args.plus.now (slice_index c.args.sums.now) 4 x)) (omega arith);
  taken = λ x lt. c.loop-k.invariant.taken_summed.at x (omega (arith, lt, c.loop-k.invariant.taken_lanes)) ∙ ap (λ n. total n (row_term c.args.minus.now (slice_index c.args.sums.now) 4 x)) (omega (arith, c.requires.same));
}
