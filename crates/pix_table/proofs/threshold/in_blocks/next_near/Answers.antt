-- Of `next_near`: the look-up of a group, and that the blocks which are passed over are far.
use Rattle.std.proofs.Common.{◌-◌, arith, inl, inr}
use Rattle.std.proofs.lemmas.Bool.{cases_lt}
use Rattle.pix_table.specs.matching.Nearest.{numbers}
use Rattle.pix_table.proofs.lemmas.matching.BlockBoundLemmas.{group_far, no_spans}
use Rattle.pix_table.proofs.threshold.in_blocks.next_near.Goals as goal

pub bounds-spans-k : goal.bounds-spans-k
bounds-spans-k c = c.requires.spans.enough c.loop-k.k c.loop-k-test.true

pub returns-in-Some-clause-far : goal.returns-in-Some-clause-far
returns-in-Some-clause-far c = λ i d after before. elim (cases_lt i c.loop-k.k) [
  | inl b ↦ c.loop-k.invariant.far i d after b
  | inr b ↦
      let m = c.min-end.result - c.loop-k.k in
      group_far c.args.blocks.now c.args.spans.now no_spans c.loop-k.k m c.in-Some.near c.near_bits.result (numbers c.args.clr) (numbers c.args.least) _ _
      c.requires.spans c.reach.ensures (omega (arith, c.in-Some.ensures.0)) (omega (arith, c.in-Some.ensures.0)) (omega (arith, c.in-Some.ensures.0)) c.near_bits.ensures c.in-Some.ensures.1 i d b before
]

pub loop-k-preserved : goal.loop-k-preserved
loop-k-preserved c = record {
  order = omega (arith, c.loop-k.invariant.order);
  within = omega arith;
  far = λ i d after before. elim (cases_lt i c.loop-k.k) [
    | inl b ↦ c.loop-k.invariant.far i d after b
    | inr b ↦
        let m = c.min-end.result - c.loop-k.k in
        group_far c.args.blocks.now c.args.spans.now no_spans c.loop-k.k m m c.near_bits.result (numbers c.args.clr) (numbers c.args.least) _ _
        c.requires.spans c.reach.ensures (omega arith) (omega arith) (omega arith) c.near_bits.ensures
        (λ j e inside set. c.in_default.ensures j e (omega (arith, inside)) set) i d b (omega arith)
  ];
}
