-- Of `update_pairs`: one pair more.
use Rattle.std.proofs.Common.{◌+◌, ◌<◌, length, arith, ◌∙◌, sym, subst}
use Rattle.std.proofs.lemmas.List.{get_or-set_other}
use Rattle.pix_table.specs.quantization.Pairs.{IsPairOf, skip}
use Rattle.pix_table.proofs.lemmas.quantization.PairLemmas.{set_each, skip_near}
use Rattle.pix_table.proofs.quantization.joins.update_pairs.Goals as goal

pub loop-k-preserved : goal.loop-k-preserved
loop-k-preserved g c = record {
  are = λ old new joined groups pairs.
      let near = skip_near c.args.j c.loop-k.k in
      set_each (λ m p. m + 1 < length new → IsPairOf g.S.BoxSums.weigh new m p) c.loop-k.pairs c.loop-k.k c.updated_pair.result
      (omega (arith, c.loop-k-test.true, c.loop-k.auto.pairs, c.requires.room)) (c.loop-k.invariant.are old new joined groups pairs)
      (λ later. c.updated_pair.ensures old new joined groups
      (subst (λ p. IsPairOf g.S.BoxSums.weigh old (skip c.args.j c.loop-k.k) p) (sym (c.loop-k.invariant.rest c.loop-k.k _ (omega arith)))
      (pairs.each c.loop-k.k _ (omega (arith, near.1, later, joined.many)))));
  rest = λ m d h.
      get_or-set_other c.loop-k.pairs c.loop-k.k m c.updated_pair.result d (λ e. omega (arith, e, h)) ∙ c.loop-k.invariant.rest m d (omega (arith, h));
}
