-- Of `find_pairs`: one pair more, and all of them at the end.
use Rattle.std.proofs.Common.{◌+◌, ◌<◌, length, arith}
use Rattle.pix_table.specs.quantization.Pairs.{IsPairOf}
use Rattle.pix_table.proofs.lemmas.quantization.PairLemmas.{set_each}
use Rattle.pix_table.proofs.quantization.joins.find_pairs.Goals as goal

pub loop-k-preserved : goal.loop-k-preserved
loop-k-preserved g c = λ boxes are.
    set_each (λ m p. m + 1 < length boxes → IsPairOf g.S.BoxSums.weigh boxes m p) c.loop-k.pairs c.loop-k.k c.find_pair.result
    (omega (arith, c.loop-k-test.true, c.loop-k.auto.pairs, c.requires.room)) (c.loop-k.invariant boxes are) (λ later. c.find_pair.ensures boxes are)

pub returns : goal.returns
returns g c = λ boxes are. record {
  each = λ k d later. c.loop-k.invariant boxes are k d (omega (arith, are.many, c.loop-k-test.false, later)) later;
}
