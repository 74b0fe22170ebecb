-- Of `word_sum`: that the sum is that of the words below each value, and that it fits.
use Rattle.std.proofs.Common.{◌≡◌, ◌+◌, All, true, arith, sym, subst, ◌∙◌, lt-ltb}
use Rattle.pix_table.specs.quantization.BestPlaces.{is_below, sum_of, word_of}
use Rattle.pix_table.proofs.lemmas.quantization.SumLemmas.{sum_all, sum_next, sum_zero}
use Rattle.pix_table.proofs.lemmas.quantization.WordLemmas.{word_most}
use Rattle.pix_table.proofs.quantization.box_sums.word_sum.Goals as goal

pub loop-value-init : goal.loop-value-init
loop-value-init c = λ box h. sym (sum_zero c.args.k (word_of c.args.k) box)

pub overflow_add-sum : goal.overflow_add-sum
overflow_add-sum c =
    let box = c.requires.0 in
    let h = c.requires.1 in
    let v = c.loop-value.value in
    omega (
      arith,
      h.0,
      c.loop-value.invariant box h,
      h.2.each v c.loop-value-test.true,
      sum_next c.args.k v (word_of c.args.k) box,
      word_most (is_below c.args.k (v + 1)) c.args.k box h.1,
    )

pub loop-value-preserved : goal.loop-value-preserved
loop-value-preserved c = λ box h.
    let v = c.loop-value.value in
    omega (arith, c.loop-value.invariant box h, h.2.each v c.loop-value-test.true, sum_next c.args.k v (word_of c.args.k) box)

pub returns : goal.returns
returns c = λ box h.
    let k = c.args.k in
    let e : c.loop-value.value ≡ 256 = omega arith in
    let each : All (λ x. is_below c.args.k 256 x ≡ true) box = (λ j d inside. lt-ltb _ 256 (omega (arith, h.1 j d inside c.args.k))) in
    subst (λ v. c.loop-value.sum ≡ sum_of (is_below k v) (word_of k) box) e (c.loop-value.invariant box h) ∙ sum_all (is_below k 256) (word_of k) box each
