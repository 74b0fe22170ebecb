use Rattle.std.proofs.Common.{arith}
use Rattle.pix_table.proofs.lemmas.quantization.Quotients.{one_more}
use Rattle.pix_table.proofs.quantization.weight.divided.Goals as goal
use Rattle.pix_table.proofs.quantization.weight.divided.Goals.{then-by-rest, else-by-rest}

pub overflow_mul-whole : goal.overflow_mul-whole
overflow_mul-whole c = omega (arith, one_more _ _ _ _ _ c.loop-i-test.true c.requires c.loop-i.invariant.divided)

pub overflow_mul-rest : goal.overflow_mul-rest
overflow_mul-rest c = omega (arith, one_more _ _ _ _ _ c.loop-i-test.true c.requires c.loop-i.invariant.divided)

pub overflow_add-rest : goal.overflow_add-rest
overflow_add-rest c = omega (arith, one_more _ _ _ _ _ c.loop-i-test.true c.requires c.loop-i.invariant.divided)

pub overflow_add-whole : goal.overflow_add-whole
overflow_add-whole c = omega (arith, one_more _ _ _ _ _ c.loop-i-test.true c.requires c.loop-i.invariant.divided)

pub loop-i-preserved : goal.loop-i-preserved
loop-i-preserved c =
    let turn = one_more _ _ _ _ _ c.loop-i-test.true c.requires c.loop-i.invariant.divided in
    elim c.if-by-rest.branch [
      | then-by-rest w ↦ record { divided = rw (w.whole-is, w.rest-is) (omega (arith, turn)); rest = omega arith }
      | else-by-rest w ↦ record { divided = rw (w.whole-is, w.rest-is) (omega (arith, turn)); rest = omega arith }
    ]
