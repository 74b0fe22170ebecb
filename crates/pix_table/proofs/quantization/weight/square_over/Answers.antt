use Rattle.std.proofs.Common.{arith}
use Rattle.pix_table.proofs.lemmas.quantization.Quotients.{square_over, square_is_small}
use Rattle.pix_table.proofs.quantization.weight.square_over.Goals as goal

pub overflow_mul-result : goal.overflow_mul-result
overflow_mul-result c =
    omega (arith, square_is_small c.args.sum c.args.count _ _ _ _ c.requires.some c.requires.sum c.divided-mean.ensures.whole c.divided-part.ensures.whole)

pub overflow_add-result-2 : goal.overflow_add-result-2
overflow_add-result-2 c =
    omega (arith, square_is_small c.args.sum c.args.count _ _ _ _ c.requires.some c.requires.sum c.divided-mean.ensures.whole c.divided-part.ensures.whole)

pub returns-clause-whole : goal.returns-clause-whole
returns-clause-whole c = square_over _ _ _ _ _ _ c.divided-mean.ensures.whole c.divided-part.ensures.whole

pub returns-clause-few : goal.returns-clause-few
returns-clause-few c = square_is_small _ _ _ _ _ _ c.requires.some c.requires.sum c.divided-mean.ensures.whole c.divided-part.ensures.whole
