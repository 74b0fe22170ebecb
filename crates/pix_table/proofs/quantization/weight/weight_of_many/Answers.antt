use Rattle.pix_table.proofs.lemmas.quantization.Quotients.{three_over}
use Rattle.pix_table.proofs.quantization.weight.weight_of_many.Goals as goal

pub returns : goal.returns
returns c =
    three_over _ _ _ _ _ _ _ _ _ _ _ _ c.square_over-red.ensures.whole c.square_over-green.ensures.whole c.square_over-blue.ensures.whole c.divided-rests.ensures.whole c.divided-rests.ensures.rest
