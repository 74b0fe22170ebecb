-- Of `product`: that it is at most the alpha.
use Rattle.std.proofs.Common.{arith}
use Rattle.pix_table.proofs.SeenColors.{product_few}
use Rattle.pix_table.proofs.rgba.color.product.Goals as goal

pub returns-clause-few : goal.returns-clause-few
returns-clause-few c = grind (arith, product_few c.args.number c.args.alpha (omega arith) (omega arith))
