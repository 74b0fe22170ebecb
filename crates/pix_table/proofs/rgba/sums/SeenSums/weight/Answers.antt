-- Of `SeenSums::weight`: that few colors weigh little.
use Rattle.std.proofs.Common.{◌+◌, ◌*◌, ◌≤◌, arith}
use Rattle.pix_table.proofs.lemmas.quantization.SeenWeights.{both_little}
use Rattle.pix_table.proofs.rgba.sums.SeenSums.weight.Goals as goal

pub overflow_add-result : goal.overflow_add-result
overflow_add-result c =
    let few : c.weight-black.result + c.weight.result ≤ 390150 * c.args.self.count =
    both_little c.args.self c.requires.few c.weight-black.result c.weight.result c.weight-black.ensures c.weight.ensures in
    omega (arith, few)

pub returns-clause-few : goal.returns-clause-few
returns-clause-few c = both_little c.args.self c.requires.few c.weight-black.result c.weight.result c.weight-black.ensures c.weight.ensures
