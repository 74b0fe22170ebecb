-- Of `box_weight`: that the sums are few, and what the box weighs.
use Rattle.std.proofs.Common.{arith, ◌∙◌}
use Rattle.pix_table.proofs.lemmas.quantization.BoxSumLemmas.{whole_weight}
use Rattle.pix_table.proofs.lemmas.quantization.GroupLemmas.{box_count, few_sums}
use Rattle.pix_table.proofs.quantization.color_items.SumsBoxSums.box_weight.Goals as goal

pub weight-requires-clause-some : goal.weight-requires-clause-some
weight-requires-clause-some c = let r = c.requires in omega (arith, r.1.some, box_count r.0 c.args.self r.1)

pub weight-requires-clause-red : goal.weight-requires-clause-red
weight-requires-clause-red c = let r = c.requires in (few_sums r.0 c.args.self r.1).0

pub weight-requires-clause-green : goal.weight-requires-clause-green
weight-requires-clause-green c = let r = c.requires in (few_sums r.0 c.args.self r.1).1

pub weight-requires-clause-blue : goal.weight-requires-clause-blue
weight-requires-clause-blue c = let r = c.requires in (few_sums r.0 c.args.self r.1).2

pub returns-clause-weight : goal.returns-clause-weight
returns-clause-weight c = λ box is. c.weight.ensures.weight ∙ whole_weight box c.args.self is.whole

pub returns-clause-few : goal.returns-clause-few
returns-clause-few c = λ box is. omega (arith, c.weight.ensures.few, box_count box c.args.self is)
