-- Of `box_weight`: that the sums are few, and what the box weighs.
use Rattle.std.proofs.Common.{arith, ◌∙◌}
use Rattle.pix_table.proofs.lemmas.quantization.GroupLemmas.{few_seen, seen_box_count}
use Rattle.pix_table.proofs.lemmas.quantization.SeenWeights.{whole_weight}
use Rattle.pix_table.proofs.rgba.items.SeenSumsBoxSums.box_weight.Goals as goal

pub weight-requires-clause-some : goal.weight-requires-clause-some
weight-requires-clause-some c = let r = c.requires in omega (arith, r.1.some, seen_box_count r.0 c.args.self r.1)

pub weight-requires-clause-few : goal.weight-requires-clause-few
weight-requires-clause-few c = let r = c.requires in few_seen r.0 c.args.self r.1

pub returns-clause-weight : goal.returns-clause-weight
returns-clause-weight c = λ box is. c.weight.ensures.weight ∙ whole_weight box c.args.self is.seen is.whole

pub returns-clause-few : goal.returns-clause-few
returns-clause-few c = λ box is. omega (arith, c.weight.ensures.few, seen_box_count box c.args.self is)
