-- Of `box_weighs_at_most`: that the sums are few, and what the box weighs.
use Rattle.std.proofs.Common.{◌≤◌, arith, subst}
use Rattle.pix_table.proofs.lemmas.quantization.BoxSumLemmas.{whole_weight}
use Rattle.pix_table.proofs.lemmas.quantization.GroupLemmas.{box_count, few_sums}
use Rattle.pix_table.proofs.quantization.color_items.SumsBoxSums.box_weighs_at_most.Goals as goal

pub weighs_at_most-requires-clause-some : goal.weighs_at_most-requires-clause-some
weighs_at_most-requires-clause-some c = let r = c.requires in omega (arith, r.1.some, box_count r.0 c.args.self r.1)

pub weighs_at_most-requires-clause-red : goal.weighs_at_most-requires-clause-red
weighs_at_most-requires-clause-red c = let r = c.requires in (few_sums r.0 c.args.self r.1).0

pub weighs_at_most-requires-clause-green : goal.weighs_at_most-requires-clause-green
weighs_at_most-requires-clause-green c = let r = c.requires in (few_sums r.0 c.args.self r.1).1

pub weighs_at_most-requires-clause-blue : goal.weighs_at_most-requires-clause-blue
weighs_at_most-requires-clause-blue c = let r = c.requires in (few_sums r.0 c.args.self r.1).2

pub returns : goal.returns
returns c = λ h box is. subst (λ n. n ≤ c.args.most) (whole_weight box c.args.self is.whole) (c.weighs_at_most.ensures h)
