-- Of `box_weighs_at_most`: that the sums are few, and what the box weighs.
use Rattle.std.proofs.Common.{◌≤◌, arith, subst}
use Rattle.pix_table.proofs.lemmas.quantization.GroupLemmas.{few_seen, seen_box_count}
use Rattle.pix_table.proofs.lemmas.quantization.SeenWeights.{whole_weight}
use Rattle.pix_table.proofs.rgba.items.SeenSumsBoxSums.box_weighs_at_most.Goals as goal

pub weighs_at_most-requires-clause-some : goal.weighs_at_most-requires-clause-some
weighs_at_most-requires-clause-some c = let r = c.requires in omega (arith, r.1.some, seen_box_count r.0 c.args.self r.1)

pub weighs_at_most-requires-clause-few : goal.weighs_at_most-requires-clause-few
weighs_at_most-requires-clause-few c = let r = c.requires in few_seen r.0 c.args.self r.1

pub returns : goal.returns
returns c = λ h box is. subst (λ n. n ≤ c.args.most) (whole_weight box c.args.self is.seen is.whole) (c.weighs_at_most.ensures h)
