-- Of `both`: that the sums fit, and that they are those of two boxes.
use Rattle.std.proofs.Common.{arith}
use Rattle.pix_table.proofs.lemmas.quantization.GroupLemmas.{box_count, two_few_sums, two_sums}
use Rattle.pix_table.proofs.quantization.color_items.SumsBoxSums.both.Goals as goal

pub and-requires-clause-few : goal.and-requires-clause-few
and-requires-clause-few c =
    let r = c.requires in omega (arith, box_count r.0 c.args.self r.2, box_count r.1 c.args.other r.3, r.4)

pub and-requires-clause-red : goal.and-requires-clause-red
and-requires-clause-red c = let r = c.requires in (two_few_sums r.0 r.1 c.args.self c.args.other r.2 r.3).0

pub and-requires-clause-green : goal.and-requires-clause-green
and-requires-clause-green c = let r = c.requires in (two_few_sums r.0 r.1 c.args.self c.args.other r.2 r.3).1

pub and-requires-clause-blue : goal.and-requires-clause-blue
and-requires-clause-blue c = let r = c.requires in (two_few_sums r.0 r.1 c.args.self c.args.other r.2 r.3).2

pub returns : goal.returns
returns c = λ a b p q.
    let e = c.and.ensures in two_sums a b c.args.self c.args.other c.and.result p q e.count e.red e.green e.blue
