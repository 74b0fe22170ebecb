-- Of `both`: that the sums fit, and that they are those of two boxes.
use Rattle.std.proofs.Common.{arith}
use Rattle.pix_table.proofs.lemmas.quantization.GroupLemmas.{few_seen, seen_box_count, two_seen}
use Rattle.pix_table.proofs.rgba.items.SeenSumsBoxSums.both.Goals as goal

pub and-requires-clause-count : goal.and-requires-clause-count
and-requires-clause-count c =
    let r = c.requires in omega (arith, seen_box_count r.0 c.args.self r.2, seen_box_count r.1 c.args.other r.3, r.4)

pub and-requires-clause-few : goal.and-requires-clause-few
and-requires-clause-few c = let r = c.requires in few_seen r.0 c.args.self r.2

pub and-requires-clause-more : goal.and-requires-clause-more
and-requires-clause-more c = let r = c.requires in few_seen r.1 c.args.other r.3

pub returns : goal.returns
returns c = λ a b p q.
    let e = c.and.ensures in two_seen a b c.args.self c.args.other c.and.result p q e.count e.red e.green e.blue e.alpha
