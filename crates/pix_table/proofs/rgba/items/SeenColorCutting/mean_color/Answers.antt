-- Of `mean_color`: the mean by the sums.
use Rattle.std.proofs.Common.{arith}
use Rattle.pix_table.proofs.lemmas.quantization.GroupLemmas.{few_seen, seen_box_count}
use Rattle.pix_table.proofs.lemmas.quantization.SeenWeights.{whole_mean}
use Rattle.pix_table.proofs.rgba.items.SeenColorCutting.mean_color.Goals as goal

pub mean-requires-clause-some : goal.mean-requires-clause-some
mean-requires-clause-some c = let r = c.requires in omega (arith, r.1.some, seen_box_count r.0 c.args.sums r.1)

pub mean-requires-clause-few : goal.mean-requires-clause-few
mean-requires-clause-few c = let r = c.requires in few_seen r.0 c.args.sums r.1

pub returns : goal.returns
returns c = λ box is.
    let e = c.mean.ensures in
    rw (e.red, e.green, e.blue, e.alpha) (whole_mean box c.args.sums is.whole)
