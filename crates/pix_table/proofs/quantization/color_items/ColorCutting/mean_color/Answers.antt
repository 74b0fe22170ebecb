-- Of `mean_color`: the mean by the sums.
use Rattle.std.proofs.Common.{arith}
use Rattle.pix_table.proofs.lemmas.quantization.BoxSumLemmas.{whole_mean}
use Rattle.pix_table.proofs.lemmas.quantization.GroupLemmas.{box_count, few_sums}
use Rattle.pix_table.proofs.quantization.color_items.ColorCutting.mean_color.Goals as goal

pub mean-requires-clause-some : goal.mean-requires-clause-some
mean-requires-clause-some c = let r = c.requires in omega (arith, r.1.some, box_count r.0 c.args.sums r.1)

pub mean-requires-clause-red : goal.mean-requires-clause-red
mean-requires-clause-red c = let r = c.requires in (few_sums r.0 c.args.sums r.1).0

pub mean-requires-clause-green : goal.mean-requires-clause-green
mean-requires-clause-green c = let r = c.requires in (few_sums r.0 c.args.sums r.1).1

pub mean-requires-clause-blue : goal.mean-requires-clause-blue
mean-requires-clause-blue c = let r = c.requires in (few_sums r.0 c.args.sums r.1).2

pub returns : goal.returns
returns c = λ box is.
    let e = c.mean.ensures in
    rw (e.red, e.green, e.blue) (whole_mean box c.args.sums is.whole)
