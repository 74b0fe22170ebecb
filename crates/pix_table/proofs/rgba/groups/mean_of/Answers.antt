-- Of `mean_of`: that the mean of seen colors is one.
use Rattle.std.proofs.Common.{subst, sym}
use Rattle.pix_table.specs.SeenPixels.{AreSeen}
use Rattle.pix_table.proofs.lemmas.quantization.SeenErrors.{mean_by_sums, sums_few}
use Rattle.pix_table.proofs.lemmas.quantization.SeenTable.{mean_of_box}
use Rattle.pix_table.proofs.rgba.groups.mean_of.Goals as goal

pub mean-requires-clause-few : goal.mean-requires-clause-few
mean-requires-clause-few c = sums_few c.requires.sums.0 c.args.sums c.requires.sums.1

pub returns-clause-mean : goal.returns-clause-mean
returns-clause-mean c = λ group h.
    let e = c.mean.ensures in
    mean_by_sums group c.args.sums _ _ _ _ h e.red e.green e.blue e.alpha

pub returns-clause-seen : goal.returns-clause-seen
returns-clause-seen c =
    let e = c.mean.ensures in
    let h = c.requires.sums.1 in
    subst AreSeen (sym (mean_by_sums c.requires.sums.0 c.args.sums _ _ _ _ h e.red e.green e.blue e.alpha)) (mean_of_box c.requires.sums.0 h.seen)
