-- Of `Sums::weight_of_few`: that few colors weigh little.
use Rattle.std.proofs.Common.{◌≤◌, ◌*◌, subst, sym}
use Rattle.pix_table.proofs.lemmas.quantization.BoxSumLemmas.{weight_few}
use Rattle.pix_table.proofs.quantization.box_sums.Sums.weight_of_few.Goals as goal

pub returns-clause-few : goal.returns-clause-few
returns-clause-few c =
    let s = c.args.self in
    let r = c.requires in
    subst (λ w. w ≤ 195075 * c.args.self.count) (sym c.weight_of_few.ensures) (weight_few s.count s.red s.green s.blue r.red r.green r.blue)
