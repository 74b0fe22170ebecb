-- Of `Sums::gains_little`: that the comparison of the products tells it.
use Rattle.std.proofs.Common.{◌+◌, ◌*◌, ◌<◌, arith, ap₂, subst, ◌∙◌}
use Rattle.std.proofs.lemmas.Bool.{ltb-true}
use Rattle.pix_table.proofs.lemmas.quantization.BoxSumLemmas.{weigh_same}
use Rattle.pix_table.proofs.lemmas.quantization.Gains.{quotients_few}
use Rattle.pix_table.proofs.quantization.box_sums.Sums.gains_little.Goals as goal

pub returns-then-most-lt-MUCH : goal.returns-then-most-lt-MUCH
returns-then-most-lt-MUCH c = λ h.
    let low = c.args.low in
    let high = c.without-high.result in
    let e = c.without-high.ensures in
    let left = ap₂ (λ i j. i + j) (ap₂ (λ i j. i * j) (c.from.ensures ∙ c.squares_of_few.ensures) c.from-2.ensures)
    (ap₂ (λ i j. i * j) (c.from-3.ensures ∙ c.squares_of_few-2.ensures) c.from-4.ensures) in
    let right = ap₂ (λ i j. i * j) c.from-then-most-lt-MUCH.ensures c.from-then-most-lt-MUCH-2.ensures in
    let less = subst (λ z. z < (c.args.most + c.args.whole + 1) * (c.args.low.count * c.without-high.result.count)) left
    (subst (λ z. c.from.result * c.from-2.result + c.from-3.result * c.from-4.result < z) right (ltb-true _ _ h)) in
    omega (
      arith,
      quotients_few (low.red * low.red + low.green * low.green + low.blue * low.blue)
          (high.red * high.red + high.green * high.green + high.blue * high.blue) low.count high.count c.args.most c.args.whole less,
      weigh_same high.count high.red high.green high.blue _ _ _ _ e.count e.red e.green e.blue,
    )
