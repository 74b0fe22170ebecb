-- Of `SeenSums::both_weigh_at_most`: that the comparison of the products tells it.
use Rattle.std.proofs.Common.{ℕ, ◌+◌, ◌-◌, ◌*◌, arith, ◌∙◌}
use Rattle.std.proofs.lemmas.Bool.{ltb-true}
use Rattle.pix_table.proofs.lemmas.quantization.Gains.{four_quotients_told}
use Rattle.pix_table.proofs.rgba.sums.SeenSums.both_weigh_at_most.Goals as goal

pub returns : goal.returns
returns c = λ h.
    let s = c.args.self in
    let o = c.args.others in
    let clear : ℕ = 255 * c.args.self.count - c.args.self.alpha in
    let dim : ℕ = 255 * c.args.others.count - c.args.others.alpha in
    four_quotients_told (s.red * s.red + s.green * s.green + s.blue * s.blue)
    ((s.red + clear) * (s.red + clear) + (s.green + clear) * (s.green + clear) + (s.blue + clear) * (s.blue + clear))
    (o.red * o.red + o.green * o.green + o.blue * o.blue)
    ((o.red + dim) * (o.red + dim) + (o.green + dim) * (o.green + dim) + (o.blue + dim) * (o.blue + dim)) s.count o.count c.args.most
    _ _ _ _ _ _ (c.from.ensures ∙ c.squares.ensures) (c.from-3.ensures ∙ c.squares-2.ensures) (omega (arith, c.from-4.ensures)) (omega (arith, c.from-2.ensures))
    (omega (arith, c.from-5.ensures)) (omega (arith, c.from-6.ensures)) (ltb-true _ _ h)
