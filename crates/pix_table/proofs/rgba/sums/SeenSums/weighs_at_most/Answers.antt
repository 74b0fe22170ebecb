-- Of `SeenSums::weighs_at_most`: that the comparison of the products tells it.
use Rattle.std.proofs.Common.{ℕ, ◌+◌, ◌-◌, ◌*◌, arith}
use Rattle.std.proofs.lemmas.Bool.{ltb-true}
use Rattle.pix_table.proofs.lemmas.quantization.Gains.{quotients_most}
use Rattle.pix_table.proofs.rgba.sums.SeenSums.weighs_at_most.Goals as goal

pub returns : goal.returns
returns c = λ h.
    let s = c.args.self in
    let clear : ℕ = 255 * c.args.self.count - c.args.self.alpha in
    quotients_most (s.red * s.red + s.green * s.green + s.blue * s.blue)
    ((s.red + clear) * (s.red + clear) + (s.green + clear) * (s.green + clear) + (s.blue + clear) * (s.blue + clear)) s.count c.args.most
    (omega (arith, ltb-true _ _ h, c.squares.ensures))
