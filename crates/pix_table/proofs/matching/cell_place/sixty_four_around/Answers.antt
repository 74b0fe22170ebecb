-- Of `sixty_four_around`: that a cell of thirty-two is inside.
use Rattle.std.proofs.Common.{◌+◌, ◌-◌, ◌*◌, ◌/◌, ◌%◌, ◌≤◌, ℕ, arith}
use Rattle.std.proofs.lemmas.Bool.{lt-ltb, le-ltb}
use Rattle.pix_table.proofs.matching.cell_place.sixty_four_around.Goals as goal

pub returns-clause-inside : goal.returns-clause-inside
returns-clause-inside c =
    let p : ℕ = c.args.place in
    let q : ℕ = 37376 + (p - 36864) / 128 * 16 + (p - 36864) / 16 % 4 * 4 + (p - 36864) / 2 % 4 in
    let past : 36864 ≤ p = c.requires.thirty_two in
    let far : 37376 ≤ q = omega arith in
    rw (
      le-ltb p 32768 (omega (arith, past)),
      le-ltb p 36864 past,
      lt-ltb p 37376 c.requires.few,
      le-ltb q 32768 (omega (arith, far)),
      le-ltb q 36864 (omega (arith, far)),
      le-ltb q 37376 far,
    ) (λ color i. record {
      red = (omega (arith, i.red), omega (arith, i.red));
      green = (omega (arith, i.green), omega (arith, i.green));
      blue = (omega (arith, i.blue), omega (arith, i.blue));
    })
