-- Of `wide_distances`: the distance of each lane.
use Rattle.std.proofs.Common.{arith, ap, get_or}
use Rattle.std.proofs.lemmas.List.{get_or-map}
use Rattle.pix_table.specs.matching.Nearest.{squared_difference}
use Rattle.pix_table.proofs.matching.lanes.wide_distances.Goals as goal

pub returns-clause-each : goal.returns-clause-each
returns-clause-each c = λ i below.
    let block = c.args.block.now in
    let clr = c.args.clr in
    let red = ap (λ xs. get_or xs i 0) c.squares-red.ensures in
    let green = ap (λ xs. get_or xs i 0) c.squares-green.ensures in
    let blue = ap (λ xs. get_or xs i 0) c.squares-blue.ensures in
    omega (
      arith,
      c.wide_sums.ensures.each i below,
      red,
      green,
      blue,
      get_or-map (λ x. squared_difference x clr.red) block.red i 0 0 (omega arith),
      get_or-map (λ x. squared_difference x clr.green) block.green i 0 0 (omega arith),
      get_or-map (λ x. squared_difference x clr.blue) block.blue i 0 0 (omega arith),
    )
