use Rattle.std.proofs.Common.{arith}
use Rattle.pix_table.proofs.matching.lanes.distances.Goals as goal
use Rattle.pix_table.specs.matching.Nearest.{squared_difference}
use Rattle.pix_table.proofs.lemmas.matching.LaneNumbers.{three_summed}

pub returns-clause-each : goal.returns-clause-each
returns-clause-each c = λ i below.
    let block = c.args.block.now in
    let clr = c.args.clr in
    rw (c.sums-2.ensures, c.sums.ensures, c.squares-red.ensures, c.squares-green.ensures, c.squares-blue.ensures)
    (three_summed (λ x. squared_difference x clr.red) (λ x. squared_difference x clr.green) (λ x. squared_difference x clr.blue)
    block.red block.green block.blue i (omega arith) (omega arith) (omega arith) below)
