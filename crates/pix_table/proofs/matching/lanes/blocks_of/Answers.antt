use Rattle.std.proofs.Common.{arith, replicate, ◌∙◌, ap, cond, get_or}
use Rattle.std.proofs.lemmas.Simd.{get_or-replicate, length-replicate}
use lib.Dec.{eqb}
use Rattle.pix_table.proofs.lemmas.matching.LaneNumbers.{long_chosen, chosen_at}
use Rattle.pix_table.proofs.matching.lanes.blocks_of.Goals as goal

pub returns-clause-long : goal.returns-clause-long
returns-clause-long c =
    long_chosen c.args.now c.args.least c.args.at (replicate 16 c.args.j) (omega arith) (omega arith) (omega arith) (length-replicate 16 c.args.j)

pub returns-clause-each : goal.returns-clause-each
returns-clause-each c = λ i below.
    chosen_at c.args.now c.args.least c.args.at (replicate 16 c.args.j) (omega arith) (omega arith) (omega arith) (length-replicate 16 c.args.j) i below
    ∙ ap (λ n. cond (eqb (get_or c.args.now i 0) (get_or c.args.least i 0)) (get_or c.args.at i 0) n) (get_or-replicate 16 i c.args.j 0 below)
