-- Of `next_place`: the next place in the same turn, and the first of the next turn.
use Rattle.std.proofs.Common.{arith}
use Rattle.pix_table.proofs.Rows.{next_in_turn, next_turn}
use Rattle.pix_table.proofs.diffuse.next_place.Goals as goal

pub returns-then-place-len-clause-next : goal.returns-then-place-len-clause-next
returns-then-place-len-clause-next c = λ k e. next_in_turn k c.args.len c.args.place e (omega arith)

pub returns-else-place-len-clause-next : goal.returns-else-place-len-clause-next
returns-else-place-len-clause-next c = λ k e. next_turn k c.args.len c.args.place e (omega arith)
