-- Of `Sought::new`: the clause `near`.
use Rattle.std.proofs.Common.{arith}
use Rattle.pix_palette.proofs.Cells.{lies_about}
use Rattle.pix_palette.proofs.palette.cells.Sought.new.Goals as goal

pub returns-clause-near : goal.returns-clause-near
returns-clause-near c = λ entry h.
    rw (c.saturating_sub.ensures, c.saturating_sub-2.ensures, c.saturating_sub-3.ensures, c.saturating_add.ensures, c.saturating_add-2.ensures, c.saturating_add-3.ensures)
    (lies_about entry c.args.clr.red c.args.clr.green c.args.clr.blue c.args.least.red c.args.least.green c.args.least.blue (omega arith) (omega arith) (omega arith) h)
