-- Of `paint_text`: the clauses `outcome` and `first`.
use Rattle.std.proofs.Common.{◌≡◌}
use Rattle.std.proofs.lemmas.Result.{err_from_is_err_and}
use Rattle.pix_script.specs.declared.fault.PaintFault.TheVariants.{Line}
use Rattle.pix_script.specs.Lines.{lines_of}
use Rattle.pix_script.proofs.OutcomeLemmas.{too_long, fault_outcome, rendered_outcome, first_of_fault}
use Rattle.pix_script.proofs.script.paint_text.Goals as goal

pub returns-then-script-gt-MAX_SCRIPT-clause-outcome : goal.returns-then-script-gt-MAX_SCRIPT-clause-outcome
returns-then-script-gt-MAX_SCRIPT-clause-outcome c = too_long c.args.script.now c.if-script-gt-MAX_SCRIPT.true

pub returns-in_err-read-clause-outcome : goal.returns-in_err-read-clause-outcome
returns-in_err-read-clause-outcome c =
    let p = err_from_is_err_and c.from_residual.result c.from_residual.ensures.1 in
    rw (p.1, p.2) (fault_outcome c.args.script.now c.in_err-read.field-0.0 c.if-script-gt-MAX_SCRIPT.false c.in_err-read.ensures)

pub returns-in_err-read-clause-first : goal.returns-in_err-read-clause-first
returns-in_err-read-clause-first c =
    let p = err_from_is_err_and c.from_residual.result c.from_residual.ensures.1 in
    λ number problem e.
    let same : c.in_err-read.field-0.0 ≡ Line number problem = cc (p.1, p.2) in
    first_of_fault (lines_of c.args.script.now) c.in_err-read.field-0.0 number problem c.in_err-read.ensures same

pub returns-clause-outcome : goal.returns-clause-outcome
returns-clause-outcome c =
    rendered_outcome (λ text. text.items) c.args.script.now c.in_ok-read.read c.render.result c.if-script-gt-MAX_SCRIPT.false c.in_ok-read.ensures (rw c.deref.ensures.value at c.render.ensures.text) c.render.ensures.memory
