-- Of `paint_io`: the clauses `read` and `known`.
use Rattle.pix_script.proofs.StopLemmas.{leaves, known}
use Rattle.pix_script.proofs.stop.paint_io.Goals as goal

pub returns-clause-read : goal.returns-clause-read
returns-clause-read g c =
    leaves _ _ _ _ c.in_ok-script.script.items c.write_text.result c.in_ok-script.ensures.ok (rw c.deref.ensures.value at c.write_text.ensures)

pub returns-clause-known : goal.returns-clause-known
returns-clause-known g c =
    known _ _ _ _ c.write_text.result
    (leaves _ _ _ _ c.in_ok-script.script.items c.write_text.result c.in_ok-script.ensures.ok (rw c.deref.ensures.value at c.write_text.ensures))
