-- Of `run`: what it leaves after a stop.
use Rattle.std.proofs.Common.{Err}
use Rattle.pix_script.proofs.ReportLemmas.{appends_part}
use Rattle.pix_script.proofs.program.run.Goals as goal

pub returns-in-Err : goal.returns-in-Err
returns-in-Err g c = (Err c.in-Err.stop, c.in-Err.ensures.read, appends_part _ _ _ c.report.result c.report.ensures, c.status.ensures)
