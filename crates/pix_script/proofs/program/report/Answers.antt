use Rattle.std.proofs.Common.{◌≡◌, List, ℕ, ◌∷◌, [], ◌++◌, ap, ◌∙◌}
use Rattle.pix_script.specs.Stop.{stop_text}
use Rattle.pix_script.specs.Run.{stop_line}
use Rattle.pix_script.proofs.ReportLemmas.{report_done}
use Rattle.pix_script.proofs.program.report.Goals as goal

pub returns : goal.returns
returns g c =
    let line : c.bytes.result.now ≡ stop_line c.args.stop =
    c.bytes.ensures ∙ c.in_ok-writeln.ensures.bytes ∙ ap (λ (l : List ℕ). l ++ (stop_text c.args.stop ++ (10 ∷ []))) c.new-line.ensures in
    report_done _ _ _ (stop_line c.args.stop) c.bytes.result.now c.flush.result line c.in_ok-write_part.ensures c.flush.ensures.bytes
