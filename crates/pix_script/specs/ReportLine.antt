-- The bytes of a report's line.
use Rattle.std.specs.Prelude.{ℕ, List, take}
use Rattle.pix_script.specs.declared.report_line.ReportLine.{ReportLine}

-- the bytes that were written
abbrev pub bytes_of : ReportLine → List ℕ
bytes_of line = take line.filled line.room
