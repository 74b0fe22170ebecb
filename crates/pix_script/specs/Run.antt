-- The exit status of a run, and its report.
use Rattle.std.specs.Prelude.{◌≡◌, ℕ, List, [], ◌∷◌, ◌++◌, take, Option, Result, Ok, Err}
use Rattle.std.specs.Io.KnownBytes.{Appends}
use Rattle.pix_script.specs.declared.fault.PaintFault.TheVariants as faults
use Rattle.pix_script.specs.declared.stop.PaintStop.{PaintStop}
use Rattle.pix_script.specs.declared.stop.PaintStop.TheVariants as stops
use Rattle.pix_script.specs.Stop.{Leaves, stop_text}

-- the exit status after a stop
abbrev pub status_of : PaintStop → ℕ
status_of (stops.Script faults.OutOfMemory) = 2
status_of (stops.Script faults.TooLong) = 1
status_of (stops.Script (faults.Line line problem)) = 1
status_of stops.Read = 3
status_of stops.Write = 3

-- the exit status after a run from the reader to the writer, and 0 after one that was not stopped
abbrev pub exit_status_of : Result (Unit {0}) PaintStop → ℕ
exit_status_of (Ok done) = 0
exit_status_of (Err stop) = status_of stop

-- known bytes grow by some first ones of these
abbrev pub AppendsPart : (old new : Option (List ℕ)) → List ℕ → Type 0
AppendsPart old new bytes = (count : ℕ) × Appends old new (take count bytes)

-- known bytes grow by these after Ok, and by some first ones of them after a failure
abbrev pub AppendsOrPart : {E : Type 0} → (old new : Option (List ℕ)) → List ℕ → Result (Unit {0}) E → Type 0
AppendsOrPart old new bytes (Ok done) = Appends old new bytes
AppendsOrPart old new bytes (Err error) = AppendsPart old new bytes

-- the line that reports a stop
abbrev pub stop_line : PaintStop → List ℕ
stop_line stop = stop_text stop ++ 10 ∷ []

-- what is written to the error output: nothing after a run that was not stopped, and else the
-- stop's line or a first part of it
abbrev pub Tells : (told tells : Option (List ℕ)) → Result (Unit {0}) PaintStop → Type 0
Tells told tells (Ok done) = told ≡ tells
Tells told tells (Err stop) = AppendsPart told tells (stop_line stop)

-- The program ended with this status: it ran from its input to its output, and the status is that
-- of the run. The pairs are the known bytes of the input, the output and the error output, before
-- and after.
abbrev pub Ends : (had left held holds told tells : Option (List ℕ)) → ℕ → Type 0
Ends had left held holds told tells status =
    (result : Result (Unit {0}) PaintStop) × Leaves had left held holds result × Tells told tells result × (status ≡ exit_status_of result)
