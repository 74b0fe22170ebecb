-- What a run from a reader to a writer leaves, and what it reports.
use Rattle.std.specs.Prelude.{◌≡◌, ℕ, ◌<◌, ◌≤◌, List, length, Option, Result, Ok, Err, codes}
use Rattle.std.specs.Io.KnownBytes.{Consumes, IsAtEnd, Appends, Keeps}
use Rattle.pix_script.specs.declared.stop.PaintStop.{PaintStop}
use Rattle.pix_script.specs.declared.stop.PaintStop.TheVariants as stops
use Rattle.pix_script.specs.declared.fault.PaintFault.{PaintFault}
use Rattle.pix_script.specs.declared.fault.PaintFault.TheVariants as faults
use Rattle.pix_script.specs.Fault.{fault_text}
use Rattle.pix_script.specs.Script.{outcome_of, Fails}

-- the text of a stop
abbrev pub stop_text : PaintStop → List ℕ
stop_text (stops.Script fault) = fault_text fault
stop_text stops.Read = codes "read failed"
stop_text stops.Write = codes "write failed"

-- the script is what was read of the known bytes: all up to the end, or the first 1048577
pub record IsInput (old new : Option (List ℕ)) (script : List ℕ) : Type 0 where
  pub consumed : Consumes old new script
  pub limit : length script ≤ 1048577
  pub to_end : length script < 1048577 → IsAtEnd new

-- the fault is that of the script that was read, or out of memory
abbrev pub IsFaultOf : Option (List ℕ) → Option (List ℕ) → PaintFault → Type 0
IsFaultOf old new faults.OutOfMemory = Unit {0}
IsFaultOf old new faults.TooLong = (script : List ℕ) × IsInput old new script × (outcome_of script ≡ Err faults.TooLong)
IsFaultOf old new (faults.Line line problem) = (script : List ℕ) × IsInput old new script × (outcome_of script ≡ Err (faults.Line line problem))

-- What a run left, given the known bytes that the reader had and has left, and those that the
-- writer held and holds: after Ok the text of the script that was read was written, after Script
-- and Read nothing was, and after Write the script that was read has a text, which was refused.
abbrev pub Leaves : (had left held holds : Option (List ℕ)) → Result (Unit {0}) PaintStop → Type 0
Leaves had left held holds (Ok done) = (script text : List ℕ) × IsInput had left script × (outcome_of script ≡ Ok text) × Appends held holds text
Leaves had left held holds (Err (stops.Script fault)) = IsFaultOf had left fault × Keeps held holds
Leaves had left held holds (Err stops.Read) = Keeps held holds
Leaves had left held holds (Err stops.Write) = (script text : List ℕ) × IsInput had left script × (outcome_of script ≡ Ok text)

-- the same of a reader whose bytes are known: they are the script
abbrev pub LeavesFor : (script : List ℕ) → (held holds : Option (List ℕ)) → Result (Unit {0}) PaintStop → Type 0
LeavesFor script held holds (Ok done) = (text : List ℕ) × (outcome_of script ≡ Ok text) × Appends held holds text
LeavesFor script held holds (Err (stops.Script fault)) = Fails fault (outcome_of script) × Keeps held holds
LeavesFor script held holds (Err stops.Read) = Keeps held holds
LeavesFor script held holds (Err stops.Write) = (text : List ℕ) × (outcome_of script ≡ Ok text)

-- reading stops after a failed read, or an allocation failure
abbrev pub IsReadStop : PaintStop → Type 0
IsReadStop (stops.Script fault) = fault ≡ faults.OutOfMemory
IsReadStop stops.Read = Unit {0}
IsReadStop stops.Write = ⊥
