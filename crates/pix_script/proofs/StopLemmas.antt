-- What was read of known bytes gives what they give.
use Rattle.std.proofs.Common.{◌≡◌, ℕ, ◌<◌, true, ltb, List, ◌++◌, length, Option, Some, None, Result, Ok, Err, refl, sym, ap, ◌∙◌, inl, inr, arith}
use Rattle.std.specs.Prelude.{IfSome}
use Rattle.std.proofs.lemmas.Bool.{cases_lt, lt-ltb}
use Rattle.std.proofs.lemmas.List.{append-nil, length-append}
use Rattle.pix_script.specs.declared.fault.PaintFault.{PaintFault}
use Rattle.pix_script.specs.declared.fault.PaintFault.TheVariants as faults
use Rattle.pix_script.specs.declared.stop.PaintStop.{PaintStop}
use Rattle.pix_script.specs.declared.stop.PaintStop.TheVariants as stops
use Rattle.pix_script.specs.Script.{outcome_of, Fails}
use Rattle.pix_script.specs.Stop.{IsInput, IsFaultOf, Leaves, LeavesFor}

long : (script : List ℕ) → 1048576 < length script → outcome_of script ≡ Err faults.TooLong
unfolding outcome_of
long script lt = let t : ltb 1048576 (length script) ≡ true = lt-ltb _ _ lt in rw t refl

same_outcome : (all script : List ℕ) (left : Option (List ℕ)) → IsInput (Some all) left script → outcome_of all ≡ outcome_of script
same_outcome all script None input = absurd input.consumed
same_outcome all script (Some rest) input =
    elim (cases_lt (length script) 1048577) [
      | inl lt ↦ ap outcome_of (input.consumed ∙ ap (λ (r : List ℕ). script ++ r) (input.to_end lt) ∙ append-nil script)
      | inr ge ↦ long all (omega (arith, ap length input.consumed, length-append script rest)) ∙ sym (long script (omega arith))
    ]

fault_of : (all : List ℕ) (left : Option (List ℕ)) (fault : PaintFault) → IsFaultOf (Some all) left fault → Fails fault (outcome_of all)
fault_of all left faults.OutOfMemory h = tt
fault_of all left faults.TooLong h = same_outcome all h.0 left h.1 ∙ h.2
fault_of all left (faults.Line line problem) h = same_outcome all h.0 left h.1 ∙ h.2

fault_read : (had left : Option (List ℕ)) (script : List ℕ) (fault : PaintFault) → IsInput had left script → Fails fault (outcome_of script) → IsFaultOf had left fault
fault_read had left script faults.OutOfMemory input h = tt
fault_read had left script faults.TooLong input h = (script, input, h)
fault_read had left script (faults.Line line problem) input h = (script, input, h)

-- what is left after a script was read and its text written
pub leaves : (had left held holds : Option (List ℕ)) (script : List ℕ) (r : Result (Unit {0}) PaintStop) → IsInput had left script → LeavesFor script held holds r → Leaves had left held holds r
leaves had left held holds script (Ok done) input h = (script, h.0, input, h.1, h.2)
leaves had left held holds script (Err (stops.Script fault)) input h = (fault_read had left script fault input h.0, h.1)
leaves had left held holds script (Err stops.Read) input h = h
leaves had left held holds script (Err stops.Write) input h = (script, h.0, input, h.1)

-- the same where the reader's bytes are known
pub known : (had left held holds : Option (List ℕ)) (r : Result (Unit {0}) PaintStop) → Leaves had left held holds r → IfSome had (λ script. LeavesFor script held holds r)
known None left held holds r h = tt
known (Some all) left held holds (Ok done) h = (h.1, same_outcome all h.0 left h.2 ∙ h.3, h.4)
known (Some all) left held holds (Err (stops.Script fault)) h = (fault_of all left fault h.0, h.1)
known (Some all) left held holds (Err stops.Read) h = h
known (Some all) left held holds (Err stops.Write) h = (h.1, same_outcome all h.0 left h.2 ∙ h.3)
