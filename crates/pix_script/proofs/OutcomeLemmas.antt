-- The outcome of a script, and its first fault by the places of lines.
use Rattle.std.proofs.Common.{◌≡◌, ℕ, zero, suc, ◌+◌, ◌<◌, ◌≤◌, List, [], ◌∷◌, ◌++◌, length, get_or, take, true, false, ltb, Option, Some, None, Result, Ok, Err, refl, sym, ap, ◌∙◌, ◌⊎◌, inl, inr, subst, append_assoc, arith}
use Rattle.std.specs.Prelude.{IfOk, IfErr}
use Rattle.std.proofs.lemmas.Bool.{le-ltb, lt-ltb}
use Rattle.std.proofs.lemmas.List.{append-nil, length-append}
use Rattle.std.proofs.lemmas.Option.{some_pair_parts}
use Rattle.pix_script.specs.declared.fault.Problem.{Problem}
use Rattle.pix_script.specs.declared.fault.PaintFault.{PaintFault}
use Rattle.pix_script.specs.declared.fault.PaintFault.TheVariants as faults
use Rattle.pix_script.specs.declared.script.Script.{Script}
use Rattle.pix_script.specs.Lines.{lines_of}
use Rattle.pix_script.specs.Commands.{problem_of}
use Rattle.pix_script.specs.Script.{earlier_of, first_fault, or_later, IsFirstFault, text_of, outcome_of, outcome_of_lines, Gives, Fails}
use Rattle.pix_script.specs.Reading.{ReadsLines}

-- a script that is too long
pub too_long : (script : List ℕ) → 1048576 < length script → outcome_of script ≡ Err faults.TooLong
unfolding outcome_of
too_long script lt = let long : ltb 1048576 (length script) ≡ true = lt-ltb _ _ lt in rw long refl

-- a script with a fault in a line
pub line_outcome : (script : List ℕ) (number : ℕ) (problem : Problem) → length script ≤ 1048576 → first_fault [] (lines_of script) ≡ Some (number, problem)
    → outcome_of script ≡ Err (faults.Line number problem)
unfolding outcome_of outcome_of_lines
line_outcome script number problem le found = let short : ltb 1048576 (length script) ≡ false = le-ltb _ _ le in rw (short, found) refl

-- what reading a script returned decides the outcome where it is a fault
pub fault_outcome : (script : List ℕ) (fault : PaintFault) → length script ≤ 1048576 → ReadsLines (λ (s : Script). s.commands.items) (lines_of script) (Err fault) → Fails fault (outcome_of script)
fault_outcome script faults.OutOfMemory le h = tt
fault_outcome script faults.TooLong le h = absurd h
fault_outcome script (faults.Line number problem) le h = line_outcome script number problem le h

-- the outcome of a script that was read whole, given what was answered then
pub rendered_outcome : {X : Type 0} (view : X → List ℕ) (script : List ℕ) (read : Script) (r : Result X PaintFault) → length script ≤ 1048576
    → ReadsLines (λ (s : Script). s.commands.items) (lines_of script) (Ok read)
    → IfOk r (λ text. view text ≡ text_of read.commands.items) → IfErr r (λ fault. fault ≡ faults.OutOfMemory)
    → Gives view r (outcome_of script)
unfolding outcome_of outcome_of_lines
rendered_outcome view script read (Ok text) le h is memory =
    let short : ltb 1048576 (length script) ≡ false = le-ltb _ _ le in
    rw (short, h.0, is, h.1) refl
rendered_outcome view script read (Err fault) le h is memory =
    let P : PaintFault → Type 0 = λ f. Fails f (outcome_of script) in subst P (sym memory) tt

cases_option : {X : Type 0} (o : Option X) → ((x : X) × (o ≡ Some x)) ⊎ (o ≡ None)
cases_option None = inr refl
cases_option (Some x) = inl (x, refl)

-- the first fault after earlier lines
record IsFirstAfter (earlier more : List (List (List ℕ))) (number : ℕ) (problem : Problem) : Type 0 where
  place : ℕ
  number_is : number ≡ length earlier + place + 1
  within : place < length more
  here : problem_of (earlier_of (earlier ++ take place more)) (get_or more place []) ≡ Some problem
  before : (j : ℕ) → j < place → problem_of (earlier_of (earlier ++ take j more)) (get_or more j []) ≡ None

before_more : (earlier : List (List (List ℕ))) (words : List (List ℕ)) (more : List (List (List ℕ))) (place : ℕ) → problem_of (earlier_of earlier) words ≡ None
    → ((j : ℕ) → j < place → problem_of (earlier_of ((earlier ++ words ∷ []) ++ take j more)) (get_or more j []) ≡ None)
    → (j : ℕ) → j < suc place → problem_of (earlier_of (earlier ++ take j (words ∷ more))) (get_or (words ∷ more) j []) ≡ None
before_more earlier words more place none before zero lt = rw append-nil none
before_more earlier words more place none before (suc j) lt =
    ap (λ (l : List (List (List ℕ))). problem_of (earlier_of l) (get_or more j [])) (sym (append_assoc earlier (words ∷ []) (take j more))) ∙ before j (omega arith)

first_after : (earlier more : List (List (List ℕ))) (number : ℕ) (problem : Problem) → first_fault earlier more ≡ Some (number, problem) → IsFirstAfter earlier more number problem
first_after earlier [] number problem h = absurd cc
first_after earlier (words ∷ more) number problem h =
    elim (cases_option (problem_of (earlier_of earlier) words)) [
      | inl w ↦
          let e : or_later (length earlier + 1) (Some w.0) (first_fault (earlier ++ words ∷ []) more) ≡ Some (number, problem) = rw w.1 at h in
          let parts = some_pair_parts _ _ _ _ e in
          record {
            place = 0;
            number_is = omega (arith, parts.0);
            within = omega arith;
            here = rw (append-nil, w.1, parts.1) refl;
            before = λ j lt. absurd (omega arith);
          }
      | inr none ↦
          let r = first_after (earlier ++ words ∷ []) more number problem (rw none at h) in
          let len = length-append earlier (words ∷ []) in
          record {
            place = suc r.place;
            number_is = omega (arith, r.number_is, len);
            within = omega (arith, r.within);
            here = ap (λ (l : List (List (List ℕ))). problem_of (earlier_of l) (get_or more r.place [])) (sym (append_assoc earlier (words ∷ []) (take r.place more))) ∙ r.here;
            before = λ j. before_more earlier words more r.place none r.before j;
          }
    ]

-- the line that the first fault names
pub is_first : (lines : List (List (List ℕ))) (number : ℕ) (problem : Problem) → first_fault [] lines ≡ Some (number, problem) → IsFirstFault lines number problem
is_first lines number problem h =
    let r = first_after [] lines number problem h in
    record { place = r.place; number_is = omega (arith, r.number_is); within = r.within; here = r.here; before = r.before }

-- the same for what reading a script returned
pub first_of_fault : (lines : List (List (List ℕ))) (fault : PaintFault) (number : ℕ) (problem : Problem) → ReadsLines (λ (s : Script). s.commands.items) lines (Err fault)
    → fault ≡ faults.Line number problem → IsFirstFault lines number problem
first_of_fault lines fault number problem h is =
    let P : PaintFault → Type 0 = λ f. ReadsLines (λ (s : Script). s.commands.items) lines (Err f) in
    is_first lines number problem (subst P is h)
