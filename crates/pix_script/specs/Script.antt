-- What a script gives: the text of its picture, or the fault of its first faulty line.
use Rattle.std.specs.Prelude.{◌≡◌, ℕ, ◌+◌, ◌<◌, List, [], ◌∷◌, ◌++◌, length, take, Bool, false, Option, Some, None, Result, Ok, Err, nat_lt, if◌then◌else◌, codes, slice_index_or}
use Rattle.std.specs.List.{list_any, filter_map}
use Rattle.std.specs.Str.{bytes_eq}
use Rattle.pix_script.specs.declared.command.Earlier.{Earlier}
use Rattle.pix_script.specs.declared.command.Line.{Line}
use Rattle.pix_script.specs.declared.command.Line.TheVariants.{Image}
use Rattle.pix_script.specs.declared.fault.Problem.{Problem}
use Rattle.pix_script.specs.declared.fault.PaintFault.{PaintFault}
use Rattle.pix_script.specs.declared.fault.PaintFault.TheVariants as faults
use Rattle.pix_script.specs.Lines.{lines_of}
use Rattle.pix_script.specs.Commands.{problem_of, meaning_of}
use Rattle.pix_script.specs.Picture.{run_of}
use Rattle.pix_script.specs.Text.{picture_text}

-- whether the line's first word is the name
abbrev pub begins_with : List ℕ → List (List ℕ) → Bool
begins_with name [] = false
begins_with name (word ∷ words) = bytes_eq word name

-- which of `image` and `keep` begin a line
abbrev pub earlier_of : List (List (List ℕ)) → Earlier
earlier_of lines = record {
  image = list_any (begins_with (codes "image")) lines;
  keep = list_any (begins_with (codes "keep")) lines;
}

-- the fault of a line, if it has a problem, and else the fault of a later line
abbrev pub or_later : ℕ → Option Problem → Option (ℕ × Problem) → Option (ℕ × Problem)
or_later number None later = later
or_later number (Some problem) later = Some (number, problem)

-- the number and the problem of the first line that has one, counted from 1 after the earlier lines
abbrev pub first_fault : List (List (List ℕ)) → List (List (List ℕ)) → Option (ℕ × Problem)
first_fault earlier [] = None
first_fault earlier (words ∷ more) =
    or_later (length earlier + 1) (problem_of (earlier_of earlier) words) (first_fault (earlier ++ words ∷ []) more)

-- the text of the run of the commands after `image`, and none where there is no command
abbrev pub text_of : List Line → List ℕ
text_of (Image width height ∷ commands) = picture_text (run_of width height commands)
text_of _ = []

-- the text, where there is no fault
abbrev pub or_fault : List ℕ → Option (ℕ × Problem) → Result (List ℕ) PaintFault
or_fault text None = Ok text
or_fault text (Some fault) = Err (faults.Line fault.0 fault.1)

-- the commands of the lines
abbrev pub meanings : List (List (List ℕ)) → List Line
meanings lines = filter_map meaning_of lines

-- what the lines give
unfoldable pub outcome_of_lines : List (List (List ℕ)) → Result (List ℕ) PaintFault
outcome_of_lines lines = or_fault (text_of (meanings lines)) (first_fault [] lines)

-- what the script gives; one of more than 1048576 bytes is too long
unfoldable pub outcome_of : List ℕ → Result (List ℕ) PaintFault
outcome_of script = if nat_lt 1048576 (length script) then Err faults.TooLong else outcome_of_lines (lines_of script)

-- the outcome is this fault, or an allocation failed
abbrev pub Fails : {Y : Type 0} → PaintFault → Result Y PaintFault → Type 0
Fails faults.OutOfMemory outcome = Unit {0}
Fails (faults.Line number problem) outcome = outcome ≡ Err (faults.Line number problem)
Fails faults.TooLong outcome = outcome ≡ Err faults.TooLong

-- the answer, seen by view, is the outcome, unless an allocation failed
abbrev pub Gives : {X Y : Type 0} → (X → Y) → Result X PaintFault → Result Y PaintFault → Type 0
Gives view (Ok x) outcome = outcome ≡ Ok (view x)
Gives view (Err fault) outcome = Fails fault outcome

-- the line of the number has the problem after the lines before it, and none before it has one
pub record IsFirstFault (lines : List (List (List ℕ))) (number : ℕ) (problem : Problem) : Type 0 where
  pub place : ℕ
  pub number_is : number ≡ place + 1
  pub within : place < length lines
  pub here : problem_of (earlier_of (take place lines)) (slice_index_or lines place []) ≡ Some problem
  pub before : (j : ℕ) → j < place → problem_of (earlier_of (take j lines)) (slice_index_or lines j []) ≡ None
