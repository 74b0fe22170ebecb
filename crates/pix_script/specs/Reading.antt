-- What the code has read of a script so far. No clause of a public call cites this file.
use Rattle.std.specs.Prelude.{◌≡◌, ℕ, List, [], ◌∷◌, ◌++◌, false, ◌||◌, Option, Some, None, IfSome, Result, Ok, Err, codes}
use Rattle.pix_script.specs.declared.command.Earlier.{Earlier}
use Rattle.pix_script.specs.declared.command.Line.{Line}
use Rattle.pix_script.specs.declared.fault.Problem.{Problem}
use Rattle.pix_script.specs.declared.command.Kind.{Kind}
use Rattle.pix_script.specs.declared.parse.Bad.{Bad}
use Rattle.pix_script.specs.declared.parse.Row.{Row}
use Rattle.pix_script.specs.declared.script.Script.{Script}
use Rattle.pix_script.specs.declared.fault.PaintFault.{PaintFault}
use Rattle.pix_script.specs.declared.fault.PaintFault.TheVariants as faults
use Rattle.pix_script.specs.Commands.{Shape, problem_of, meaning_of, any_fails, is_bad_operator, is_bad_number, is_bad_color}
use Rattle.pix_script.specs.Script.{begins_with, meanings, first_fault}

-- which of `image` and `keep` there are with one more line
abbrev pub earlier_with : Earlier → List (List ℕ) → Earlier
earlier_with earlier words = record {
  image = earlier.image || begins_with (codes "image") words;
  keep = earlier.keep || begins_with (codes "keep") words;
}

-- the commands with that of one more line, if it has one
abbrev pub with_line : List Line → Option Line → List Line
with_line commands None = commands
with_line commands (Some line) = commands ++ line ∷ []

-- what reading a line returned: what it means where it has no problem, and else the problem
abbrev pub Reads : Option Problem → Option Line → Result (Option Line) Problem → Type 0
Reads problem meaning (Ok line) = (problem ≡ None) × (line ≡ meaning)
Reads problem meaning (Err found) = problem ≡ Some found

-- the shape of a row of the code
abbrev pub shape_of : Row → Shape
shape_of row = record { words = row.words.now; makes_image = row.makes_image; reads_kept = row.reads_kept }

-- what checking the words of a command returned
abbrev pub Checks : Option Problem → Result (Unit {0}) Problem → Type 0
Checks problem (Ok done) = problem ≡ None
Checks problem (Err found) = problem ≡ Some found

-- which of a command's words are bad in their places
pub record AreBad (kinds : List Kind) (words : List (List ℕ)) (bad : Bad) : Type 0 where
  pub operator : bad.operator ≡ any_fails is_bad_operator kinds words
  pub number : bad.number ≡ any_fails is_bad_number kinds words
  pub color : bad.color ≡ any_fails is_bad_color kinds words

-- no word is bad in its place
abbrev pub NoneBad : List Kind → List (List ℕ) → Type 0
NoneBad kinds words = AreBad kinds words (record { operator = false; number = false; color = false })

-- a row that may be one of these words: where they were read as a line, none is bad in its place
abbrev pub IsRowOf : Row → List (List ℕ) → Type 0
IsRowOf row words = IfSome row.line (λ line. NoneBad row.words.now words)

-- what the code holds: the commands that were read, and which of `image` and `keep` are among the
-- lines
pub record Held : Type 0 where
  pub commands : List Line
  pub earlier : Earlier

-- what a script holds that was read so far
abbrev pub held : Script → Held
held script = record { commands = script.commands.items; earlier = script.earlier }

-- what is held with one more line of these words
abbrev pub with_words : Held → List (List ℕ) → Held
with_words old words = record {
  commands = with_line old.commands (meaning_of words);
  earlier = earlier_with old.earlier words;
}

-- what reading the line of a number returned, given what was held before and after
abbrev pub ReadsLine : (old new : Held) → ℕ → List (List ℕ) → Result (Unit {0}) PaintFault → Type 0
ReadsLine old new number words (Ok done) = (problem_of old.earlier words ≡ None) × (new ≡ with_words old words)
ReadsLine old new number words (Err faults.OutOfMemory) = Unit {0}
ReadsLine old new number words (Err faults.TooLong) = ⊥
ReadsLine old new number words (Err (faults.Line n problem)) = (n ≡ number) × (problem_of old.earlier words ≡ Some problem)

-- what reading all lines returned, where the commands are seen by a view
abbrev pub ReadsLines : {X : Type 0} → (X → List Line) → List (List (List ℕ)) → Result X PaintFault → Type 0
ReadsLines view lines (Ok commands) = (first_fault [] lines ≡ None) × (view commands ≡ meanings lines)
ReadsLines view lines (Err faults.OutOfMemory) = Unit {0}
ReadsLines view lines (Err faults.TooLong) = ⊥
ReadsLines view lines (Err (faults.Line n problem)) = first_fault [] lines ≡ Some (n, problem)
