-- The commands of a script, and the problems and the meanings of its lines.
use Rattle.std.specs.Prelude.{ℕ, List, [], ◌∷◌, length, Bool, true, false, ◌&&◌, ◌||◌, not, Option, Some, None, nat_lt, is_none, ◌==◌, if◌then◌else◌, codes, slice_index}
use Rattle.std.specs.Option.{option_map}
use Rattle.std.specs.Str.{bytes_eq}
use Rattle.pix_script.specs.declared.fault.Problem.{Problem}
use Rattle.pix_script.specs.declared.fault.Problem.TheVariants.{NoImage, SecondImage, UnknownWord, WrongCount, BadNumber, BadColor, TooBig, NothingKept}
use Rattle.pix_script.specs.declared.command.Earlier.{Earlier}
use Rattle.pix_script.specs.declared.command.Kind.{Kind}
use Rattle.pix_script.specs.declared.command.Kind.TheVariants.{Operator, Coordinate, Side, Color}
use Rattle.pix_script.specs.declared.command.Line.{Line}
use Rattle.pix_script.specs.declared.command.Line.TheVariants.{Clear, Keep}
use Rattle.pix_script.specs.Meaning.{image_of, fill_of, paint_of, copy_of, comp_of}
use Rattle.pix_script.specs.Numbers.{side_of, coordinate_of, color_of, ◌>>=◌}
use Rattle.pix_ops.specs.OperatorNames.{operator_of}

-- a command's words after its name, whether it makes the image, and whether it reads a kept one
pub record Shape : Type 0 where
  pub words : List Kind
  pub makes_image : Bool
  pub reads_kept : Bool

-- the shape of a command that makes the image
abbrev pub new_image : List Kind → Shape
new_image words = record { words = words; makes_image = true; reads_kept = false }

-- the shape of a command that works on the image alone
abbrev pub on_image : List Kind → Shape
on_image words = record { words = words; makes_image = false; reads_kept = false }

-- the shape of a command that works on the image and reads the kept one
abbrev pub from_kept : List Kind → Shape
from_kept words = record { words = words; makes_image = false; reads_kept = true }

-- a command: its name, its shape, and how the words after the name are read
pub record Command : Type 0 where
  pub name : List ℕ
  pub shape : Shape
  pub reading : List (List ℕ) → Option Line

-- all commands; `clear` and `keep` have no words after their names
abbrev pub commands : List Command
commands =
    record { name = codes "image"; shape = new_image (Side ∷ Side ∷ []); reading = image_of }
    ∷ record { name = codes "clear"; shape = on_image []; reading = λ _. Some Clear }
    ∷ record { name = codes "fill"; shape = on_image (Coordinate ∷ Coordinate ∷ Side ∷ Side ∷ Color ∷ []); reading = fill_of }
    ∷ record { name = codes "paint"; shape = on_image (Operator ∷ Coordinate ∷ Coordinate ∷ Side ∷ Side ∷ Color ∷ []); reading = paint_of }
    ∷ record { name = codes "keep"; shape = on_image []; reading = λ _. Some Keep }
    ∷ record {
      name = codes "copy";
      shape = from_kept (Coordinate ∷ Coordinate ∷ Coordinate ∷ Coordinate ∷ Side ∷ Side ∷ []);
      reading = copy_of;
    }
    ∷ record {
      name = codes "comp";
      shape = from_kept (Operator ∷ Coordinate ∷ Coordinate ∷ Coordinate ∷ Coordinate ∷ Side ∷ Side ∷ []);
      reading = comp_of;
    }
    ∷ []

-- the first of the commands that has the name
abbrev pub named : List ℕ → List Command → Option Command
named name [] = None
named name (command ∷ more) = if bytes_eq name command.name then Some command else named name more

-- a word in an operator's place that names none
abbrev pub is_bad_operator : Kind → List ℕ → Bool
is_bad_operator Operator word = is_none (operator_of word)
is_bad_operator Coordinate word = false
is_bad_operator Side word = false
is_bad_operator Color word = false

-- a word in a number's place that spells none
abbrev pub is_bad_number : Kind → List ℕ → Bool
is_bad_number Operator word = false
is_bad_number Coordinate word = is_none (coordinate_of word)
is_bad_number Side word = is_none (side_of word)
is_bad_number Color word = false

-- a word in a color's place that spells none
abbrev pub is_bad_color : Kind → List ℕ → Bool
is_bad_color Operator word = false
is_bad_color Coordinate word = false
is_bad_color Side word = false
is_bad_color Color word = is_none (color_of word)

-- whether some word that is there fails the test of its place
abbrev pub any_fails : (Kind → List ℕ → Bool) → List Kind → List (List ℕ) → Bool
any_fails test [] words = false
any_fails test (kind ∷ kinds) [] = false
any_fails test (kind ∷ kinds) (word ∷ words) = test kind word || any_fails test kinds words

-- whether there is a number, and it is above the limit
abbrev pub is_above : ℕ → Option ℕ → Bool
is_above limit None = false
is_above limit (Some number) = nat_lt limit number

-- whether some word spells a side above the limit
abbrev pub any_side_above : ℕ → List (List ℕ) → Bool
any_side_above limit [] = false
any_side_above limit (word ∷ words) = is_above limit (side_of word) || any_side_above limit words

-- the problem beside the first test that is met
abbrev pub first_met : List (Bool × Problem) → Option Problem
first_met [] = None
first_met (entry ∷ entries) = if entry.0 then Some entry.1 else first_met entries

-- The problem of a command with these arguments after these earlier commands.
-- Of several problems the first of this order counts. A side of an image is at most 1024.
abbrev pub problem_of_shape : Earlier → List (List ℕ) → Option Shape → Option Problem
problem_of_shape earlier arguments None = Some UnknownWord
problem_of_shape earlier arguments (Some shape) = first_met (
    (any_fails is_bad_operator shape.words arguments, UnknownWord)
    ∷ (not (length arguments == length shape.words), WrongCount)
    ∷ (not shape.makes_image && not earlier.image, NoImage)
    ∷ (shape.makes_image && earlier.image, SecondImage)
    ∷ (any_fails is_bad_number shape.words arguments, BadNumber)
    ∷ (any_fails is_bad_color shape.words arguments, BadColor)
    ∷ (shape.makes_image && any_side_above 1024 arguments, TooBig)
    ∷ (shape.reads_kept && not earlier.keep, NothingKept)
    ∷ [])

-- whether a first word begins a comment, by '#'
abbrev pub is_comment : List ℕ → Bool
is_comment name = slice_index name 0 == 35

-- the problem of a line with these words after these earlier commands; a line without words and a
-- comment have none
unfoldable pub problem_of : Earlier → List (List ℕ) → Option Problem
problem_of earlier [] = None
problem_of earlier (name ∷ arguments) =
    if is_comment name then None else problem_of_shape earlier arguments (option_map (λ command. command.shape) (named name commands))

-- what a line of these words means, if it is a command
unfoldable pub meaning_of : List (List ℕ) → Option Line
meaning_of [] = None
meaning_of (name ∷ arguments) = named name commands >>= λ command. command.reading arguments
