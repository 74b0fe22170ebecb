-- The numbers of faults, their lines and their texts.
use Rattle.std.specs.Prelude.{ℕ, List, ◌++◌, Option, Some, None, codes}
use Rattle.std.specs.Fmt.{decimal}
use Rattle.pix_script.specs.declared.fault.Problem.{Problem}
use Rattle.pix_script.specs.declared.fault.Problem.TheVariants.{NoImage, SecondImage, UnknownWord, WrongCount, BadNumber, BadColor, TooBig, NothingKept}
use Rattle.pix_script.specs.declared.fault.PaintFault.{PaintFault}
use Rattle.pix_script.specs.declared.fault.PaintFault.TheVariants.{Line, OutOfMemory, TooLong}

-- the number of a line's problem
abbrev pub problem_number : Problem → ℕ
problem_number NoImage = 1
problem_number SecondImage = 2
problem_number UnknownWord = 3
problem_number WrongCount = 4
problem_number BadNumber = 5
problem_number BadColor = 6
problem_number TooBig = 7
problem_number NothingKept = 8

-- the number of a fault
abbrev pub fault_number : PaintFault → ℕ
fault_number (Line line problem) = problem_number problem
fault_number OutOfMemory = 9
fault_number TooLong = 10

-- the faulty line, where the fault is one of a line
abbrev pub fault_line : PaintFault → Option ℕ
fault_line (Line line problem) = Some line
fault_line OutOfMemory = None
fault_line TooLong = None

-- the text of a problem
abbrev pub problem_text : Problem → List ℕ
problem_text NoImage = codes "no image"
problem_text SecondImage = codes "second image"
problem_text UnknownWord = codes "unknown word"
problem_text WrongCount = codes "wrong number of words"
problem_text BadNumber = codes "bad number"
problem_text BadColor = codes "bad color"
problem_text TooBig = codes "image too big"
problem_text NothingKept = codes "nothing kept"

-- the text of a fault, which begins with its line where it has one
abbrev pub fault_text : PaintFault → List ℕ
fault_text (Line line problem) = codes "line " ++ (decimal line ++ (codes ": " ++ problem_text problem))
fault_text OutOfMemory = codes "out of memory"
fault_text TooLong = codes "input too long"
