-- A script's lines, and the words of a line.
use Rattle.std.specs.Prelude.{ℕ, List, map, filter, length, nat_lt, ◌==◌}
use Rattle.std.specs.List.{slice_split}
use Rattle.std.specs.Str.Lines.{strip_carriage_return}

-- the parts between spaces that are not empty
unfoldable pub words_of : List ℕ → List (List ℕ)
words_of line = filter (λ part. nat_lt 0 (length part)) (slice_split (λ byte. byte == 32) line)

-- The words of each line. Lines end with LF, and one CR at the end of a line is dropped. What
-- follows the last LF counts as a line, which has no words where the script ends with LF.
unfoldable pub lines_of : List ℕ → List (List (List ℕ))
lines_of script =
    map (λ line. words_of (strip_carriage_return line)) (slice_split (λ byte. byte == 10) script)
