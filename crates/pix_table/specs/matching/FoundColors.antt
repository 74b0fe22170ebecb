-- Colors of pixels that were found, each with the index of its nearest entry. No clause of a public call cites this file.
use Rattle.std.specs.Prelude.{ℕ, ◌%◌, List, All}
use Rattle.pix_table.specs.matching.InverseMap.{word_color}
use Rattle.pix_table.specs.matching.Nearest.{IsNearest}

-- numbers have the colors of pixels, each with the index of the entry that is nearest to it
abbrev pub AreAnswers : (entries : List (List ℕ)) (words : List ℕ) → Type 0
AreAnswers entries words = All (λ word. IsNearest entries (word_color word) (word % 256)) words
