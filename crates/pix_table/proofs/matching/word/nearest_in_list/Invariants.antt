-- What holds at each turn of the loop over `q` in `nearest_in_list`.
use Rattle.std.proofs.Common.{ℕ, List, get_or, ◌+◌, ◌*◌, ◌/◌, ◌%◌}
use Rattle.pix_table.specs.matching.Nearest.{numbers}
use Rattle.pix_table.specs.matching.InverseMap.{AreWords}
use Rattle.pix_table.proofs.lemmas.matching.ShortLists.{IsLeastKey}
use Rattle.pix_table.proofs.matching.word.nearest_in_list.Given as goal

-- `least` is the least key of the first q times four
abbrev pub invariant-loop-q : goal.invariant-loop-q
invariant-loop-q l = (entries : List (List ℕ)) → AreWords entries l.words
    → IsLeastKey entries (numbers l.clr) (λ p. get_or l.words (get_or l.lists (l.fn.known.start + p) 0) 0 % 256) ((l.fn.known.count + 3) / 4 * 4) (4 * l.q) l.least
