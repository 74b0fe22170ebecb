-- What holds at each turn of the loop over `i` in `words_of`.
use Rattle.std.proofs.Common.{◌≡◌, ◌<◌, ◌%◌, ℕ, length, map, get_or}
use Rattle.pix_table.specs.matching.Nearest.{numbers}
use Rattle.pix_table.specs.matching.InverseMap.{IsWord}
use Rattle.pix_table.proofs.matching.matcher.words_of.Given as goal

-- all are numbers of entries, and the first i those of their own
abbrev pub invariant-loop-i : goal.invariant-loop-i
invariant-loop-i l = record {
  many : length l.words ≡ 256;
  each : (k : ℕ) → k < 256 → IsWord (map numbers l.entries) (get_or l.words k 0);
  own : (k : ℕ) → k < l.i → get_or l.words k 0 % 256 ≡ k;
}
