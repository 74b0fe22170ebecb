-- What holds at each turn of the loop over `i` in `set_indices` of `Matching`.
use Rattle.std.proofs.Common.{◌<◌, ℕ, List, [], map, get_or}
use Rattle.pix_table.specs.matching.FoundColors.{AreAnswers}
use Rattle.pix_table.specs.matching.Nearest.{IsMatched}
use Rattle.pix_table.proofs.matching.matcher.Matching.set_indices.Given as goal

-- the first i pixels are matched, and each color that was found has its nearest entry
abbrev pub invariant-loop-i : goal.invariant-loop-i
invariant-loop-i g l = record {
  matched : (entries : List (List ℕ)) → g.N.NearestSearch.finds l.fn.search entries
      → (k : ℕ) → k < l.i → IsMatched entries l.self.alpha l.self.transparent_index (get_or (map g.P.TablePixel.values l.self.pixels.now) k []) (get_or l.indices k 0);
  same : (entries : List (List ℕ)) → g.N.NearestSearch.finds l.fn.search entries → g.N.NearestSearch.finds l.search entries;
  answers : (entries : List (List ℕ)) → g.N.NearestSearch.finds l.fn.search entries → AreAnswers entries l.answers;
}
