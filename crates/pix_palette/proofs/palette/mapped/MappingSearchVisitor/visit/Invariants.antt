-- What holds at each turn of the loop over `i` in `visit` of `Mapping`.
use Rattle.std.proofs.Common.{◌≡◌, ◌<◌, ℕ, List, [], ◌∷◌, map, take, get_or}
use Rattle.pix_table.specs.matching.Nearest.{IsNearest}
use Rattle.pix_palette.specs.Indexing.{colors_of, values}
use Rattle.pix_palette.proofs.palette.mapped.MappingSearchVisitor.visit.Given as goal

-- the first i pixels have their indices
abbrev pub invariant-loop-i : goal.invariant-loop-i
invariant-loop-i g l = record {
  nearest : (entries : List (List ℕ)) → g.N.NearestSearch.finds l.fn.search entries → (k : ℕ) → k < l.i
      → IsNearest entries (get_or (colors_of g.S.Pixel.format g.S.Gamma.Gamma-2.mode g.S.Pixel.numbers l.self.pixels.now) k [])
      (get_or (values g.P.Pixel.numbers l.items) k 0);
  gray : take l.i (map g.P.Pixel.numbers l.items) ≡ take l.i (map (λ n. n ∷ []) (values g.P.Pixel.numbers l.items));
  same : (entries : List (List ℕ)) → g.N.NearestSearch.finds l.fn.search entries → g.N.NearestSearch.finds l.search entries;
}
