-- What holds at each turn of the loop over `k` in `map_indexed_rgba`.
use Rattle.std.specs.Prelude.{◌≡◌, ℕ, [], ◌<◌, length, map, slice_index, slice_index_or}
use Rattle.pix_table.specs.matching.Nearest.{IsNearestBy}
use Rattle.pix_table.specs.SeenPixels.{seen, seen_distance}
use Rattle.pix_table.specs.matching.SeenMatches.{AreMatchedPixels}
use Rattle.pix_table.proofs.rgba.matched.map_indexed_rgba.Given as goal

-- the first k pixels are matched, and so are the pixels at the places
abbrev pub invariant-loop-k : goal.invariant-loop-k
invariant-loop-k g l = record {
  long : length l.indices ≡ length l.pixels;
  many : length l.places ≡ 1024;
  places : AreMatchedPixels (map seen (map g.E.TablePixel.values l.entries)) l.places;
  matched : (j : ℕ) → j < l.k
      → IsNearestBy seen_distance (map seen (map g.E.TablePixel.values l.entries)) (seen (slice_index_or (map g.P.TablePixel.values l.pixels) j [])) (slice_index l.indices j);
}
