-- What holds at each turn of the loop over `p` in `views_of`.
use Rattle.std.specs.Prelude.{◌≡◌, ℕ, [], ◌-◌, ◌<◌, length, map, min, slice_index_or}
use Rattle.pix_table.specs.matching.Nearest.{numbers}
use Rattle.pix_table.specs.SeenPixels.{over_white, seen_numbers}
use Rattle.pix_table.specs.matching.SeenLanes.{over_black}
use Rattle.pix_table.proofs.rgba.views.views_of.Given as goal

-- the first p entries, or the last one in place of those behind it, are there
abbrev pub invariant-loop-p : goal.invariant-loop-p
invariant-loop-p l = record {
  long_black : length l.black ≡ 256;
  long_white : length l.white ≡ 256;
  black : (q : ℕ) → q < l.p
      → slice_index_or (map numbers l.black) q [] ≡ over_black (slice_index_or (map seen_numbers l.entries) (min q (length (map seen_numbers l.entries) - 1)) []);
  white : (q : ℕ) → q < l.p
      → slice_index_or (map numbers l.white) q [] ≡ over_white (slice_index_or (map seen_numbers l.entries) (min q (length (map seen_numbers l.entries) - 1)) []);
}
