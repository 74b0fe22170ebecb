-- What holds at each turn of the loop over `i` in `ThresholdSearch::follow_cells`.
use Rattle.std.proofs.Common.{◌≡◌, length, map}
use Rattle.pix_palette.specs.Palette.{numbers}
use Rattle.pix_palette.specs.Finder.{HasThresholdSearch}
use Rattle.pix_palette.proofs.palette.threshold_search.ThresholdSearch.follow_cells.Given as goal

-- the first i entries are there
abbrev pub invariant-loop-i : goal.invariant-loop-i
invariant-loop-i l = record {
  near : HasThresholdSearch (map numbers l.colors) l.self;
  made : length l.self.cells.latest.items ≡ 16384;
  count : length l.self.cells.earlier.items ≡ l.i;
}
