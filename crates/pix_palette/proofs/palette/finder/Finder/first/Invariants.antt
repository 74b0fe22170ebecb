-- What holds at each turn of the loop in `Finder::first`.
use Rattle.std.proofs.Common.{◌≡◌, ◌<◌, ◌≤◌, ◌-◌, length, map}
use Rattle.pix_table.specs.matching.Nearest as nearest
use Rattle.pix_palette.specs.Palette.{numbers}
use Rattle.pix_palette.specs.Finder.{place, place_at}
use Rattle.pix_palette.proofs.Finders.{IsFoundFrom}
use Rattle.pix_palette.proofs.palette.finder.Finder.first.Given as goal

-- the entries from number `at` on have been looked at, and that before it has the place of the
-- color
abbrev pub invariant-loop-at : goal.invariant-loop-at
invariant-loop-at l = record {
  color : nearest.numbers l.color ≡ numbers l.fn.clr;
  within : l.at ≤ length (map numbers l.colors);
  placed : 0 < l.at → place_at place (map numbers l.colors) (l.at - 1) ≡ place (numbers l.fn.clr);
  found : IsFoundFrom (map numbers l.colors) (numbers l.fn.clr) l.at (length (map numbers l.colors)) l.found;
}

abbrev pub decreases-loop-at : goal.decreases-loop-at
decreases-loop-at l = l.at
