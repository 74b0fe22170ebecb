-- What holds at each turn of the loop in `Lists::first_of_cell`.
use Rattle.std.proofs.Common.{◌≡◌, ◌<◌, ◌≤◌, ◌-◌, length, map}
use Rattle.pix_table.specs.matching.Nearest as nearest
use Rattle.pix_palette.specs.Palette.{numbers}
use Rattle.pix_palette.specs.Finder.{cell, place_at}
use Rattle.pix_palette.proofs.Cells.{AreFarIn}
use Rattle.pix_palette.proofs.palette.lists.Lists.first_of_cell.Given as goal

-- the entries of the cell from number `at` on are far but for the one that was found, and that
-- before it is of the cell
abbrev pub invariant-loop-at : goal.invariant-loop-at
invariant-loop-at l = record {
  within : l.at ≤ length (map numbers l.fn.colors);
  placed : 0 < l.at → place_at cell (map numbers l.fn.colors) (l.at - 1) ≡ l.fn.place;
  from : l.fn.sought.from ≤ l.found;
  end : l.found ≤ l.fn.«end»;
  far : AreFarIn (map numbers l.fn.colors) (nearest.numbers l.fn.sought.clr) (nearest.numbers l.fn.sought.least) l.fn.place l.at l.found;
}

abbrev pub decreases-loop-at : goal.decreases-loop-at
decreases-loop-at l = l.at
