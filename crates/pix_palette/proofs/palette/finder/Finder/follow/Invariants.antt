-- What holds at each turn of the loop over `i` in `Finder::follow`.
use Rattle.std.proofs.Common.{◌≡◌, length, map}
use Rattle.pix_palette.specs.Palette.{numbers}
use Rattle.pix_palette.specs.Finder.{Follows}
use Rattle.pix_palette.proofs.palette.finder.Finder.follow.Given as goal

-- the first i entries are there
abbrev pub invariant-loop-i : goal.invariant-loop-i
invariant-loop-i l = record {
  finder : Follows (map numbers l.colors) l.self;
  made : length l.self.lists.latest.items ≡ 16384;
  count : length l.self.lists.earlier.items ≡ l.i;
}
