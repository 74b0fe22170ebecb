-- What holds at each turn of the loop over `i` in `look_up_pixels`.
use Rattle.std.proofs.Common.{◌≡◌, ◌<◌, ℕ, length, drop, get_or}
use Rattle.std.specs.Prelude.{slice_get}
use Rattle.pix_table.specs.packing.LookUp.{all_below}
use Rattle.pix_palette.specs.Indexing.{values}
use Rattle.pix_palette.proofs.palette.mapped.look_up_pixels.Given as goal

-- the first i places are looked up, and it is left to the indices from i on whether all are below
abbrev pub invariant-loop-i : goal.invariant-loop-i
invariant-loop-i g l = record {
  below : all_below (length l.entries) (values g.P.Pixel.numbers l.indices) ≡ all_below (length l.entries) (drop l.i (values g.P.Pixel.numbers l.indices));
  found : (j : ℕ) → j < l.i → slice_get l.pixels j ≡ slice_get l.entries (get_or (values g.P.Pixel.numbers l.indices) j 0);
}
