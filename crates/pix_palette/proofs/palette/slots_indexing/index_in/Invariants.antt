-- What holds at each turn of the loop over `i` in `index_in`.
use Rattle.std.proofs.Common.{◌≡◌, ◌≤◌, ◌∷◌, [], length, map, take}
use Rattle.pix_table.specs.threshold.TableBlocks.{IsTableCache}
use Rattle.pix_table.specs.threshold.Setting.{Always, IsSet}
use Rattle.pix_table.proofs.lemmas.threshold.IndexingSets.{AreSetBelow}
use Rattle.pix_palette.specs.Palette.{numbers}
use Rattle.pix_palette.specs.Indexing.{colors_of, values}
use Rattle.pix_table.specs.matching.Nearest as nearest
use Rattle.pix_palette.proofs.palette.slots_indexing.index_in.Given as goal

-- the first i pixels have been set
abbrev pub invariant-loop-i : goal.invariant-loop-i
invariant-loop-i g l = record {
  set : AreSetBelow numbers (IsSet numbers (Always (numbers l.fn.threshold)) (length l.fn.slots)) g.P.IndexPixel.GREATEST (take l.fn.len l.fn.slots)
      (colors_of g.S.Pixel.format g.S.Gamma.Gamma-2.mode g.S.Pixel.numbers l.fn.pixels) l.i (values g.P.Pixel.numbers l.indices) (take l.used l.slots);
  gray : take l.i (map g.P.Pixel.numbers l.indices) ≡ take l.i (map (λ n. n ∷ []) (values g.P.Pixel.numbers l.indices));
  right : IsTableCache (numbers l.fn.threshold) (map numbers (take l.used l.slots)) l.beside;
  near : nearest.numbers l.near ≡ numbers l.fn.threshold;
  within : l.used ≤ length l.slots;
  more : l.fn.len ≤ l.used;
  room : length l.slots ≡ length l.fn.slots;
  before : take l.fn.len l.slots ≡ take l.fn.len l.fn.slots;
}
