-- What holds at each turn of the loop over `i` in `write_indices`.
use Rattle.std.proofs.Common.{◌≡◌, ◌∷◌, [], map, take}
use Rattle.pix_palette.specs.Indexing.{values}
use Rattle.pix_palette.proofs.palette.quantization.write_indices.Given as goal

-- the first i pixels have their indices
abbrev pub invariant-loop-i : goal.invariant-loop-i
invariant-loop-i g l = record {
  indices : take l.i (values g.P.Pixel.numbers l.pixels) ≡ take l.i l.indices;
  gray : take l.i (map g.P.Pixel.numbers l.pixels) ≡ take l.i (map (λ n. n ∷ []) (values g.P.Pixel.numbers l.pixels));
}
