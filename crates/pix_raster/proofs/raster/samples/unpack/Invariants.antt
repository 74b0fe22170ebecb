-- What holds at each turn of the loop over `k` in `unpack`.
use Rattle.std.proofs.Common.{◌≡◌, ◌*◌, map, take}
use Rattle.std.specs.List.{flat_map}
use Rattle.pix_raster.proofs.raster.samples.unpack.Given as goal

-- the pixels of the first k blocks have the first numbers
abbrev pub invariant-loop-k : goal.invariant-loop-k
invariant-loop-k g l =
    flat_map g.P.Pixel.numbers (take (16 * l.k) l.pixels) ≡ take (16 * l.k * g.P.Pixel.layout.count) (map g.S.Sample.number l.samples)
