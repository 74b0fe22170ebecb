-- What holds at each turn of the loop over `i` in `unpack_each`.
use Rattle.std.proofs.Common.{◌≡◌, ◌*◌, map, take}
use Rattle.std.specs.List.{flat_map}
use Rattle.pix_raster.proofs.raster.samples.unpack_each.Given as goal

-- the pixels below i have the first numbers
abbrev pub invariant-loop-i : goal.invariant-loop-i
invariant-loop-i g l = flat_map g.P.Pixel.numbers (take l.i l.pixels) ≡ take (l.i * g.P.Pixel.layout.count) (map g.S.Sample.number l.samples)
