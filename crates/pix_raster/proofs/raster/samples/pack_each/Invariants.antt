-- What holds at each turn of the loop over `i` in `pack_each`.
use Rattle.std.proofs.Common.{◌≡◌, ◌*◌, map, take}
use Rattle.std.specs.List.{flat_map}
use Rattle.pix_raster.proofs.raster.samples.pack_each.Given as goal

-- the first numbers are those of the pixels below i
abbrev pub invariant-loop-i : goal.invariant-loop-i
invariant-loop-i g l = take (l.i * g.P.Pixel.layout.count) (map g.S.Sample.number l.samples) ≡ flat_map g.P.Pixel.numbers (take l.i l.pixels)
