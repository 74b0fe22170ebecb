-- What holds at each turn of the loop over `i` in `load_channels`.
use Rattle.std.proofs.Common.{◌≡◌, map, take}
use Rattle.pix_el.specs.Stored.{in_pixels}
use Rattle.pix_el.proofs.stored.AnyStored.load_channels.Given as goal

-- the channels of the pixels below the index are read
abbrev pub invariant-loop-i : goal.invariant-loop-i
invariant-loop-i g l = in_pixels g.P.Pixel.layout.count l.i (map g.P.Chan.Channel.number l.to) ≡ map g.P.Pixel.numbers (take l.i l.p)
