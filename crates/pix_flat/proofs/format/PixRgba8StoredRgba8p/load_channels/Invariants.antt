-- What holds at each turn of the loop over `i` in `load_channels`.
use Rattle.std.proofs.Common.{◌≡◌, map, take}
use Rattle.pix_chan.specs.declared.chan.bits8.Ch8.{Ch8}
use Rattle.pix_el.specs.Stored.{in_pixels}
use Rattle.pix_flat.specs.Format.{rgba8_numbers}
use Rattle.pix_flat.proofs.format.PixRgba8StoredRgba8p.load_channels.Given as goal

-- the channels of the pixels below the index are read
abbrev pub invariant-loop-i : goal.invariant-loop-i
invariant-loop-i l = in_pixels 4 l.i (map (λ (c : Ch8). c.value) l.to) ≡ map rgba8_numbers (take l.i l.p)
