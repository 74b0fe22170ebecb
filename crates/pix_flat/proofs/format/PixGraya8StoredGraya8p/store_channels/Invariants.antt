-- What holds at each turn of the loop over `i` in `store_channels`.
use Rattle.std.proofs.Common.{◌≡◌, map, take}
use Rattle.pix_chan.specs.declared.chan.bits8.Ch8.{Ch8}
use Rattle.pix_el.specs.Stored.{in_pixels}
use Rattle.pix_flat.specs.Format.{graya8_numbers}
use Rattle.pix_flat.proofs.format.PixGraya8StoredGraya8p.store_channels.Given as goal

-- the pixels below the index are written
abbrev pub invariant-loop-i : goal.invariant-loop-i
invariant-loop-i l = map graya8_numbers (take l.i l.p) ≡ in_pixels 2 l.i (map (λ (c : Ch8). c.value) l.c)
