-- What holds at each turn of the loop over `i` in `copy_channels`.
use Rattle.std.proofs.Common.{◌≡◌, take}
use Rattle.pix_el.proofs.stored.copy_channels.Given as goal

-- the channels below the index are copied
abbrev pub invariant-loop-i : goal.invariant-loop-i
invariant-loop-i g l = take l.i l.to ≡ take l.i l.from
