-- What holds at each turn of the loop over `i` in `channels`.
use Rattle.std.proofs.Common.{◌≡◌, take, map, replicate}
use Rattle.pix_chan.specs.declared.chan.bits16.Ch16.{Ch16}
use Rattle.pix_chan.specs.Runs.{over}
use Rattle.pix_chan.proofs.chan.bits16.lanes.channels.Given as goal

-- the channels below the index are made
abbrev pub invariant-loop-i : goal.invariant-loop-i
invariant-loop-i l = map (λ (x : Ch16). x.value) l.own ≡ over (λ y x. y) (take l.i l.from) (replicate 16 0)
