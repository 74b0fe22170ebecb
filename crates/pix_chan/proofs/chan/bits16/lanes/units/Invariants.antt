-- What holds at each turn of the loop over `i` in `units`.
use Rattle.std.proofs.Common.{◌≡◌, take, map, replicate}
use Rattle.pix_chan.specs.declared.chan.bits16.Ch16.{Ch16}
use Rattle.pix_chan.specs.Runs.{over}
use Rattle.pix_chan.proofs.chan.bits16.lanes.units.Given as goal

-- the numbers below the index are read
abbrev pub invariant-loop-i : goal.invariant-loop-i
invariant-loop-i l = l.own ≡ over (λ y x. y) (take l.i (map (λ (x : Ch16). x.value) l.c)) (replicate 16 0)
