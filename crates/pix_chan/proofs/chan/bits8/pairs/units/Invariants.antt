-- What holds at each turn of the loop over `i` in `units`.
use Rattle.std.proofs.Common.{◌≡◌, take, map, replicate}
use Rattle.pix_chan.specs.declared.chan.bits8.Ch8.{Ch8}
use Rattle.pix_chan.specs.Runs.{over}
use Rattle.pix_chan.proofs.chan.bits8.pairs.units.Given as goal

-- the numbers below the index are read
abbrev pub invariant-loop-i : goal.invariant-loop-i
invariant-loop-i l = l.own ≡ over (λ y x. y) (take l.i (map (λ (x : Ch8). x.value) l.c)) (replicate 32 0)
