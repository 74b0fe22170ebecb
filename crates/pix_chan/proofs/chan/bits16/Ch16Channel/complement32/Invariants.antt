-- What holds at each turn of the loop over `i` in `Ch16Channel::complement32`.
use Rattle.std.proofs.Common.{◌≡◌, ◌-◌, take, map}
use Rattle.pix_chan.specs.declared.chan.bits16.Ch16.{Ch16}
use Rattle.pix_chan.specs.Runs.{over}
use Rattle.pix_chan.proofs.chan.bits16.Ch16Channel.complement32.Given as goal

-- the channels below the index are made
abbrev pub invariant-loop-i : goal.invariant-loop-i
invariant-loop-i l = map (λ (x : Ch16). x.value) l.own ≡ over (λ y x. 65535 - y) (take l.i (map (λ (x : Ch16). x.value) l.plane)) (map (λ (x : Ch16). x.value) l.plane)
