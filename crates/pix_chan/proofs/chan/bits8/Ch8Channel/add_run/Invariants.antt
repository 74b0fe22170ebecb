-- What holds at each turn of the loop over `k`, `j` and `i` in `Ch8Channel::add_run`.
use Rattle.std.proofs.Common.{◌≡◌, ◌*◌, take, map}
use Rattle.pix_chan.specs.declared.chan.bits8.Ch8.{Ch8}
use Rattle.pix_chan.specs.Runs.{over}
use Rattle.pix_chan.specs.Number.{saturating_sum}
use Rattle.pix_chan.proofs.chan.bits8.Ch8Channel.add_run.Given as goal

abbrev pub invariant-loop-k : goal.invariant-loop-k
invariant-loop-k l = map (λ (x : Ch8). x.value) l.dst ≡ over (λ y x. saturating_sum 255 x y) (take (32 * l.k) (map (λ (x : Ch8). x.value) l.by)) (map (λ (x : Ch8). x.value) l.fn.dst)

abbrev pub invariant-loop-j : goal.invariant-loop-j
invariant-loop-j l = map (λ (x : Ch8). x.value) l.dst ≡ over (λ y x. saturating_sum 255 x y) (take (16 * l.j) (map (λ (x : Ch8). x.value) l.by)) (map (λ (x : Ch8). x.value) l.fn.dst)

abbrev pub invariant-loop-i : goal.invariant-loop-i
invariant-loop-i l = map (λ (x : Ch8). x.value) l.dst ≡ over (λ y x. saturating_sum 255 x y) (take l.i (map (λ (x : Ch8). x.value) l.by)) (map (λ (x : Ch8). x.value) l.fn.dst)
