-- What holds at each turn of the loop over `k` and `i` in `Ch16Channel::mul_run`.
use Rattle.std.proofs.Common.{◌≡◌, ◌*◌, take, map}
use Rattle.pix_chan.specs.declared.chan.bits16.Ch16.{Ch16}
use Rattle.pix_chan.specs.Runs.{over}
use Rattle.pix_chan.specs.Product.{channel_product}
use Rattle.pix_chan.proofs.chan.bits16.Ch16Channel.mul_run.Given as goal

abbrev pub invariant-loop-k : goal.invariant-loop-k
invariant-loop-k l = map (λ (x : Ch16). x.value) l.dst ≡ over (λ y x. channel_product 65535 x y) (take (16 * l.k) (map (λ (x : Ch16). x.value) l.by)) (map (λ (x : Ch16). x.value) l.fn.dst)

abbrev pub invariant-loop-i : goal.invariant-loop-i
invariant-loop-i l = map (λ (x : Ch16). x.value) l.dst ≡ over (λ y x. channel_product 65535 x y) (take l.i (map (λ (x : Ch16). x.value) l.by)) (map (λ (x : Ch16). x.value) l.fn.dst)
