use Rattle.std.proofs.Common.{◌≡◌, ◌∙◌, ◌*◌, ◌/◌, ℕ, sym, ap, arith, map, take}
use Rattle.pix_chan.specs.declared.chan.bits16.Ch16.{Ch16}
use Rattle.pix_chan.specs.Number.{saturating_sum}
use Rattle.pix_chan.specs.Channel.{answers_itself}
use Rattle.pix_chan.proofs.Slices.{run, over-nil, next_paired_block, paired_step, paired_whole}
use Rattle.pix_chan.proofs.chan.bits16.Ch16Channel.add_run.Goals as goal

abbrev units : Ch16 → ℕ
units x = x.value

pub loop-k-init : goal.loop-k-init
loop-k-init c = sym (over-nil (saturating_sum 65535) (map units c.args.dst.now))

pub loop-k-preserved : goal.loop-k-preserved
loop-k-preserved c =
    next_paired_block units (saturating_sum 65535) c.args.dst.now c.loop-k.dst c.args.by.now 16 c.loop-k.k c.add_block.new.to
    c.loop-k.invariant (omega arith) (omega arith) c.add_block.ensures

pub loop-i-init : goal.loop-i-init
loop-i-init c =
    let m : 16 * c.loop-k.k ≡ c.min-count.result / 16 * 16 = omega arith in
    c.loop-k.invariant ∙ ap (λ n. run (saturating_sum 65535) (map units c.args.dst.now) (take n (map units c.args.by.now))) m

pub loop-i-preserved : goal.loop-i-preserved
loop-i-preserved c =
    paired_step units (saturating_sum 65535) c.args.dst.now c.loop-i.dst c.args.by.now c.loop-i.i c.add.result c.index-dst-i.result c.index-by-i.result
    c.loop-i.invariant (omega arith) (omega arith) c.index-dst-i.is c.index-by-i.is
    (answers_itself units (saturating_sum 65535) c.index-dst-i.result c.index-by-i.result c.add.result c.add.ensures)

pub returns : goal.returns
returns c = paired_whole units (saturating_sum 65535) c.args.dst.now c.loop-i.dst c.args.by.now c.loop-i.i c.loop-i.invariant (omega arith)
