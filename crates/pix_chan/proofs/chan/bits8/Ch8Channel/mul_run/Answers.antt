use Rattle.std.proofs.Common.{◌≡◌, ◌∙◌, ◌*◌, ◌/◌, ℕ, sym, ap, arith, map, take}
use Rattle.pix_chan.specs.declared.chan.bits8.Ch8.{Ch8}
use Rattle.pix_chan.specs.Product.{channel_product}
use Rattle.pix_chan.specs.Channel.{answers_itself}
use Rattle.pix_chan.proofs.Slices.{run, over-nil, next_paired_block, paired_step, paired_whole}
use Rattle.pix_chan.proofs.chan.bits8.Ch8Channel.mul_run.Goals as goal

abbrev units : Ch8 → ℕ
units x = x.value

pub loop-k-init : goal.loop-k-init
loop-k-init c = sym (over-nil (channel_product 255) (map units c.args.dst.now))

pub loop-k-preserved : goal.loop-k-preserved
loop-k-preserved c =
    next_paired_block units (channel_product 255) c.args.dst.now c.loop-k.dst c.args.by.now 32 c.loop-k.k c.mul_block.new.to
    c.loop-k.invariant (omega arith) (omega arith) c.mul_block.ensures

pub loop-j-init : goal.loop-j-init
loop-j-init c =
    let m : 32 * c.loop-k.k ≡ 16 * (c.min-count.result / 32 * 2) = omega arith in
    c.loop-k.invariant ∙ ap (λ n. run (channel_product 255) (map units c.args.dst.now) (take n (map units c.args.by.now))) m

pub loop-j-preserved : goal.loop-j-preserved
loop-j-preserved c =
    next_paired_block units (channel_product 255) c.args.dst.now c.loop-j.dst c.args.by.now 16 c.loop-j.j c.mul_block-in-loop-j.new.to
    c.loop-j.invariant (omega arith) (omega arith) c.mul_block-in-loop-j.ensures

pub loop-i-init : goal.loop-i-init
loop-i-init c =
    let m : 16 * c.loop-j.j ≡ c.min-count.result / 16 * 16 = omega arith in
    c.loop-j.invariant ∙ ap (λ n. run (channel_product 255) (map units c.args.dst.now) (take n (map units c.args.by.now))) m

pub loop-i-preserved : goal.loop-i-preserved
loop-i-preserved c =
    paired_step units (channel_product 255) c.args.dst.now c.loop-i.dst c.args.by.now c.loop-i.i c.mul.result c.index-dst-i.result c.index-by-i.result
    c.loop-i.invariant (omega arith) (omega arith) c.index-dst-i.is c.index-by-i.is
    (answers_itself units (channel_product 255) c.index-dst-i.result c.index-by-i.result c.mul.result c.mul.ensures)

pub returns : goal.returns
returns c = paired_whole units (channel_product 255) c.args.dst.now c.loop-i.dst c.args.by.now c.loop-i.i c.loop-i.invariant (omega arith)
