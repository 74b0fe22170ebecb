use Rattle.std.proofs.Common.{◌+◌, ◌∙◌, ℕ, sym, arith, refl, replicate, get_or, lit<}
use Rattle.pix_chan.specs.declared.chan.bits8.Ch8.{Ch8}
use Rattle.pix_chan.proofs.Slices.{over-nil, mapped_put_step}
use Rattle.pix_chan.proofs.Pairs.{all_put}
use Rattle.pix_chan.proofs.chan.bits8.pairs.channels.Goals as goal

abbrev none : Ch8
none = record { value = 0; fits = lit< tt }

pub loop-i-init : goal.loop-i-init
loop-i-init c = sym (over-nil (λ x y. y) (replicate 32 0))

pub loop-i-preserved : goal.loop-i-preserved
loop-i-preserved c =
    let value = get_or c.args.v c.loop-i.i 0 in
    mapped_put_step (λ (x : Ch8). x.value) (λ (y : ℕ). y) c.loop-i.i (c.loop-i.i + 1) (replicate 32 none) c.loop-i.own _ value 0 c.args.v
    c.loop-i.invariant refl (omega arith) (omega arith) refl refl

pub returns : goal.returns
returns c = c.loop-i.invariant ∙ all_put c.loop-i.i c.args.v (replicate 32 0) (omega arith) (omega arith)
