use Rattle.std.proofs.Common.{◌+◌, ◌∙◌, ℕ, sym, arith, map, refl, replicate, get_or}
use Rattle.std.proofs.lemmas.List.{length-map, get_or-map}
use Rattle.pix_chan.specs.declared.chan.bits8.Ch8.{Ch8}
use Rattle.pix_chan.proofs.Slices.{over-nil, one_step}
use Rattle.pix_chan.proofs.Pairs.{all_put}
use Rattle.pix_chan.proofs.chan.bits8.pairs.units.Goals as goal

abbrev units : Ch8 → ℕ
units x = x.value

pub loop-i-init : goal.loop-i-init
loop-i-init c = sym (over-nil (λ x y. y) (replicate 32 0))

pub loop-i-preserved : goal.loop-i-preserved
loop-i-preserved c =
    let cs = c.args.c.now in
    let item = c.index-c-i.result in
    let value = units (get_or cs c.loop-i.i item) in
    one_step (λ x y. y) c.loop-i.i (c.loop-i.i + 1) (replicate 32 0) c.loop-i.own value 0 value 0 (map units cs)
    c.loop-i.invariant refl (omega arith) (omega (arith, length-map cs units))
    (sym (get_or-map units cs c.loop-i.i item 0 (omega arith))) refl

pub returns : goal.returns
returns c = c.loop-i.invariant ∙ all_put c.loop-i.i (map units c.args.c.now) (replicate 32 0) (omega (arith, length-map c.args.c.now units)) (omega arith)
