use Rattle.std.proofs.Common.{◌+◌, ◌-◌, ◌∙◌, ℕ, sym, arith, map, refl, get_or}
use Rattle.std.proofs.lemmas.List.{length-map, get_or-map}
use Rattle.pix_chan.specs.declared.chan.bits16.Ch16.{Ch16}
use Rattle.pix_chan.proofs.Slices.{over-nil, mapped_put_step}
use Rattle.pix_chan.proofs.Pairs.{all_made}
use Rattle.pix_chan.proofs.chan.bits16.Ch16Channel.complement32.Goals as goal

abbrev units : Ch16 → ℕ
units x = x.value

pub loop-i-init : goal.loop-i-init
loop-i-init c = sym (over-nil (λ x y. 65535 - y) (map units c.args.plane))

pub loop-i-preserved : goal.loop-i-preserved
loop-i-preserved c =
    let old = c.args.plane in
    let item = c.index-plane-i.result in
    mapped_put_step units (λ (y : ℕ). 65535 - y) c.loop-i.i (c.loop-i.i + 1) old c.loop-i.own _ (units (get_or old c.loop-i.i item)) 0 (map units old)
    c.loop-i.invariant refl (omega arith) (omega (arith, length-map old units)) (sym (get_or-map units old c.loop-i.i item 0 (omega arith))) refl

pub returns : goal.returns
returns c =
    let old = map units c.args.plane in
    c.loop-i.invariant ∙ all_made (λ (y : ℕ). 65535 - y) c.loop-i.i old old refl (omega (arith, length-map c.args.plane units))
