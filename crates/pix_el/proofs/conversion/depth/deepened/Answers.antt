use Rattle.std.proofs.Common.{◌∙◌, ap, arith, refl, ℕ}
use Rattle.std.proofs.lemmas.List.{get_or_default}
use Rattle.pix_el.specs.Conversion.{at_depth}
use Rattle.pix_el.proofs.Made.{none_made, one_made, all_made}
use borrow.Author.Rules.{scaled_fits≤}
use Rattle.pix_el.proofs.conversion.depth.deepened.Goals as goal

pub offset_bounds-to-i : goal.offset_bounds-to-i
offset_bounds-to-i g c = scaled_fits≤ _ 32 _ (omega arith) g.met.D.Channel.small

pub loop-i-init : goal.loop-i-init
loop-i-init g c = none_made _ _ _ _ _ _ refl

pub loop-i-preserved : goal.loop-i-preserved
loop-i-preserved g c =
    let f : ℕ → ℕ = at_depth g.C.Channel.max g.D.Channel.max in
    let v = g.C.Channel.number in
    let item = c.index-from-i.result in
    one_made g.D.Channel.number v f 32 c.loop-i.i c.loop-i.to c.args.from c.at_depth.result c.loop-i.invariant (omega arith)
    (λ p. c.at_depth.ensures ∙ ap (λ x. f (v x)) (get_or_default c.args.from c.loop-i.i item p (omega arith)))

pub returns : goal.returns
returns g c = all_made _ _ _ _ _ (omega (arith, c.loop-i.invariant.long)) (λ j lt d p. c.loop-i.invariant.done j (omega (arith, lt, c.loop-i.invariant.long)) d p)
