use Rattle.std.proofs.Common.{◌≡◌, ◌-◌, ◌∙◌, ap, sym, arith, eqb-true}
use Rattle.pix_ops.specs.Composite.{term}
use Rattle.pix_el.proofs.Unchanged.{keeps_clear}
use Rattle.pix_el.proofs.planes.unchanged.keeps_under_clear.Goals as goal

pub returns : goal.returns
returns g c = λ is.
    let n = g.C.Channel.number in
    let m = g.C.Channel.max in
    let k = g.O.Dest.Factor.coefficient in
    let law = g.met.C.Channel.max_is_maximum in
    let a : n c.MAX.result ≡ m = ap n c.MAX.ensures ∙ law in
    let b : n c.MAX-2.result ≡ m = ap n c.MAX-2.ensures ∙ law in
    let d : n c.MAX-3.result ≡ m = ap n c.MAX-3.ensures ∙ law in
    let same : n c.term.result ≡ n c.MAX-3.result = eqb-true _ _ (sym (g.met.C.Channel.equals c.term.result c.MAX-3.result) ∙ sym c.eq.ensures ∙ is) in
    let made : n c.term.result ≡ term m k m (m - m) = rw (a, b) at c.term.ensures in
    let none : m - m ≡ 0 = omega arith in
    keeps_clear m g.met.C.Channel.product_law g.O.Blend.op
    (ap (λ c. term m c m 0) g.met.O.Blend.tabled.1 ∙ sym (ap (term m k m) none) ∙ sym made ∙ same ∙ d)
