use Rattle.std.proofs.Common.{◌≡◌, ◌-◌, ◌*◌, ◌<◌, ◌≤◌, arith, ap, ◌∙◌}
use Rattle.pix_chan.specs.Product.{fineness}
use Rattle.pix_ops.specs.Hue.{hue_weight}
use Rattle.pix_ops.proofs.Hue.{IsMovable, weight_is, weight_fits, at_most, moved_directly, moved_past_zero, hue_moves}
use Rattle.pix_el.proofs.hue.composite_hue.Given.{Over}
use Rattle.pix_el.proofs.hue.composite_hue.Goals as goal
use Rattle.pix_el.proofs.hue.composite_hue.Goals.{After-MID-half}

-- the number of the weight
weight : (g : Over) (c : After-MID-half g) →
    let n = g.C.Channel.number in
    n c.composite.new.dst ≡ hue_weight g.C.Channel.max g.O.Blend.op (n c.args.sa) (g.C.Channel.max - n c.args.da1)
weight g c =
    let n = g.C.Channel.number in
    let laws = g.met.C.Channel in
    weight_is g.O.Blend.op fineness g.C.Channel.max _ _ _ _ _ laws.product_law (laws.numbered.fits c.args.sa) (omega arith)
    c.requires (ap n c.MIN-weight.ensures ∙ laws.min_is_zero) c.composite.ensures

-- what the move stands on
movable : (g : Over) (c : After-MID-half g) →
    let n = g.C.Channel.number in
    IsMovable g.C.Channel.max (n c.MID-half.result) (n c.args.dst.now) (n c.args.src.now)
    (hue_weight g.C.Channel.max g.O.Blend.op (n c.args.sa) (g.C.Channel.max - n c.args.da1))
movable g c =
    let n = g.C.Channel.number in
    let laws = g.met.C.Channel in
    let fits = laws.numbered.fits in
    record {
      wide = laws.wide;
      half = ap (λ z. 2 * n z) c.MID-half.ensures ∙ laws.mid_is_half;
      laws = laws.laws;
      starts = fits c.args.dst.now;
      ends = fits c.args.src.now;
      part = weight_fits g.O.Blend.op fineness g.C.Channel.max _ _ laws.product_law (fits c.args.sa) (omega arith);
    }

pub returns-then-le : goal.returns-then-le
returns-then-le g c =
    let n = g.C.Channel.number in
    let laws = g.met.C.Channel in
    let start = (goal.at.returns-then-le g c).After-MID-half in
    let k = movable g start in
    let near : n c.apart.result ≤ n c.MID-half.result = rw c.if-le.true at (at_most (n c.apart.result) (n c.MID-half.result) _ _ _ (laws.orders c.apart.result c.MID-half.result) (g.met.C.Ord.matches_partial_cmp c.apart.result c.MID-half.result) c.le.ensures) in
    let e = moved_directly _ _ k (weight g start) (laws.numbered.fits c.lerp.result) (omega (arith, c.apart.ensures)) c.lerp.ensures.value in
    record { composite = e; moves = hue_moves _ k e }

pub returns-else-le : goal.returns-else-le
returns-else-le g c =
    let n = g.C.Channel.number in
    let laws = g.met.C.Channel in
    let start = (goal.at.returns-else-le g c).After-MID-half in
    let k = movable g start in
    let far : n c.MID-half.result < n c.apart.result = rw c.if-le.false at (at_most (n c.apart.result) (n c.MID-half.result) _ _ _ (laws.orders c.apart.result c.MID-half.result) (g.met.C.Ord.matches_partial_cmp c.apart.result c.MID-half.result) c.le.ensures) in
    let e = moved_past_zero _ _ _ _ _ k (weight g start) (laws.numbered.fits c.lerp-else-le.result) (omega (arith, c.apart.ensures))
    c.wrapping_add-turned.ensures c.wrapping_add-goal.ensures c.lerp-else-le.ensures.value c.wrapping_sub.ensures
    in
    record { composite = e; moves = hue_moves _ k e }
