use Rattle.std.proofs.Common.{◌≡◌, ℕ, ◌+◌, ◌-◌, ◌*◌, ◌<◌, ◌≤◌, length, get_or, map, [], arith, rules, sym, ap, subst, ◌∙◌}
use borrow.Author.Rules.{scaled_fits≤}
use Rattle.pix_el.specs.Pixel.{Layout}
use Rattle.pix_scale.specs.Axis.{scaled, channel_at}
use Rattle.pix_scale.specs.Table.{side_axis, IsSide}
use Rattle.pix_scale.specs.declared.filter.Kernel.TheVariants.{Point}
use Rattle.pix_scale.proofs.Sums.{length_part}
use Rattle.pix_scale.proofs.Places.{nearest_place}
use Rattle.pix_scale.proofs.Drawn.{value_of_rest}
use Rattle.pix_scale.proofs.Flat.{channel_small}
use Rattle.pix_scale.proofs.Singles.{nearest_scaled}
use Rattle.pix_scale.proofs.Windows.{length_rest}
use Rattle.pix_scale.proofs.Written.{rows_none, rows_more}
use Rattle.pix_scale.proofs.points.draw_points.Goals as goal

pub middles-requires-clause-side : goal.middles-requires-clause-side
middles-requires-clause-side g c =
    let x = c.args.across in
    subst (λ s. IsSide Point x.places s x.n x.m) (sym c.from.ensures)
    (subst (λ k. IsSide k x.places c.args.view.across x.n x.m) c.requires.across c.requires.sides.across_side)

pub middle-line-requires-clause-side : goal.middle-line-requires-clause-side
middle-line-requires-clause-side g c =
    let x = c.args.down in
    subst (λ s. IsSide Point x.places s x.n x.m) (sym c.from-in-loop-y.ensures)
    (subst (λ k. IsSide k x.places c.args.view.down x.n x.m) c.requires.down c.requires.sides.down_side)

pub loop-y-init : goal.loop-y-init
loop-y-init g c = rows_none _ _ _ _ _

pub offset_bounds-to-at : goal.offset_bounds-to-at
offset_bounds-to-at g c =
    let fit = c.requires.fit c.loop-y.y (omega arith) in
    let le : c.loop-y.y * c.args.rows.stride ≤ length c.loop-y.to = omega (arith, fit) in
    scaled_fits≤ _ (length c.loop-y.to) _ le (search rules)

pub copy_pixels-requires-clause-inside : goal.copy_pixels-requires-clause-inside
copy_pixels-requires-clause-inside g c = λ i lt.
    let start : ℕ = c.middle-line.result * c.args.source.stride in
    let row = c.requires.sides.source c.middle-line.result c.middle-line.ensures.inside in
    let in_ = c.middles.ensures.inside i (omega (arith, lt, c.middles.auto.firsts)) in
    omega (arith, length_rest c.args.from.now start, row, in_)

pub loop-y-preserved : goal.loop-y-preserved
loop-y-preserved g c =
    let count = g.P.Pixel.layout.count in
    let r = g.D.Stored.reads in
    let max = g.P.Chan.Channel.max in
    let y = c.loop-y.y in
    let stride = c.args.rows.stride in
    let width = c.args.rows.width in
    let across = c.args.across in
    let down = c.args.down in
    let from = c.args.from.now in
    let k : ℕ = y * stride + width - y * stride in
    let fit = c.requires.fit y (omega arith) in
    let size = length_part c.loop-y.to (y * stride) k (omega (arith, fit)) in
    let at : c.from-in-loop-y-2.result + c.from-in-loop-y-3.result ≡ c.args.view.top + y = omega (arith, c.from-in-loop-y-2.ensures, c.from-in-loop-y-3.ensures) in
    let start : ℕ = c.middle-line.result * c.args.source.stride in
    let get : ℕ → ℕ → ℕ → ℕ = channel_at (map r from) c.args.source.stride in
    let f : ℕ → ℕ → ℕ → ℕ = λ x j ch. scaled max (side_axis across) (side_axis down) (get ch) (c.args.view.left + x) (c.args.view.top + j) in
    let small = channel_small r g.P.Pixel.layout.max g.met.D.Stored.fits from in
    let top : g.P.Pixel.layout.max ≡ max = ap (λ (l : Layout). l.max) g.met.P.Pixel.laid_out in
    rows_more r (map r c.args.to.now) c.loop-y.to c.copy_pixels.new.to width stride count f y k c.requires.apart (omega (arith, fit))
    (omega (arith, c.copy_pixels.auto.to, size)) (omega arith) c.loop-y.invariant
    (λ x ch lx lc.
    let u : ℕ = nearest_place across.n across.m (c.args.view.left + x) in
    let v : ℕ = nearest_place down.n down.m (c.args.view.top + y) in
    let in_ : x < length c.args.firsts.now = omega (arith, c.requires.firsts, lx) in
    let place : get_or c.middles.new.firsts x 0 ≡ u = c.middles.ensures.places x in_ ∙ ap (λ l. nearest_place across.n across.m (l + x)) c.from-2.ensures in
    let line : c.middle-line.result ≡ v = c.middle-line.ensures.value ∙ ap (nearest_place down.n down.m) at in
    let spot : start + get_or c.middles.new.firsts x 0 ≡ v * c.args.source.stride + u = omega (arith, place, ap (λ l. l * c.args.source.stride) line) in
    ap (λ p. get_or p ch 0)
    (c.copy_pixels.ensures x (omega (arith, in_, c.middles.auto.firsts))
    ∙ value_of_rest r from start (get_or c.middles.new.firsts x 0)
    ∙ ap (λ p. get_or (map r from) p []) spot)
    ∙ sym (nearest_scaled max across down c.args.view.across c.args.view.down (get ch) (c.args.view.left + x) (c.args.view.top + y) c.requires.across c.requires.down
    c.requires.sides.across_side c.requires.sides.down_side (omega (arith, c.requires.left, lx)) (omega (arith, c.requires.top))
    (omega (arith, small (v * c.args.source.stride + u) ch, top))))

pub returns : goal.returns
returns g c = record {
  pixels = λ x y ch lx ly lc. c.loop-y.invariant.pixels x y ch lx (omega arith) lc;
  stays = λ place none. c.loop-y.invariant.stays place (λ x j lx lj. none x j lx (omega arith));
}
