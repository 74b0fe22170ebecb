use Rattle.std.proofs.Common.{◌≡◌, ℕ, ◌+◌, ◌-◌, ◌*◌, ◌≤◌, length, map, arith, rules, ap, ◌∙◌}
use borrow.Author.Rules.{scaled_fits≤}
use Rattle.pix_scale.proofs.Sums.{length_part}
use Rattle.pix_scale.specs.Axis.{scaled, channel_at}
use Rattle.pix_scale.specs.Table.{side_axis}
use Rattle.pix_scale.proofs.Written.{rows_none, rows_more}
use Rattle.pix_scale.proofs.draw.draw_rows.Goals as goal

pub loop-y-init : goal.loop-y-init
loop-y-init g c = rows_none _ _ _ _ _

pub returns : goal.returns
returns g c = record {
  pixels = λ x y ch lx ly lc. c.loop-y.invariant.pixels x y ch lx (omega arith) lc;
  stays = λ place none. c.loop-y.invariant.stays place (λ x j lx lj. none x j lx (omega arith));
}

pub offset_bounds-to-at : goal.offset_bounds-to-at
offset_bounds-to-at g c =
    let fit = c.requires.fit c.loop-y.y (omega arith) in
    let le : c.loop-y.y * c.args.rows.stride ≤ length c.loop-y.to = omega (arith, fit) in
    scaled_fits≤ _ (length c.loop-y.to) _ le (search rules)

pub loop-y-preserved : goal.loop-y-preserved
loop-y-preserved g c =
    let count = g.P.Pixel.layout.count in
    let r = g.D.Stored.reads in
    let y = c.loop-y.y in
    let stride = c.args.rows.stride in
    let width = c.args.rows.width in
    let k : ℕ = y * stride + width - y * stride in
    let fit = c.requires.fit y (omega arith) in
    let size = length_part c.loop-y.to (y * stride) k (omega (arith, fit)) in
    let at : c.from-in-loop-y.result + c.from-in-loop-y-2.result ≡ c.args.view.top + y = omega (arith, c.from-in-loop-y.ensures, c.from-in-loop-y-2.ensures) in
    let f : ℕ → ℕ → ℕ → ℕ = λ x j ch. scaled g.P.Chan.Channel.max (side_axis c.args.across) (side_axis c.args.down) (channel_at (map r c.args.from.now) c.args.source.stride ch) (c.args.view.left + x) (c.args.view.top + j) in
    rows_more r (map r c.args.to.now) c.loop-y.to c.draw_row.new.to width stride count f y k c.requires.apart (omega (arith, fit))
    (omega (arith, c.draw_row.auto.to, size)) (omega arith) c.loop-y.invariant
    (λ x ch lx lc. c.draw_row.ensures x ch (omega (arith, c.requires.firsts, lx)) lc
    ∙ ap (λ z. scaled g.P.Chan.Channel.max (side_axis c.args.across) (side_axis c.args.down) (channel_at (map r c.args.from.now) c.args.source.stride ch) (c.args.view.left + x) z) at)
