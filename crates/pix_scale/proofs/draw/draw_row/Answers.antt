use Rattle.std.proofs.Common.{◌≡◌, ◌+◌, ◌*◌, ◌^◌, length, slice_index, arith, sym, ap, subst, ◌∙◌}
use Rattle.std.proofs.Math.Nat.{mul-le-mul_right}
use Rattle.pix_scale.specs.Axis.{total}
use Rattle.pix_scale.specs.Table.{tap, side_axis, IsTable}
use Rattle.pix_scale.proofs.Tables.{row_total}
use Rattle.pix_scale.proofs.Draws.{whole_some, taps_some, factor_small, rows_lie}
use Rattle.pix_scale.proofs.draw.draw_row.Goals as goal

pub scale_row-requires-clause-table : goal.scale_row-requires-clause-table
scale_row-requires-clause-table g c = c.requires.weights ∙ ap (λ t. length c.args.firsts.now * t) (sym c.taps-taps.ensures.value)

pub scale_row-requires-clause-high : goal.scale_row-requires-clause-high
scale_row-requires-clause-high g c = λ i lt. omega (arith, c.requires.high i lt, c.taps-taps.ensures.value)

pub scale_row-requires-clause-sums : goal.scale_row-requires-clause-sums
scale_row-requires-clause-sums g c = omega (arith, c.requires.sums, mul-le-mul_right g.P.Pixel.layout.count c.requires.within)

pub scale_row-requires-clause-fits : goal.scale_row-requires-clause-fits
scale_row-requires-clause-fits g c = λ i lt.
    let x = c.args.across in
    let y = c.args.down in
    let ws = c.args.weights.now in
    let taps = c.taps-taps.result in
    let all : total taps (tap ws taps i) ≡ (side_axis x).whole =
    ap (λ t. total t (tap ws t i)) c.taps-taps.ensures.value
    ∙ row_total x.kernel x.places c.args.view.across x.n x.m (c.args.view.left + i) (slice_index c.args.firsts.now i) (side_axis x).taps (tap ws (side_axis x).taps i) c.requires.sides.across_side (omega arith) (c.requires.table i lt) in
    let small = factor_small (side_axis x).whole (side_axis y).whole (2 ^ 31) (whole_some y.kernel y.places c.args.view.down y.n y.m c.requires.sides.down_side) c.requires.sides.wholes_fit in
    omega (arith, all, small)

pub scale_row-requires-clause-down_some : goal.scale_row-requires-clause-down_some
scale_row-requires-clause-down_some g c =
    let y = c.args.down in
    let some = taps_some y.kernel y.places c.args.view.down y.n y.m c.requires.sides.down_side in
    omega (arith, some, c.requires.row, c.weigh-first.auto.row)

pub scale_row-requires-clause-down_inside : goal.scale_row-requires-clause-down_inside
scale_row-requires-clause-down_inside g c =
    let y = c.args.down in
    rows_lie y.kernel y.places c.args.view.down y.n y.m c.args.y c.weigh-first.result c.args.stride c.args.high (length c.args.from.now) (length c.weigh-first.new.row) (slice_index c.weigh-first.new.row)
    c.weigh-first.ensures.row (λ v lt. omega (arith, c.requires.sides.source v lt, c.requires.within))

pub scale_row-requires-clause-down_fits : goal.scale_row-requires-clause-down_fits
scale_row-requires-clause-down_fits g c =
    let y = c.args.down in
    let all = row_total y.kernel y.places c.args.view.down y.n y.m c.args.y c.weigh-first.result (length c.weigh-first.new.row) (slice_index c.weigh-first.new.row) c.requires.sides.down_side c.requires.y c.weigh-first.ensures.row in
    omega (arith, ap (λ w. w * g.P.Chan.Channel.max) all, c.requires.sides.column_fits)

pub scale_row-requires-clause-bound : goal.scale_row-requires-clause-bound
scale_row-requires-clause-bound g c = λ i lt.
    let x = c.args.across in
    let y = c.args.down in
    let ws = c.args.weights.now in
    let taps = c.taps-taps.result in
    let columns : total taps (tap ws taps i) ≡ (side_axis x).whole =
    ap (λ t. total t (tap ws t i)) c.taps-taps.ensures.value
    ∙ row_total x.kernel x.places c.args.view.across x.n x.m (c.args.view.left + i) (slice_index c.args.firsts.now i) (side_axis x).taps (tap ws (side_axis x).taps i) c.requires.sides.across_side (omega arith) (c.requires.table i lt) in
    let rows = row_total y.kernel y.places c.args.view.down y.n y.m c.args.y c.weigh-first.result (length c.weigh-first.new.row) (slice_index c.weigh-first.new.row) c.requires.sides.down_side c.requires.y c.weigh-first.ensures.row in
    rw (columns, rows) (omega (arith, c.requires.by))

pub returns : goal.returns
returns g c =
    c.scale_row.ensures (side_axis c.args.across) (side_axis c.args.down) c.args.view.left c.args.y
    (subst (λ t. IsTable (side_axis c.args.across) c.args.view.left c.args.firsts.now c.args.weights.now t) (sym c.taps-taps.ensures.value) c.requires.table)
    c.weigh-first.ensures.row c.requires.by
