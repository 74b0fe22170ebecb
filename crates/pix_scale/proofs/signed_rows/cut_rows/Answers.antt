use Rattle.std.proofs.Common.{ℕ, ◌+◌, ◌-◌, ◌*◌, ◌≤◌, length, map, arith, rules, ◌∙◌}
use borrow.Author.Rules.{scaled_fits≤}
use Rattle.std.proofs.lemmas.Nat.{row_fits}
use Rattle.pix_scale.specs.Axis.{channel_at}
use Rattle.pix_scale.specs.Signed.{cut_by, sum_by}
use Rattle.pix_scale.specs.SignedTable.{taps_at}
use Rattle.pix_scale.proofs.Sums.{length_part}
use Rattle.pix_scale.proofs.Written.{rows_none, rows_more}
use Rattle.pix_scale.proofs.SignedRows.{same_cut, same_taps, row_taps, part_adds, some_weights}
use Rattle.pix_scale.proofs.signed_rows.cut_rows.Goals as goal

pub loop-y-init : goal.loop-y-init
loop-y-init g c = rows_none _ _ _ _ _

pub returns : goal.returns
returns g c = record {
  pixels = λ x y ch lx ly lc. c.loop-y.invariant.pixels x y ch lx (omega arith) lc;
  stays = λ place none. c.loop-y.invariant.stays place (λ x j lx lj. none x j lx (omega arith));
}

pub offset_bounds-to-at : goal.offset_bounds-to-at
offset_bounds-to-at g c =
    let fit = c.requires.fit c.loop-y.y (omega arith) in
    let le : c.loop-y.y * c.args.rows.stride ≤ length c.loop-y.to = omega (arith, fit) in
    scaled_fits≤ _ (length c.loop-y.to) _ le (search rules)

pub cut_row-requires-clause-down_adds_up : goal.cut_row-requires-clause-down_adds_up
cut_row-requires-clause-down_adds_up g c =
    let y = c.loop-y.y in
    let taps = c.args.lines_taps in
    let row = row_fits y taps (length c.args.lines.now) taps (omega arith) (omega arith) in
    let m : ℕ = y * taps + taps - y * taps in
    (part_adds c.args.lines_plus.now c.args.lines_minus.now taps y m m (omega arith) (omega arith) (omega (arith, row, c.requires.down.long_plus)) (omega (arith, row, c.requires.down.long_minus))
    (c.requires.down.adds_up y (omega arith)) (c.requires.down.small y (omega arith))).0

pub cut_row-requires-clause-down_some : goal.cut_row-requires-clause-down_some
cut_row-requires-clause-down_some g c =
    let y = c.loop-y.y in
    let taps = c.args.lines_taps in
    let row = row_fits y taps (length c.args.lines.now) taps (omega arith) (omega arith) in
    let m : ℕ = y * taps + taps - y * taps in
    some_weights _ _ _ (part_adds c.args.lines_plus.now c.args.lines_minus.now taps y m m (omega arith) (omega arith) (omega (arith, row, c.requires.down.long_plus)) (omega (arith, row, c.requires.down.long_minus))
    (c.requires.down.adds_up y (omega arith)) (c.requires.down.small y (omega arith))).0

pub cut_row-requires-clause-down_small : goal.cut_row-requires-clause-down_small
cut_row-requires-clause-down_small g c =
    let y = c.loop-y.y in
    let taps = c.args.lines_taps in
    let row = row_fits y taps (length c.args.lines.now) taps (omega arith) (omega arith) in
    let m : ℕ = y * taps + taps - y * taps in
    (part_adds c.args.lines_plus.now c.args.lines_minus.now taps y m m (omega arith) (omega arith) (omega (arith, row, c.requires.down.long_plus)) (omega (arith, row, c.requires.down.long_minus))
    (c.requires.down.adds_up y (omega arith)) (c.requires.down.small y (omega arith))).1

pub loop-y-preserved : goal.loop-y-preserved
loop-y-preserved g c =
    let count = g.P.Pixel.layout.count in
    let layout = g.P.Pixel.layout in
    let r = g.D.Stored.reads in
    let y = c.loop-y.y in
    let stride = c.args.rows.stride in
    let width = c.args.rows.width in
    let taps = c.args.lines_taps in
    let k : ℕ = y * stride + width - y * stride in
    let m : ℕ = y * taps + taps - y * taps in
    let fit = c.requires.fit y (omega arith) in
    let size = length_part c.loop-y.to (y * stride) k (omega (arith, fit)) in
    let row = row_fits y taps (length c.args.lines.now) taps (omega arith) (omega arith) in
    let get : ℕ → ℕ → ℕ → ℕ = channel_at (map r c.args.from.now) c.args.source.stride in
    let f : ℕ → ℕ → ℕ → ℕ = λ x j ch. cut_by layout (λ ch. sum_by (taps_at c.args.firsts.now c.args.plus.now c.args.minus.now c.args.taps x) (taps_at c.args.lines.now c.args.lines_plus.now c.args.lines_minus.now taps j) (get ch)) ch in
    rows_more r (map r c.args.to.now) c.loop-y.to c.cut_row.new.to width stride count f y k c.requires.apart (omega (arith, fit))
    (omega (arith, c.cut_row.auto.to, size)) (omega arith) c.loop-y.invariant
    (λ x ch lx lc. c.cut_row.ensures x ch (omega (arith, c.requires.width, lx)) lc
    ∙ same_cut layout _ _ _ _ get ch (same_taps (taps_at c.args.firsts.now c.args.plus.now c.args.minus.now c.args.taps x))
    (row_taps c.args.lines.now c.args.lines_plus.now c.args.lines_minus.now taps y m m (omega arith) (omega arith)
    (omega (arith, row, c.requires.down.long_plus)) (omega (arith, row, c.requires.down.long_minus))))
