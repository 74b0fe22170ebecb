use Rattle.std.proofs.Common.{◌+◌, ◌-◌, ◌*◌, length, arith, ap, ◌∙◌}
use Rattle.std.specs.Int.{abs_diff}
use Rattle.pix_scale.specs.declared.filter.Kernel.TheVariants.{Point, Box, Line, Triangle}
use Rattle.pix_scale.proofs.Tables.{row_by, point_weighs, marks_from, some_from}
use Rattle.pix_scale.proofs.weights.weigh.Goals as goal

pub parts-requires-clause-some : goal.parts-requires-clause-some
parts-requires-clause-some c =
    some_from c.args.side.kernel c.args.side.places c.args.size c.args.side.n c.args.side.m c.args.i c.min-first.result (length c.args.row.now) c.in-Triangle.is c.requires.side c.requires.i
    (omega (arith, c.requires.taps)) (omega (arith, c.requires.taps))

pub returns-in-Point-clause-row : goal.returns-in-Point-clause-row
returns-in-Point-clause-row c =
    row_by Point c.args.side.kernel c.args.side.places c.args.size c.args.side.n c.args.side.m c.args.i c.min-first.result c.ones.new.row
    c.in-Point.is c.requires.side c.requires.i (omega (arith, c.requires.taps)) (omega (arith, c.requires.taps))
    (λ side first taps. point_weighs c.args.side.places c.args.size c.args.side.n c.args.side.m c.args.i c.min-first.result c.ones.new.row side c.requires.i first taps
    (λ k lt. c.ones.ensures k (omega arith)))

pub returns-in-Box-clause-row : goal.returns-in-Box-clause-row
returns-in-Box-clause-row c =
    row_by Box c.args.side.kernel c.args.side.places c.args.size c.args.side.n c.args.side.m c.args.i c.min-first.result c.overlaps.new.row
    c.in-Box.is c.requires.side c.requires.i (omega (arith, c.requires.taps)) (omega (arith, c.requires.taps))
    (λ side first taps k lt. c.overlaps.ensures k (omega arith))

pub returns-in-Line-clause-row : goal.returns-in-Line-clause-row
returns-in-Line-clause-row c =
    row_by Line c.args.side.kernel c.args.side.places c.args.size c.args.side.n c.args.side.m c.args.i c.min-first.result c.tents.new.row
    c.in-Line.is c.requires.side c.requires.i (omega (arith, c.requires.taps)) (omega (arith, c.requires.taps))
    (λ side first taps k lt. c.tents.ensures k (omega arith)
    ∙ ap (λ p. 2 * c.args.side.m - abs_diff ((2 * (c.min-first.result + k) + 1) * c.args.side.m) p) c.held.ensures)

pub returns-in-Triangle-clause-row : goal.returns-in-Triangle-clause-row
returns-in-Triangle-clause-row c =
    row_by Triangle c.args.side.kernel c.args.side.places c.args.size c.args.side.n c.args.side.m c.args.i c.min-first.result c.parts.new.row
    c.in-Triangle.is c.requires.side c.requires.i (omega (arith, c.requires.taps)) (omega (arith, c.requires.taps))
    (λ side first taps k lt. c.parts.ensures k (omega arith)
    ∙ marks_from c.args.side.places c.args.size c.args.side.n c.args.side.m c.args.i c.min-first.result (length c.args.row.now) k side c.requires.i first (omega (arith, taps)))
