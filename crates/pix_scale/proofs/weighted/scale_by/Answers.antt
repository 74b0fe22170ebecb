use Rattle.std.proofs.Common.{length, sym, ◌∙◌}
use Rattle.pix_scale.proofs.WeightedCalls.{drawable}
use Rattle.pix_scale.proofs.weighted.scale_by.Goals as goal

pub draw_weighted-requires-clause-down : goal.draw_weighted-requires-clause-down
draw_weighted-requires-clause-down g c =
    let fits = drawable (length c.channels-count.result.now) c.args.rows c.args.source c.args.across.firsts.now c.args.across.taps c.args.across.weights.now c.args.down.firsts.now c.args.down.taps c.args.down.weights.now
    (length c.args.to.now) (length c.args.from.now) (length c.args.work.now) (sym c.weighted_fault-fault.ensures ∙ c.in_default.is) in
    fits.down

pub draw_weighted-requires-clause-source : goal.draw_weighted-requires-clause-source
draw_weighted-requires-clause-source g c =
    let fits = drawable (length c.channels-count.result.now) c.args.rows c.args.source c.args.across.firsts.now c.args.across.taps c.args.across.weights.now c.args.down.firsts.now c.args.down.taps c.args.down.weights.now
    (length c.args.to.now) (length c.args.from.now) (length c.args.work.now) (sym c.weighted_fault-fault.ensures ∙ c.in_default.is) in
    fits.source.last

pub draw_weighted-requires-clause-fit : goal.draw_weighted-requires-clause-fit
draw_weighted-requires-clause-fit g c =
    let fits = drawable (length c.channels-count.result.now) c.args.rows c.args.source c.args.across.firsts.now c.args.across.taps c.args.across.weights.now c.args.down.firsts.now c.args.down.taps c.args.down.weights.now
    (length c.args.to.now) (length c.args.from.now) (length c.args.work.now) (sym c.weighted_fault-fault.ensures ∙ c.in_default.is) in
    fits.rows.last
