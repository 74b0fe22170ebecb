-- Of `lerp`: the clause `value`, and that its numbers fit.
use Rattle.std.proofs.Common.{arith, ◌≤◌, ◌-◌}
use Rattle.pix_chan.proofs.Whole.{lerp_up, lerp_down, part_fits}
use Rattle.pix_chan.proofs.chan.whole.lerp.Goals as goal

pub overflow_sub-result-else-start-end : goal.overflow_sub-result-else-start-end
overflow_sub-result-else-start-end c =
    let u : c.units_down.result ≤ c.args.start - c.args.end = c.units_down.ensures.within _ (part_fits _ _ _ c.requires.part) in
    omega arith

pub returns-then-start-end-clause-value : goal.returns-then-start-end-clause-value
returns-then-start-end-clause-value c = lerp_up _ _ _ _ (omega arith)

pub returns-else-start-end-clause-value : goal.returns-else-start-end-clause-value
returns-else-start-end-clause-value c =
    let u : c.units_down.result ≤ c.args.start - c.args.end = c.units_down.ensures.within _ (part_fits _ _ _ c.requires.part) in
    lerp_down _ _ _ _ _ (omega arith) (omega arith) c.units_down.ensures.value
