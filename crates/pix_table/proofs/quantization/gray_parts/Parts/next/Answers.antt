-- Of `next`: that the places are levels, that the invariant of its loop holds at first and after each turn, and what it returns.
use Rattle.std.proofs.Common.{◌+◌, ◌-◌, get_or, min, arith, ap, ◌∙◌}
use Rattle.pix_table.specs.quantization.GrayLevels.{error_of}
use Rattle.pix_table.proofs.lemmas.quantization.LevelLemmas.{between, error_small, errors_crossed, no_error}
use Rattle.pix_table.proofs.lemmas.quantization.PartLemmas.{all_found, next_found, none_found}
use Rattle.pix_table.proofs.quantization.gray_parts.Parts.next.Goals as goal

pub loop-i-init : goal.loop-i-init
loop-i-init c = none_found (error_of c.args.sums.now) c.args.len (λ b. get_or c.args.self.now.errors b 0)

pub best_start-best-requires-clause-between : goal.best_start-best-requires-clause-between
best_start-best-requires-clause-between c =
    let r = c.requires.levels in
    λ a l. between r.0 r.1 c.args.len c.args.sums.now r.2 a _ (omega arith) (omega arith)

pub best_start-best-requires-clause-small_parts : goal.best_start-best-requires-clause-small_parts
best_start-best-requires-clause-small_parts c =
    let r = c.requires.levels in
    λ a l. error_small r.0 r.1 c.args.len c.args.sums.now r.2 a _ (omega arith) (omega arith)

pub loop-i-preserved : goal.loop-i-preserved
loop-i-preserved c =
    let r = c.requires.levels in
    let d = c.args.len in
    let all = c.args.sums.now in
    let e = c.best_start-best.ensures in
    next_found (error_of all) d (no_error r.0 r.1 d all r.2) (errors_crossed r.0 r.1 d all r.2) (λ b. get_or c.args.self.now.errors b 0)
    (λ b. get_or c.args.self.now.starts b 0) c.requires.sooner c.requires.stand c.loop-i.errors c.loop-i.starts c.loop-i.latest c.loop-i.i (c.loop-i.i + 1)
    (d - 1 - c.loop-i.i) (d - 1 - c.loop-i.i + 1) c.min-last.result c.min-first.result c.best_start-best.result.level c.best_start-best.result.error
    (omega (arith, r.2.levels.few)) (omega arith) (omega arith) (omega arith) c.loop-i.invariant c.min-last.ensures (c.min-first.ensures ∙ ap (λ k. min k c.min-last.result) c.from-earliest.ensures) e.first e.last e.made e.least
    c.requires.before (λ b l. error_small r.0 r.1 d all r.2 0 b (omega arith) l)

pub returns-clause-next : goal.returns-clause-next
returns-clause-next c =
    all_found (error_of c.args.sums.now) c.args.len (λ b. get_or c.args.self.now.errors b 0) c.loop-i.errors c.loop-i.starts c.loop-i.latest c.loop-i.i
    (omega arith) c.loop-i.invariant

pub returns-clause-small : goal.returns-clause-small
returns-clause-small c = c.loop-i.invariant.small
