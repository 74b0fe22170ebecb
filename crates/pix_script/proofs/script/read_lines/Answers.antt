use Rattle.std.proofs.Common.{length, eqb, rules, tests, arith}
use Rattle.std.proofs.lemmas.List.{length_push}
use Rattle.std.proofs.lemmas.Iterator.Consumers.{YieldsList-from_enumerate, YieldsList-at, YieldsList-turn, YieldsList-end}
use Rattle.std.proofs.lemmas.Iterator.Splits.{YieldsList-from_slice_split}
use Rattle.std.proofs.lemmas.Result.{err_from_is_err_and}
use Rattle.std.specs.Str.Lines.{strip_carriage_return}
use Rattle.pix_script.specs.Lines.{words_of, lines_of}
use Rattle.pix_script.specs.Reading.{held}
use Rattle.pix_script.proofs.ReadingLemmas.{line_at, lines_len, line_done, read_fails, all_done}
use Rattle.pix_script.proofs.script.read_lines.Goals as goal

pub loop-index-preserved : goal.loop-index-preserved
loop-index-preserved c =
    let h = line_at c.args.script.now (length c.loop-index.yielded) c.in-Some.index c.in-Some.line.now
    (YieldsList-turn
    (YieldsList-at c.into_iter-index-iterator.ensures.into_iter_gives (YieldsList-from_enumerate (YieldsList-at c.enumerate-index-items.ensures.source
    (YieldsList-from_slice_split _ (λ b. eqb b 10) c.args.script.now c.split.ensures.rest c.split.ensures.done c.split.ensures.closure (λ x r q k. search (rules, tests)))) c.enumerate-index-items.ensures.count))
    c.loop-index.yielded _ c.loop-index.yielded_by _ _ (c.in-Some.index, c.in-Some.line) c.in-Some.is c.next.ensures.steps) in
    let done = c.in_ok-read_line.ensures in
    rw (length_push c.loop-index.yielded (c.in-Some.index, c.in-Some.line))
    (line_done (lines_of c.args.script.now) (length c.loop-index.yielded) (held c.loop-index.read) (held c.read_line.new.self)
    (words_of (strip_carriage_return c.in-Some.line.now)) c.loop-index.invariant h.within h.words done.0 done.1)

pub returns-in_err-read_line : goal.returns-in_err-read_line
returns-in_err-read_line c =
    let p = err_from_is_err_and c.from_residual.result c.from_residual.ensures.1 in
    let h = line_at c.args.script.now (length c.loop-index.yielded) c.in-Some.index c.in-Some.line.now
    (YieldsList-turn
    (YieldsList-at c.into_iter-index-iterator.ensures.into_iter_gives (YieldsList-from_enumerate (YieldsList-at c.enumerate-index-items.ensures.source
    (YieldsList-from_slice_split _ (λ b. eqb b 10) c.args.script.now c.split.ensures.rest c.split.ensures.done c.split.ensures.closure (λ x r q k. search (rules, tests)))) c.enumerate-index-items.ensures.count))
    c.loop-index.yielded _ c.loop-index.yielded_by _ _ (c.in-Some.index, c.in-Some.line) c.in-Some.is c.next.ensures.steps) in
    rw (p.1, p.2)
    (read_fails c.args.script.now c.in_err-read_line.field-0.0 (length c.loop-index.yielded) c.in-Some.index c.in-Some.line.now
    (held c.loop-index.read) (held c.read_line.new.self) c.loop-index.invariant h c.in_err-read_line.ensures)

pub returns : goal.returns
returns c =
    let e = YieldsList-end
    (YieldsList-at c.into_iter-index-iterator.ensures.into_iter_gives (YieldsList-from_enumerate (YieldsList-at c.enumerate-index-items.ensures.source
    (YieldsList-from_slice_split _ (λ b. eqb b 10) c.args.script.now c.split.ensures.rest c.split.ensures.done c.split.ensures.closure (λ x r q k. search (rules, tests)))) c.enumerate-index-items.ensures.count))
    c.loop-index.yielded _ c.loop-index.yielded_by _ _ c.in-None.is c.next.ensures.steps in
    all_done (lines_of c.args.script.now) (length c.loop-index.yielded) (held c.loop-index.read) c.loop-index.invariant (omega (arith, lines_len c.args.script.now, e.1))
