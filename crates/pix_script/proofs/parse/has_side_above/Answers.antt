use Rattle.std.proofs.Common.{sym, ◌∙◌}
use Rattle.pix_script.proofs.CheckLemmas.{above_here, above_more}
use Rattle.pix_script.proofs.parse.has_side_above.Goals as goal

pub returns-then-is_above : goal.returns-then-is_above
returns-then-is_above c =
    sym (above_here (λ word. word.now) 1024 c.args.arguments.now c.loop-word.word-index _ c.loop-word-test.true (sym c.is_above.ensures ∙ c.if-is_above.true))

pub loop-word-preserved : goal.loop-word-preserved
loop-word-preserved c =
    above_more (λ word. word.now) 1024 c.args.arguments.now c.loop-word.word-index _ c.loop-word-test.true (sym c.is_above.ensures ∙ c.if-is_above.false)
    c.loop-word.invariant
