use Rattle.std.proofs.Common.{rules, tests, ◌++◌, map, ap, ◌∙◌}
use Rattle.std.proofs.lemmas.Iterator.Consumers.{YieldsList-from_filter, YieldsList-at}
use Rattle.std.proofs.lemmas.Iterator.Splits.{YieldsList-from_slice_split}
use Rattle.pix_script.specs.Lines.{words_of}
use Rattle.pix_script.proofs.LineLemmas.{added_by_extend}
use Rattle.pix_script.proofs.lines.read_words.Goals as goal

pub returns : goal.returns
unfolding words_of
returns c =
    added_by_extend c.extend.result c.extend.ensures.ran (λ word. word.now)
    (YieldsList-from_filter _ _
    (YieldsList-at c.filter.ensures.source
    (YieldsList-from_slice_split _ _ c.args.line.now c.split.ensures.rest c.split.ensures.done
    c.split.ensures.closure (λ x r q k. search (rules, tests))))
    c.filter.ensures.closure (λ x r q k. search (rules, tests)))
    (λ xs all e. ap (map (λ word. word.now)) (e.0 ∙ ap (λ ws. ws ++ xs) c.clear.ensures.items) ∙ all)
