-- Of `nearest_by`: that a color that was found has its nearest entry.
use Rattle.std.proofs.Common.{◌≡◌, ◌/◌, ◌%◌, ◌<◌, length, get_or, mod-lt, arith, ◌∙◌, subst}
use Rattle.pix_table.specs.matching.Nearest.{IsNearest, numbers}
use Rattle.pix_table.proofs.lemmas.matching.FoundColors.{answered, same_word}
use Rattle.pix_table.proofs.matching.matcher.nearest_by.Goals as goal

pub returns-then-is_known-clause-nearest : goal.returns-then-is_known-clause-nearest
returns-then-is_known-clause-nearest g c = λ entries finds answers.
    let place = c.place_of.result % length c.args.answers.now in
    let inside : c.place_of.result % length c.args.answers.now < length c.args.answers.now =
    mod-lt c.place_of.result (omega (arith, c.requires)) in
    let word = get_or c.args.answers.now place 0 in
    let e : get_or c.args.answers.now (c.place_of.result % length c.args.answers.now) 0 / 256 ≡ c.word_of-key.result / 256 = omega (arith, c.if-is_known.true) in
    subst (λ l. IsNearest entries l (word % 256)) (same_word word c.word_of-key.result e ∙ c.word_of-key.ensures.color)
    (answers place 0 inside)

pub returns-clause-answers : goal.returns-clause-answers
returns-clause-answers g c = λ entries finds answers.
    answered entries c.args.answers.now (c.place_of.result % length c.args.answers.now) c.word_of-found.result c.nearest_entry-index.result (numbers c.args.clr)
    c.word_of-found.ensures.color c.word_of-found.ensures.index (c.nearest_entry-index.ensures.nearest entries finds) answers
