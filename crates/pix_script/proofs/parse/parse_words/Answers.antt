-- Of `parse_words`: what it reads where the first word names a command.
use Rattle.std.proofs.Common.{◌≡◌, ◌∙◌, false, map, rules}
use Rattle.std.proofs.lemmas.Result.{err_from_is_err_and}
use Rattle.pix_script.specs.Commands.{is_comment}
use Rattle.pix_script.proofs.WordLemmas.{row_of_named, problem_is, meaning_is}
use Rattle.pix_script.proofs.parse.parse_words.Goals as goal

pub returns-in_err-check : goal.returns-in_err-check
returns-in_err-check c =
    let name = c.args.name.now in
    let words = map (λ word. word.now) c.args.arguments.now in
    let row = c.in-Some.row in
    let other : is_comment name ≡ false = search rules in
    let is = row_of_named name words row c.in-Some.ensures.shape c.in-Some.ensures.line in
    let p = err_from_is_err_and c.from_residual.result c.from_residual.ensures.1 in
    rw (p.1, p.2) (problem_is c.args.earlier name words row other c.in-Some.ensures.shape ∙ c.in_err-check.ensures is)

pub returns : goal.returns
returns c =
    let name = c.args.name.now in
    let words = map (λ word. word.now) c.args.arguments.now in
    let row = c.in-Some.row in
    let other : is_comment name ≡ false = search rules in
    let is = row_of_named name words row c.in-Some.ensures.shape c.in-Some.ensures.line in (
      problem_is c.args.earlier name words row other c.in-Some.ensures.shape ∙ c.in_ok-check.ensures is,
      meaning_is name words row c.in-Some.ensures.line,
    )
