-- Of `bad_words`: that the invariant of its loop over `place` holds after each turn.
use Rattle.std.proofs.Common.{◌≤◌, length, ap, sym, ◌∙◌}
use Rattle.pix_script.specs.declared.parse.Bad.{Bad}
use Rattle.pix_script.specs.Commands.{is_bad_operator, is_bad_number, is_bad_color}
use Rattle.pix_script.proofs.CheckLemmas.{fails_more, fails_same}
use Rattle.pix_script.proofs.parse.bad_words.Goals as goal
use Rattle.pix_script.proofs.parse.bad_words.Goals.{in-Some, in_default}

pub loop-place-preserved : goal.loop-place-preserved
loop-place-preserved c =
    elim c.match-get.branch [
      | in-Some w ↦ record {
        operator =
            fails_more (λ word. word.now) is_bad_operator c.args.kinds.now c.args.arguments.now c.loop-place.place _ w.in-Some.word.now
            c.loop-place.bad.operator w.bad_word.result.operator c.match-get.bad.operator c.loop-place-test.true w.in-Some.ensures.lookup.3.0 w.in-Some.ensures.lookup.1
            c.loop-place.invariant.operator w.bad_word.ensures.operator (ap (λ (b : Bad). b.operator) w.bad-is ∙ w.or-bad.ensures.operator);
        number =
            fails_more (λ word. word.now) is_bad_number c.args.kinds.now c.args.arguments.now c.loop-place.place _ w.in-Some.word.now
            c.loop-place.bad.number w.bad_word.result.number c.match-get.bad.number c.loop-place-test.true w.in-Some.ensures.lookup.3.0 w.in-Some.ensures.lookup.1
            c.loop-place.invariant.number w.bad_word.ensures.number (ap (λ (b : Bad). b.number) w.bad-is ∙ w.or-bad.ensures.number);
        color =
            fails_more (λ word. word.now) is_bad_color c.args.kinds.now c.args.arguments.now c.loop-place.place _ w.in-Some.word.now
            c.loop-place.bad.color w.bad_word.result.color c.match-get.bad.color c.loop-place-test.true w.in-Some.ensures.lookup.3.0 w.in-Some.ensures.lookup.1
            c.loop-place.invariant.color w.bad_word.ensures.color (ap (λ (b : Bad). b.color) w.bad-is ∙ w.or-bad.ensures.color);
      }
      | in_default w ↦
          let past : length c.args.arguments.now ≤ c.loop-place.place = w.in_default.ensures.lookup.3 in
          record {
            operator =
                ap (λ (b : Bad). b.operator) w.bad-is ∙ c.loop-place.invariant.operator
                ∙ sym (fails_same (λ word. word.now) is_bad_operator c.args.kinds.now c.args.arguments.now c.loop-place.place past);
            number =
                ap (λ (b : Bad). b.number) w.bad-is ∙ c.loop-place.invariant.number
                ∙ sym (fails_same (λ word. word.now) is_bad_number c.args.kinds.now c.args.arguments.now c.loop-place.place past);
            color =
                ap (λ (b : Bad). b.color) w.bad-is ∙ c.loop-place.invariant.color
                ∙ sym (fails_same (λ word. word.now) is_bad_color c.args.kinds.now c.args.arguments.now c.loop-place.place past);
          }
    ]
