-- Of `number`: the clause `value`, and that the invariant of its loop over `byte` holds after each
-- turn.
use Rattle.std.proofs.Common.{◌≡◌, ◌+◌, ◌<◌, length, get_or, sym, ◌∙◌, arith}
use Rattle.std.proofs.lemmas.Int.Digits.{digits_value_more, digits_more}
use Rattle.std.proofs.lemmas.List.{nil_from_length}
use Rattle.std.proofs.lemmas.Bool.{eqb-true, eqb-false}
use Rattle.pix_script.proofs.NumberLemmas.{number-none, number-other, number-large, number-found, digit_value-digit}
use Rattle.pix_script.proofs.number.number.Goals as goal

pub returns-then-is_empty-clause-value : goal.returns-then-is_empty-clause-value
returns-then-is_empty-clause-value c =
    let empty = eqb-true _ _ (sym c.is_empty.ensures ∙ c.if-is_empty.true) in
    let e = nil_from_length c.args.word.now empty in
    rw e (number-none c.args.limit)

pub returns-then-not-is_ascii_digit-clause-value : goal.returns-then-not-is_ascii_digit-clause-value
returns-then-not-is_ascii_digit-clause-value c =
    let other = sym c.is_ascii_digit.ensures.value ∙ c.if-not-is_ascii_digit.true in
    number-other c.args.limit c.args.word.now c.loop-byte.byte-index c.loop-byte-test.true other

pub returns-then-value-from-clause-value : goal.returns-then-value-from-clause-value
returns-then-value-from-clause-value c =
    let i = c.loop-byte.byte-index in
    let word = c.args.word.now in
    let digit = sym c.is_ascii_digit.ensures.value ∙ c.if-not-is_ascii_digit.false in
    let d = digit_value-digit (get_or word i 0) digit in
    number-large c.args.limit word (i + 1) (omega (arith, digits_value_more 10 word i c.loop-byte-test.true))

pub loop-byte-preserved : goal.loop-byte-preserved
loop-byte-preserved c =
    let i = c.loop-byte.byte-index in
    let word = c.args.word.now in
    let lt = c.loop-byte-test.true in
    let digit = sym c.is_ascii_digit.ensures.value ∙ c.if-not-is_ascii_digit.false in
    let d = digit_value-digit (get_or word i 0) digit in
    record {
      digits = digits_more 10 word i lt c.loop-byte.invariant.digits c.if-not-is_ascii_digit.ensures.bound;
      value_is = omega (arith, digits_value_more 10 word i lt);
      small = omega arith;
    }

pub returns-clause-value : goal.returns-clause-value
returns-clause-value c =
    let word = c.args.word.now in
    let h = c.loop-byte.invariant in
    let e : c.loop-byte.byte-index ≡ length word = omega arith in
    let filled = eqb-false _ _ (sym c.is_empty.ensures ∙ c.if-is_empty.false) in
    let some : 0 < length word = omega (arith, filled) in
    number-found c.args.limit c.loop-byte.value word some (rw (← e) h.digits) (rw (← e) h.value_is) h.small
