-- Of `add_block`: that the invariant of its loop holds, and that the sums are few.
use Rattle.std.proofs.Common.{◌≢◌, ◌≡◌, ◌+◌, ◌*◌, ◌≤◌, ◌++◌, arith, get_or, subst, sym, length-set, ◌∙◌}
use Rattle.std.proofs.lemmas.List.{get_or-set_other}
use Rattle.pix_table.specs.quantization.BestPlaces.{AreSums, is_at}
use Rattle.pix_table.specs.declared.quantization.box_sums.Sums.{Sums}
use Rattle.pix_table.proofs.lemmas.quantization.BoxSumLemmas.{both_few, count_few, sums_joined}
use Rattle.pix_table.proofs.lemmas.quantization.WordLemmas.{done_more, done_set, word_zero}
use Rattle.pix_table.proofs.quantization.box_sums.add_block.Goals as goal

abbrev nothing : Sums
nothing = record { count = 0; red = 0; green = 0; blue = 0 }

pub loop-value-init : goal.loop-value-init
loop-value-init c = record {
  many = c.requires.boxes.3.many;
  done = λ before block words values v d small. absurd (omega arith);
  rest = λ before values v d past small. values.each v d small;
}

pub loop-value-preserved-then-words-value-eq0 : goal.loop-value-preserved-then-words-value-eq0
loop-value-preserved-then-words-value-eq0 c =
    let k = c.args.k in
    let value = c.loop-value.value in
    let h = c.loop-value.invariant in
    record {
      many = h.many;
      done = λ before block words values.
          done_more (λ v s. AreSums (is_at k v) (before ++ block) s) c.loop-value.parts value (h.done before block words values)
          (λ d. word_zero (is_at k value) k before block _ _ words.1 (words.2.each value c.loop-value-test.true) c.if-words-value-eq0.true
          (h.rest before values value d (omega arith) c.loop-value-test.true));
      rest = λ before values v d past small. h.rest before values v d (omega (arith, past)) small;
    }

-- the sums of a value, of the colors before and of this block
part : (c : goal.After-of_word)
    → AreSums (is_at c.args.k c.loop-value.value) c.requires.boxes.0 (get_or c.loop-value.parts c.loop-value.value nothing)
part c = c.loop-value.invariant.rest c.requires.boxes.0 c.requires.boxes.3 c.loop-value.value nothing (omega arith) c.loop-value-test.true

more : (c : goal.After-of_word) → AreSums (is_at c.args.k c.loop-value.value) c.requires.boxes.1 c.of_word.result
more c =
    let words = c.requires.boxes.2 in
    c.of_word.ensures c.requires.boxes.1 words.0 words.1 (words.2.each c.loop-value.value c.loop-value-test.true)

few : (c : goal.After-of_word)
    → let s = get_or c.loop-value.parts c.loop-value.value nothing in
    let t = c.of_word.result in
    (s.red + t.red ≤ 255 * (s.count + t.count)) × (s.green + t.green ≤ 255 * (s.count + t.count)) × (s.blue + t.blue ≤ 255 * (s.count + t.count))
few c = both_few _ _ _ _ _ _ c.requires.boxes.4 c.requires.boxes.2.1 (part c) (more c)

pub and-requires-clause-few : goal.and-requires-clause-few
and-requires-clause-few c = omega (arith, count_few _ _ _ (part c), count_few _ _ _ (more c), c.requires.boxes.5)

pub and-requires-clause-red : goal.and-requires-clause-red
and-requires-clause-red c = (few c).0

pub and-requires-clause-green : goal.and-requires-clause-green
and-requires-clause-green c = (few c).1

pub and-requires-clause-blue : goal.and-requires-clause-blue
and-requires-clause-blue c = (few c).2

pub loop-value-preserved : goal.loop-value-preserved
loop-value-preserved c =
    let k = c.args.k in
    let value = c.loop-value.value in
    let h = c.loop-value.invariant in
    let e = c.and.ensures in
    record {
      many = length-set c.loop-value.parts value c.and.result ∙ h.many;
      done = λ before block words values.
          let here = h.rest before values value nothing (omega arith) c.loop-value-test.true in
          let also = c.of_word.ensures block words.0 words.1 (words.2.each value c.loop-value-test.true) in
          let both = sums_joined (is_at k value) before block _ c.of_word.result c.and.result here also e.count e.red e.green e.blue in
          done_set (λ v s. AreSums (is_at k v) (before ++ block) s) c.loop-value.parts value c.and.result (omega (arith, h.many))
          (h.done before block words values) both;
      rest = λ before values v d past small.
          let apart : v ≢ c.loop-value.value = (λ same. omega (arith, past, same)) in
          subst (AreSums (is_at k v) before) (sym (get_or-set_other c.loop-value.parts value v c.and.result d apart))
          (h.rest before values v d (omega (arith, past)) small);
    }

pub returns : goal.returns
returns c = λ before block words values.
    let e : c.loop-value.value ≡ 256 = omega arith in
    record { many = c.loop-value.invariant.many; each = λ v d small. c.loop-value.invariant.done before block words values v d (omega (arith, e, small)) }
