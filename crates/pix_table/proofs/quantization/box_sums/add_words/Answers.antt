-- Of `add_words`: that the words are those of so many colors after each turn, and that their sums fit.
use Rattle.std.proofs.Common.{◌≡◌, ◌+◌, All, arith, get_or, length-take, map, subst, sym, take, ◌∙◌}
use Rattle.std.proofs.lemmas.List.{get_or_default, length-map}
use Rattle.std.proofs.lemmas.List.Elements.{All-nil, All-push}
use Rattle.pix_table.specs.matching.Nearest.{numbers}
use Rattle.pix_table.specs.quantization.BestPlaces.{AreBytes, another, is_at, other}
use Rattle.pix_table.specs.declared.color.Color.{Color}
use Rattle.pix_table.proofs.lemmas.quantization.BoxSpans.{map_more}
use Rattle.pix_table.proofs.lemmas.quantization.WordLemmas.{word_most, words_more}
use Rattle.pix_table.proofs.quantization.box_sums.add_words.Goals as goal

pub loop-i-init : goal.loop-i-init
loop-i-init c =
    let r = c.requires in
    record { reds = r.red_none; greens = r.green_none; blues = r.blue_none; bytes = All-nil AreBytes }

pub overflow_add-reds : goal.overflow_add-reds
overflow_add-reds c =
    let xs = c.args.colors.now in
    let first = take c.loop-i.i xs in
    omega (
      arith,
      c.requires.few,
      c.loop-i.invariant.reds.each c.from.result (omega arith),
      word_most (is_at 0 c.from.result) 0 (map numbers first) c.loop-i.invariant.bytes,
      length-map first numbers,
      length-take c.loop-i.i xs,
      c.word.ensures.word,
      c.word.ensures.bytes (other 0),
      c.word.ensures.bytes (another 0),
    )

pub overflow_add-greens : goal.overflow_add-greens
overflow_add-greens c =
    let xs = c.args.colors.now in
    let first = take c.loop-i.i xs in
    omega (
      arith,
      c.requires.few,
      c.loop-i.invariant.greens.each c.from-in-loop-i.result (omega arith),
      word_most (is_at 1 c.from-in-loop-i.result) 1 (map numbers first) c.loop-i.invariant.bytes,
      length-map first numbers,
      length-take c.loop-i.i xs,
      c.word-in-loop-i.ensures.word,
      c.word-in-loop-i.ensures.bytes (other 1),
      c.word-in-loop-i.ensures.bytes (another 1),
    )

pub overflow_add-blues : goal.overflow_add-blues
overflow_add-blues c =
    let xs = c.args.colors.now in
    let first = take c.loop-i.i xs in
    omega (
      arith,
      c.requires.few,
      c.loop-i.invariant.blues.each c.from-in-loop-i-2.result (omega arith),
      word_most (is_at 2 c.from-in-loop-i-2.result) 2 (map numbers first) c.loop-i.invariant.bytes,
      length-map first numbers,
      length-take c.loop-i.i xs,
      c.word-in-loop-i-2.ensures.word,
      c.word-in-loop-i-2.ensures.bytes (other 2),
      c.word-in-loop-i-2.ensures.bytes (another 2),
    )

pub loop-i-preserved : goal.loop-i-preserved
loop-i-preserved c =
    let xs = c.args.colors.now in
    let black : Color = record { red = 0; green = 0; blue = 0 } in
    let p : Color = get_or xs c.loop-i.i black in
    let read : p ≡ get_or xs c.loop-i.i p = get_or_default xs c.loop-i.i black p c.loop-i-test.true in
    let before = map numbers (take c.loop-i.i xs) in
    let more = map numbers (take (c.loop-i.i + 1) xs) in
    let grown = map_more numbers xs c.loop-i.i p c.loop-i-test.true read in
    let h = c.loop-i.invariant in
    record {
      reds = words_more 0 c.from.result before more c.loop-i.reds p c.word.result grown h.reds (c.from.ensures ∙ c.channel.ensures) c.word.ensures.word;
      greens = words_more 1 c.from-in-loop-i.result before more c.loop-i.greens p c.word-in-loop-i.result grown h.greens
          (c.from-in-loop-i.ensures ∙ c.channel-in-loop-i.ensures) c.word-in-loop-i.ensures.word;
      blues = words_more 2 c.from-in-loop-i-2.result before more c.loop-i.blues p c.word-in-loop-i-2.result grown h.blues
          (c.from-in-loop-i-2.ensures ∙ c.channel-in-loop-i-2.ensures) c.word-in-loop-i-2.ensures.word;
      bytes = subst (All AreBytes) (sym grown) (All-push AreBytes before (numbers p) h.bytes c.word.ensures.bytes);
    }
