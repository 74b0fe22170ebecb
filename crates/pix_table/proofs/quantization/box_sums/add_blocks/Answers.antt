-- Of `add_blocks`: that words of 0 are those of no colors, and that the invariant of its loop holds after each turn.
use Rattle.std.proofs.Common.{◌≤◌, length, length-take, ◌+◌, ◌-◌, ◌*◌, All, arith, drop, map, subst, sym, take, ◌∙◌}
use Rattle.std.proofs.lemmas.List.{length-map}
use Rattle.std.proofs.lemmas.List.Elements.{All-append}
use Rattle.pix_table.specs.matching.Nearest.{numbers}
use Rattle.pix_table.specs.quantization.BestPlaces.{AreByValue, AreBytes}
use Rattle.pix_table.proofs.lemmas.quantization.WordLemmas.{block_end, block_more, words_none}
use Rattle.pix_table.proofs.quantization.box_sums.add_blocks.Goals as goal

pub add_words-requires-clause-red_none : goal.add_words-requires-clause-red_none
add_words-requires-clause-red_none c = words_none 0

pub add_words-requires-clause-green_none : goal.add_words-requires-clause-green_none
add_words-requires-clause-green_none c = words_none 1

pub add_words-requires-clause-blue_none : goal.add_words-requires-clause-blue_none
add_words-requires-clause-blue_none c = words_none 2

pub loop-i-preserved : goal.loop-i-preserved
loop-i-preserved c =
    let xs = c.args.colors.now in
    let start = c.loop-i.i * 65535 in
    let end = c.min-end.result in
    let next = (c.loop-i.i + 1) * 65535 in
    let before = map numbers (take start xs) in
    let block = map numbers (take (end - start) (drop start xs)) in
    let short : length (map numbers (take (c.min-end.result - c.loop-i.i * 65535) (drop (c.loop-i.i * 65535) c.args.colors.now))) ≤ 65535 =
    omega (arith, length-map (take (end - start) (drop start xs)) numbers, length-take (end - start) (drop start xs), c.min-end.ensures) in
    let w = c.add_words.ensures in
    let h = c.loop-i.invariant in
    let grown = block_end xs end next (omega (arith, c.min-end.ensures)) ∙ block_more xs start end (omega arith) in
    record {
      reds = subst (λ l. AreByValue 0 l c.add_block.new.parts) (sym grown) (c.add_block.ensures before block (short, w.bytes, w.reds) h.reds);
      greens = subst (λ l. AreByValue 1 l c.add_block-in-loop-i.new.parts) (sym grown) (c.add_block-in-loop-i.ensures before block (short, w.bytes, w.greens) h.greens);
      blues = subst (λ l. AreByValue 2 l c.add_block-in-loop-i-2.new.parts) (sym grown) (c.add_block-in-loop-i-2.ensures before block (short, w.bytes, w.blues) h.blues);
      bytes = subst (All AreBytes) (sym grown)
          (All-append AreBytes (map numbers (take start xs)) (map numbers (take (end - start) (drop start xs))) c.loop-i.invariant.bytes
          c.add_words.ensures.bytes);
    }
