-- Of `add_word`: that the word fits, and that it is added to those of the box.
use Rattle.std.proofs.Common.{◌*◌, length, arith, ap₂, get_or, ◌∙◌}
use Rattle.pix_table.specs.matching.Nearest.{numbers}
use Rattle.pix_table.specs.quantization.BestPlaces.{is_at}
use Rattle.pix_table.proofs.lemmas.quantization.ColorItems.{word_few, words_room, words_times}
use Rattle.pix_table.proofs.lemmas.quantization.WordLemmas.{word_most}
use Rattle.pix_table.proofs.quantization.color_items.add_word.Goals as goal

pub overflow_add-words : goal.overflow_add-words
overflow_add-words c =
    let r = c.requires.words in
    let v = c.from-2.result in
    let few = word_few c.args.k c.word.result (numbers c.args.clr) c.word.ensures.word c.word.ensures.bytes in
    let most = word_most (is_at c.args.k v) c.args.k r.0 r.2 in
    omega (
      arith,
      c.from.ensures,
      r.1.each v (omega arith),
      words_room c.from.result c.word.result (get_or c.args.words.now v 0) (length r.0) few (omega (arith, r.1.each v (omega arith), most))
          (omega (arith, c.from.ensures, r.3)),
    )

pub returns-clause-words : goal.returns-clause-words
returns-clause-words c = λ box h.
    words_times c.args.k c.from-2.result c.args.count box c.args.words.now c.args.clr (c.from.result * c.word.result) h
    (c.from-2.ensures ∙ c.channel.ensures) (ap₂ (λ m w. m * w) c.from.ensures c.word.ensures.word)
