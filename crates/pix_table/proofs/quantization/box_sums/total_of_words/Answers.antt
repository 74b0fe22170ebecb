-- Of `total_of_words`: that the parts of the words are the sums.
use Rattle.pix_table.proofs.lemmas.quantization.WordLemmas.{words_sums}
use Rattle.pix_table.proofs.quantization.box_sums.total_of_words.Goals as goal

pub returns : goal.returns
returns c = λ box reds greens.
    words_sums box _ _ _ _ _ reds.0 reds.1 (c.word_sum-beside_red.ensures box reds) (c.word_sum-beside_green.ensures box greens) c.from.ensures
    c.from-2.ensures c.from-3.ensures
