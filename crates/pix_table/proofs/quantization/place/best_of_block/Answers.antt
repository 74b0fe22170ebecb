-- Of `best_of_block`: that words of 0 are those of no colors, and that the words are those of a block.
use Rattle.pix_table.proofs.lemmas.quantization.WordLemmas.{words_none}
use Rattle.pix_table.proofs.quantization.place.best_of_block.Goals as goal

pub add_words-requires-clause-red_none : goal.add_words-requires-clause-red_none
add_words-requires-clause-red_none c = words_none 0

pub add_words-requires-clause-green_none : goal.add_words-requires-clause-green_none
add_words-requires-clause-green_none c = words_none 1

pub add_words-requires-clause-blue_none : goal.add_words-requires-clause-blue_none
add_words-requires-clause-blue_none c = words_none 2
