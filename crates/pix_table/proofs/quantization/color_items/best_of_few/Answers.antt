-- Of `best_of_few`: that words of 0 are those of no colors, and that the words are those of a block.
use Rattle.pix_table.specs.matching.Nearest.{numbers}
use Rattle.pix_table.specs.quantization.BestPlaces.{AreBlockWords}
use Rattle.pix_table.specs.quantization.Items.{pair_items, spread}
use Rattle.pix_table.proofs.lemmas.quantization.ColorItems.{block_words, known}
use Rattle.pix_table.proofs.lemmas.quantization.PlaceSteps.{none_first}
use Rattle.pix_table.proofs.lemmas.quantization.WordLemmas.{words_none}
use Rattle.pix_table.proofs.quantization.color_items.best_of_few.Goals as goal

pub add_item_words-requires-clause-red_none : goal.add_item_words-requires-clause-red_none
add_item_words-requires-clause-red_none c = words_none 0

pub add_item_words-requires-clause-green_none : goal.add_item_words-requires-clause-green_none
add_item_words-requires-clause-green_none c = words_none 1

pub add_item_words-requires-clause-blue_none : goal.add_item_words-requires-clause-blue_none
add_item_words-requires-clause-blue_none c = words_none 2

pub total_of_words-all-requires : goal.total_of_words-all-requires
total_of_words-all-requires c =
    let e = c.add_item_words.ensures in
    let box = spread 3 (pair_items numbers c.args.items.now) in
    let reds = block_words c.args.items.now 0 c.add_item_words.new.reds c.requires.few e.bytes e.reds in
    let greens = block_words c.args.items.now 1 c.add_item_words.new.greens c.requires.few e.bytes e.greens in
    (box, reds, greens)

pub best_in-best-requires-clause-sums : goal.best_in-best-requires-clause-sums
best_in-best-requires-clause-sums c =
    let e = c.add_item_words.ensures in
    let box = spread 3 (pair_items numbers c.args.items.now) in
    let reds = block_words c.args.items.now 0 c.add_item_words.new.reds c.requires.few e.bytes e.reds in
    let greens = block_words c.args.items.now 1 c.add_item_words.new.greens c.requires.few e.bytes e.greens in
    let all = c.total_of_words-all.ensures box reds greens in
    (box, known c.args.items.now c.requires.some c.requires.fit e.bytes AreBlockWords _ 0 _ _ c.least_of-least.ensures.red reds all)

pub best_in-best-requires-2-clause-sums : goal.best_in-best-requires-2-clause-sums
best_in-best-requires-2-clause-sums c =
    let e = c.add_item_words.ensures in
    let box = spread 3 (pair_items numbers c.args.items.now) in
    let reds = block_words c.args.items.now 0 c.add_item_words.new.reds c.requires.few e.bytes e.reds in
    let greens = block_words c.args.items.now 1 c.add_item_words.new.greens c.requires.few e.bytes e.greens in
    let all = c.total_of_words-all.ensures box reds greens in
    (box, known c.args.items.now c.requires.some c.requires.fit e.bytes AreBlockWords _ 1 _ _ c.least_of-least.ensures.green greens all)

pub best_in-requires-clause-sums : goal.best_in-requires-clause-sums
best_in-requires-clause-sums c =
    let e = c.add_item_words.ensures in
    let box = spread 3 (pair_items numbers c.args.items.now) in
    let reds = block_words c.args.items.now 0 c.add_item_words.new.reds c.requires.few e.bytes e.reds in
    let greens = block_words c.args.items.now 1 c.add_item_words.new.greens c.requires.few e.bytes e.greens in
    let all = c.total_of_words-all.ensures box reds greens in
    let blues = block_words c.args.items.now 2 c.add_item_words.new.blues c.requires.few e.bytes e.blues in
    (box, known c.args.items.now c.requires.some c.requires.fit e.bytes AreBlockWords _ 2 _ _ c.least_of-least.ensures.blue blues all)

pub returns : goal.returns
returns c =
    let e = c.add_item_words.ensures in
    let box = spread 3 (pair_items numbers c.args.items.now) in
    let reds = block_words c.args.items.now 0 c.add_item_words.new.reds c.requires.few e.bytes e.reds in
    let greens = block_words c.args.items.now 1 c.add_item_words.new.greens c.requires.few e.bytes e.greens in
    let all = c.total_of_words-all.ensures box reds greens in
    let blues = block_words c.args.items.now 2 c.add_item_words.new.blues c.requires.few e.bytes e.blues in
    let of = known c.args.items.now c.requires.some c.requires.fit e.bytes AreBlockWords in
    c.best_in.ensures box (of _ 2 _ _ c.least_of-least.ensures.blue blues all)
    (c.best_in-best-2.ensures box (of _ 1 _ _ c.least_of-least.ensures.green greens all) (c.best_in-best.ensures box (of _ 0 _ _ c.least_of-least.ensures.red reds all) (none_first 3 box)))
