-- Of `best_item_place`: that the best place of the colors is that of the items.
use Rattle.pix_table.specs.matching.Nearest.{numbers}
use Rattle.pix_table.specs.quantization.Items.{pair_items}
use Rattle.pix_table.proofs.lemmas.quantization.ColorItems.{best_place, one_item}
use Rattle.pix_table.proofs.quantization.color_items.best_item_place.Goals as goal

pub returns-then-items-lt2 : goal.returns-then-items-lt2
returns-then-items-lt2 c = one_item c.args.items.now c.if-items-lt2.true

pub returns-then-count_all-le-BLOCK : goal.returns-then-count_all-le-BLOCK
returns-then-count_all-le-BLOCK c = best_place (pair_items numbers c.args.items.now) c.best_of_few.result c.requires.fit c.best_of_few.ensures

pub returns-else-count_all-le-BLOCK : goal.returns-else-count_all-le-BLOCK
returns-else-count_all-le-BLOCK c = best_place (pair_items numbers c.args.items.now) c.best_of_many.result c.requires.fit c.best_of_many.ensures
