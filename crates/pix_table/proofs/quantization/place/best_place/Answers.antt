-- Of `best_place`: its clause at each return.
use Rattle.std.proofs.Common.{map}
use Rattle.pix_table.specs.matching.Nearest.{numbers}
use Rattle.pix_table.proofs.lemmas.quantization.PlaceSteps.{best_of_all, one_color}
use Rattle.pix_table.proofs.quantization.place.best_place.Goals as goal

pub returns-then-colors-lt2 : goal.returns-then-colors-lt2
returns-then-colors-lt2 c = one_color c.args.colors.now c.if-colors-lt2.true

pub returns-then-colors-le-BLOCK : goal.returns-then-colors-le-BLOCK
returns-then-colors-le-BLOCK c = best_of_all (map numbers c.args.colors.now) c.best_of_block.result c.best_of_block.ensures

pub returns-else-colors-le-BLOCK : goal.returns-else-colors-le-BLOCK
returns-else-colors-le-BLOCK c = best_of_all (map numbers c.args.colors.now) c.best_of_blocks.result c.best_of_blocks.ensures
