-- Of `best_of_blocks`: that the sums are those of no colors at first.
use Rattle.std.proofs.Common.{get_or}
use Rattle.pix_table.proofs.lemmas.quantization.PartedSums.{parted_none}
use Rattle.pix_table.proofs.quantization.place.best_of_blocks.Goals as goal

pub add_blocks-requires-clause-red_none : goal.add_blocks-requires-clause-red_none
add_blocks-requires-clause-red_none c =
    let e = c.none-reds.ensures in
    parted_none (λ x. get_or x 0 0) 256 c.none-reds.result e.count e.red e.green e.blue

pub add_blocks-requires-clause-green_none : goal.add_blocks-requires-clause-green_none
add_blocks-requires-clause-green_none c =
    let e = c.none-reds.ensures in
    parted_none (λ x. get_or x 1 0) 256 c.none-reds.result e.count e.red e.green e.blue

pub add_blocks-requires-clause-blue_none : goal.add_blocks-requires-clause-blue_none
add_blocks-requires-clause-blue_none c =
    let e = c.none-reds.ensures in
    parted_none (λ x. get_or x 2 0) 256 c.none-reds.result e.count e.red e.green e.blue
