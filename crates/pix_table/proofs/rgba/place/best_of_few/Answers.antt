-- Of `best_of_few`: that the sums at first are those of no colors, and that they are those of the colors.
use Rattle.std.proofs.Common.{◌<◌, arith, length, map}
use Rattle.pix_table.specs.quantization.PartSums.{few_sums}
use Rattle.pix_table.specs.SeenPixels.{seen_numbers}
use Rattle.pix_table.specs.quantization.SeenCut.{seen_weight}
use Rattle.pix_table.specs.quantization.SeenSums.{seen_gain_at}
use Rattle.pix_table.proofs.lemmas.quantization.PlaceSteps.{best_found, none_first}
use Rattle.pix_table.proofs.lemmas.quantization.SeenColors.{colors_summed}
use Rattle.pix_table.proofs.lemmas.quantization.SeenItems.{none_of_values}
use Rattle.pix_table.proofs.lemmas.quantization.SeenWeights.{cut_gain}
use Rattle.pix_table.proofs.rgba.place.best_of_few.Goals as goal

pub add_colors-requires-clause-red_none : goal.add_colors-requires-clause-red_none
add_colors-requires-clause-red_none c = none_of_values few_sums 0 c.no_colors-reds.result c.no_colors-reds.ensures

pub add_colors-requires-clause-green_none : goal.add_colors-requires-clause-green_none
add_colors-requires-clause-green_none c = none_of_values few_sums 1 c.no_colors-reds.result c.no_colors-reds.ensures

pub add_colors-requires-clause-blue_none : goal.add_colors-requires-clause-blue_none
add_colors-requires-clause-blue_none c = none_of_values few_sums 2 c.no_colors-reds.result c.no_colors-reds.ensures

pub add_colors-requires-clause-alpha_none : goal.add_colors-requires-clause-alpha_none
add_colors-requires-clause-alpha_none c = none_of_values few_sums 3 c.no_colors-reds.result c.no_colors-reds.ensures

pub best_in-best-requires-clause-before : goal.best_in-best-requires-clause-before
best_in-best-requires-clause-before c =
    let box = map seen_numbers c.args.colors.now in
    let small : length c.args.colors.now < 18446744073709551616 = omega (arith, c.requires.few) in
    let summed = colors_summed c.args.colors.now c.seen_sums_of-all.result c.requires.some small c.requires.seen c.seen_sums_of-all.ensures in
    let found = c.add_colors.ensures in
    (box, summed 0 _ found.reds, none_first 4 box)

pub best_in-best-requires-2-clause-before : goal.best_in-best-requires-2-clause-before
best_in-best-requires-2-clause-before c =
    let box = map seen_numbers c.args.colors.now in
    let small : length c.args.colors.now < 18446744073709551616 = omega (arith, c.requires.few) in
    let summed = colors_summed c.args.colors.now c.seen_sums_of-all.result c.requires.some small c.requires.seen c.seen_sums_of-all.ensures in
    let found = c.add_colors.ensures in
    (box, summed 1 _ found.greens, c.best_in-best.ensures box (summed 0 _ found.reds) (none_first 4 box))

pub best_in-best-requires-3-clause-before : goal.best_in-best-requires-3-clause-before
best_in-best-requires-3-clause-before c =
    let box = map seen_numbers c.args.colors.now in
    let small : length c.args.colors.now < 18446744073709551616 = omega (arith, c.requires.few) in
    let summed = colors_summed c.args.colors.now c.seen_sums_of-all.result c.requires.some small c.requires.seen c.seen_sums_of-all.ensures in
    let found = c.add_colors.ensures in
    (box, summed 2 _ found.blues, c.best_in-best-2.ensures box (summed 1 _ found.greens) (c.best_in-best.ensures box (summed 0 _ found.reds) (none_first 4 box)))

pub best_in-requires-clause-before : goal.best_in-requires-clause-before
best_in-requires-clause-before c =
    let box = map seen_numbers c.args.colors.now in
    let small : length c.args.colors.now < 18446744073709551616 = omega (arith, c.requires.few) in
    let summed = colors_summed c.args.colors.now c.seen_sums_of-all.result c.requires.some small c.requires.seen c.seen_sums_of-all.ensures in
    let found = c.add_colors.ensures in
    (box, summed 3 _ found.alphas, c.best_in-best-3.ensures box (summed 2 _ found.blues) (c.best_in-best-2.ensures box (summed 1 _ found.greens) (c.best_in-best.ensures box (summed 0 _ found.reds) (none_first 4 box))))

pub returns : goal.returns
returns c =
    let box = map seen_numbers c.args.colors.now in
    let small : length c.args.colors.now < 18446744073709551616 = omega (arith, c.requires.few) in
    let summed = colors_summed c.args.colors.now c.seen_sums_of-all.result c.requires.some small c.requires.seen c.seen_sums_of-all.ensures in
    let found = c.add_colors.ensures in
    best_found 4 seen_gain_at seen_weight box c.best_in.result (cut_gain box c.requires.seen) (c.best_in.ensures box (summed 3 _ found.alphas) (c.best_in-best-3.ensures box (summed 2 _ found.blues) (c.best_in-best-2.ensures box (summed 1 _ found.greens) (c.best_in-best.ensures box (summed 0 _ found.reds) (none_first 4 box)))))
