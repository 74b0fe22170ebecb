-- Of `sum_values_in`: that the sums are those of no colors at first, and of one color more after each turn.
use Rattle.std.proofs.Common.{◌≡◌, ◌+◌, ◌<◌, ◌∷◌, ◌++◌, [], map, take, get_or, arith, ◌∙◌}
use Rattle.std.proofs.lemmas.List.{get_or_default}
use Rattle.pix_table.specs.quantization.BestPlaces.{is_at}
use Rattle.pix_table.specs.SeenPixels.{seen_numbers}
use Rattle.pix_table.specs.declared.rgba.color.SeenColor.{SeenColor}
use Rattle.pix_table.specs.declared.rgba.sums.SeenSums.{SeenSums}
use Rattle.pix_table.proofs.lemmas.quantization.BoxSpans.{map_more}
use Rattle.pix_table.proofs.lemmas.quantization.SeenSumLemmas.{are_few, first_seen, values_more, values_none}
use Rattle.pix_table.proofs.rgba.sums.sum_values_in.Goals as goal

abbrev clear : SeenColor
clear = record { red = 0; green = 0; blue = 0; alpha = 0 }

abbrev nothing : SeenSums
nothing = record { count = 0; red = 0; green = 0; blue = 0; alpha = 0 }

pub loop-i-init : goal.loop-i-init
loop-i-init c = let e = c.none-parts.ensures in values_none c.args.k c.none-parts.result e.count e.red e.green e.blue e.alpha

pub with-requires-clause-few : goal.with-requires-clause-few
with-requires-clause-few c =
    are_few (is_at c.args.k c.from-value.result) (map seen_numbers (take c.loop-i.i c.args.colors.now)) _
    (first_seen c.args.colors.now c.loop-i.i c.requires) (c.loop-i.invariant.each c.from-value.result nothing (omega arith))

pub loop-i-preserved : goal.loop-i-preserved
loop-i-preserved c =
    let xs = c.args.colors.now in
    let p : SeenColor = get_or xs c.loop-i.i clear in
    let read : p ≡ get_or xs c.loop-i.i p = get_or_default xs c.loop-i.i clear p c.loop-i-test.true in
    let old : SeenSums = get_or c.loop-i.parts c.from-value.result nothing in
    let small : c.from-value.result < 256 = omega arith in
    let same : old ≡ get_or c.loop-i.parts c.from-value.result old =
    get_or_default c.loop-i.parts c.from-value.result nothing old (omega (arith, small, c.loop-i.invariant.many)) in
    let grown : map seen_numbers (take (c.loop-i.i + 1) xs) ≡ map seen_numbers (take c.loop-i.i xs) ++ seen_numbers p ∷ [] =
    map_more seen_numbers xs c.loop-i.i p c.loop-i-test.true read in
    let e = c.with.ensures in
    values_more c.args.k c.from-value.result (map seen_numbers (take c.loop-i.i xs)) _ c.loop-i.parts p old c.with.result grown c.loop-i.invariant
    (c.from-value.ensures ∙ c.seen_channel.ensures) small same e.count e.red e.green e.blue e.alpha
