-- Of `seen_sums_of`: that the sums are those of no colors at first, and of one color more after each turn.
use Rattle.std.proofs.Common.{◌≡◌, ◌+◌, ◌∷◌, ◌++◌, [], true, map, take, get_or, length-take, arith, refl, sym, subst}
use Rattle.std.proofs.lemmas.List.{get_or_default, length-map}
use Rattle.pix_table.specs.SeenPixels.{seen_numbers}
use Rattle.pix_table.specs.quantization.SeenSums.{AreSeenSums}
use Rattle.pix_table.specs.declared.rgba.color.SeenColor.{SeenColor}
use Rattle.pix_table.proofs.lemmas.quantization.BoxSpans.{map_more}
use Rattle.pix_table.proofs.lemmas.quantization.SeenSumLemmas.{are_few, count_few, first_seen, seen_more}
use Rattle.pix_table.proofs.rgba.sums.seen_sums_of.Goals as goal

abbrev clear : SeenColor
clear = record { red = 0; green = 0; blue = 0; alpha = 0 }

pub loop-i-init : goal.loop-i-init
loop-i-init c = let e = c.none-sums.ensures in record { count = e.count; red = e.red; green = e.green; blue = e.blue; alpha = e.alpha }

pub with-sums-requires-clause-count : goal.with-sums-requires-clause-count
with-sums-requires-clause-count c =
    let first = take c.loop-i.i c.args.colors.now in
    omega (
      arith,
      count_few _ (map seen_numbers first) c.loop-i.sums c.loop-i.invariant,
      length-map first seen_numbers,
      length-take c.loop-i.i c.args.colors.now,
      c.loop-i-test.true,
    )

pub with-sums-requires-clause-few : goal.with-sums-requires-clause-few
with-sums-requires-clause-few c = are_few _ _ _ (first_seen c.args.colors.now c.loop-i.i c.requires) c.loop-i.invariant

pub loop-i-preserved : goal.loop-i-preserved
loop-i-preserved c =
    let xs = c.args.colors.now in
    let p : SeenColor = get_or xs c.loop-i.i clear in
    let read : p ≡ get_or xs c.loop-i.i p = get_or_default xs c.loop-i.i clear p c.loop-i-test.true in
    let grown : map seen_numbers (take (c.loop-i.i + 1) xs) ≡ map seen_numbers (take c.loop-i.i xs) ++ seen_numbers p ∷ [] =
    map_more seen_numbers xs c.loop-i.i p c.loop-i-test.true read in
    let e = c.with-sums.ensures in
    subst (λ l. AreSeenSums (λ color. true) l c.with-sums.result) (sym grown)
    (seen_more (λ color. true) (map seen_numbers (take c.loop-i.i xs)) p c.loop-i.sums c.with-sums.result refl c.loop-i.invariant e.count e.red e.green
    e.blue e.alpha)
