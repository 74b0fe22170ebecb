-- Of `sums_of` of colors that stand once.
use Rattle.std.proofs.Common.{◌<◌, length, map, arith, refl, sym, subst}
use Rattle.std.proofs.lemmas.List.{length-map}
use Rattle.pix_table.specs.quantization.ColorGroups.{AreBoxSums}
use Rattle.pix_table.specs.matching.Nearest.{numbers}
use Rattle.pix_table.proofs.lemmas.quantization.Singles.{spread_singles}
use Rattle.pix_table.proofs.quantization.color_items.ColorItem.sums_of.Goals as goal

pub returns : goal.returns
returns c =
    let e = c.sums_of.ensures in
    subst (λ l. AreBoxSums l c.sums_of.result) (sym (spread_singles numbers 3 (λ x. refl) c.args.items.now))
    (record { some = omega (arith, c.requires.some, length-map c.args.items.now numbers); bytes = e.bytes; whole = e.sums })
