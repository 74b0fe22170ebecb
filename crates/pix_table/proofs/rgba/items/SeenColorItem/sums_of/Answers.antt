-- Of `sums_of` of colors that stand once.
use Rattle.std.proofs.Common.{◌<◌, All, length, map, arith, refl, sym, subst}
use Rattle.std.proofs.lemmas.List.{length-map}
use Rattle.pix_table.specs.quantization.ColorGroups.{AreSeenBoxSums}
use Rattle.pix_table.specs.SeenPixels.{AreSeen, seen_numbers}
use Rattle.pix_table.proofs.lemmas.quantization.SeenItems.{items_seen}
use Rattle.pix_table.proofs.lemmas.quantization.Singles.{spread_singles}
use Rattle.pix_table.proofs.rgba.items.SeenColorItem.sums_of.Goals as goal

pub seen_sums_of-requires : goal.seen_sums_of-requires
seen_sums_of-requires c =
    subst (All AreSeen) (spread_singles seen_numbers 4 (λ x. refl) c.args.items.now) (items_seen _ c.requires.fit)

pub returns : goal.returns
returns c =
    let colors = spread_singles seen_numbers 4 (λ x. refl) c.args.items.now in
    subst (λ l. AreSeenBoxSums l c.seen_sums_of.result) (sym colors)
    (record {
      some = omega (arith, c.requires.some, length-map c.args.items.now seen_numbers);
      seen = subst (All AreSeen) colors (items_seen _ c.requires.fit);
      whole = c.seen_sums_of.ensures;
    })
