-- Of `sums_of` of items: that there is a color.
use Rattle.std.proofs.Common.{arith, map}
use Rattle.std.proofs.lemmas.List.{length-map}
use Rattle.pix_table.specs.quantization.Items.{item_of, pair_items}
use Rattle.pix_table.specs.SeenPixels.{seen_numbers}
use Rattle.pix_table.proofs.lemmas.quantization.ItemLists.{some_spread}
use Rattle.pix_table.proofs.lemmas.quantization.SeenItems.{items_are, items_seen}
use Rattle.pix_table.proofs.rgba.items.ArraySeenColor2ItemSeenColor.sums_of.Goals as goal

pub returns : goal.returns
returns c =
    let items = pair_items seen_numbers c.args.items.now in
    record {
      some = some_spread 4 items (items_are items c.requires.fit)
          (omega (arith, c.requires.some, length-map c.args.items.now (λ pair. item_of (map seen_numbers pair))));
      seen = items_seen items c.requires.fit;
      whole = c.item_sums_of.ensures;
    }
