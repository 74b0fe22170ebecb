-- Of `cut_seen_table`: that the table is that of the colors, which are seen.
use Rattle.std.proofs.Common.{length, map}
use Rattle.std.proofs.lemmas.List.Sorted.{IsPermutation-refl}
use Rattle.pix_table.specs.quantization.Items.{spread}
use Rattle.pix_table.specs.quantization.SeenCut.{seen_mean, seen_weight}
use Rattle.pix_table.proofs.lemmas.quantization.ItemTables.{table_of_items}
use Rattle.pix_table.proofs.lemmas.quantization.MovedBoxes.{seen_mean_moved, seen_weight_moved}
use Rattle.pix_table.proofs.lemmas.quantization.SeenItems.{items_are, items_seen}
use Rattle.pix_table.proofs.lemmas.quantization.SeenTable.{table_seen}
use Rattle.pix_table.proofs.rgba.items.cut_seen_table.Goals as goal

pub returns-clause-table : goal.returns-clause-table
returns-clause-table g c =
    table_of_items 4 seen_weight seen_mean seen_weight_moved seen_mean_moved (length c.args.entries.now) _ _ (items_are _ c.requires.fit)
    c.cut_items.ensures.table

pub returns-clause-seen : goal.returns-clause-seen
returns-clause-seen g c =
    let items = map g.I.Item.numbers c.args.items.now in
    table_seen (length c.args.entries.now) (spread 4 items) _
    (table_of_items 4 seen_weight seen_mean seen_weight_moved seen_mean_moved (length c.args.entries.now) items _ (items_are items c.requires.fit)
    c.cut_items.ensures.table (spread 4 items) (IsPermutation-refl (spread 4 items))) (items_seen items c.requires.fit)
