-- Of `sums_of` of items: that there is a color.
use Rattle.pix_table.proofs.lemmas.quantization.ColorItems.{colors_some}
use Rattle.pix_table.proofs.quantization.color_items.ArrayColor2ItemColor.sums_of.Goals as goal

pub returns : goal.returns
returns c =
    let e = c.sums_of_items.ensures in
    record { some = colors_some c.args.items.now c.requires.some c.requires.fit; bytes = e.bytes; whole = e.sums }
