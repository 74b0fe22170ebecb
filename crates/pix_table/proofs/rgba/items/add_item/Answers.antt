-- Of `add_item`: that the sums are few, and that the colors of the item are added.
use Rattle.std.proofs.Common.{arith, map, refl, ◌∙◌}
use Rattle.std.proofs.lemmas.List.{length-map}
use Rattle.pix_table.specs.quantization.BestPlaces.{is_at}
use Rattle.pix_table.specs.quantization.Items.{item_of}
use Rattle.pix_table.specs.SeenPixels.{seen_numbers}
use Rattle.pix_table.proofs.lemmas.quantization.SeenItems.{alone_few, item_at, item_values_more}
use Rattle.pix_table.proofs.lemmas.quantization.SeenSumLemmas.{are_few, count_few, value_sums}
use Rattle.pix_table.proofs.rgba.items.add_item.Goals as goal

pub bounds-parts-value : goal.bounds-parts-value
bounds-parts-value g c = omega (arith, c.requires.sums.2.many, length-map c.args.parts.now g.S.PartSums.whole)

pub joined-requires-clause-count : goal.joined-requires-clause-count
joined-requires-clause-count g c =
    let here = item_at c.args.k c.from-value.result (item_of (map seen_numbers c.args.item)) c.requires.channel (c.from-value.ensures ∙ c.channel.ensures) in
    omega (
      arith,
      count_few (is_at c.args.k c.from-value.result) c.requires.sums.0 _
          (value_sums g.S.PartSums.whole c.args.k c.from-value.result c.from-value.result c.requires.sums.0 c.args.parts.now c.index-parts-value.result _
          c.requires.sums.2 refl (omega arith) c.index-parts-value.is refl),
      count_few (is_at c.args.k c.from-value.result) _ (g.S.PartSums.whole c.item_sums.result) (c.item_sums.ensures (is_at c.args.k c.from-value.result) here),
      c.requires.sums.3,
    )

pub joined-requires-clause-few : goal.joined-requires-clause-few
joined-requires-clause-few g c =
    are_few (is_at c.args.k c.from-value.result) c.requires.sums.0 _ c.requires.sums.1
    (value_sums g.S.PartSums.whole c.args.k c.from-value.result c.from-value.result c.requires.sums.0 c.args.parts.now c.index-parts-value.result _
    c.requires.sums.2 refl (omega arith) c.index-parts-value.is refl)

pub joined-requires-clause-more : goal.joined-requires-clause-more
joined-requires-clause-more g c =
    let here = item_at c.args.k c.from-value.result (item_of (map seen_numbers c.args.item)) c.requires.channel (c.from-value.ensures ∙ c.channel.ensures) in
    alone_few (is_at c.args.k c.from-value.result) _ (g.S.PartSums.whole c.item_sums.result) c.requires.item (c.item_sums.ensures (is_at c.args.k c.from-value.result) here)

pub returns : goal.returns
returns g c = λ box h.
    let e = c.joined.ensures in
    item_values_more g.S.PartSums.whole c.args.k c.from-value.result box (item_of (map seen_numbers c.args.item)) c.args.parts.now c.index-parts-value.result
    c.item_sums.result c.joined.result c.requires.channel h (c.from-value.ensures ∙ c.channel.ensures) (omega arith) c.index-parts-value.is c.item_sums.ensures
    e.count e.red e.green e.blue e.alpha
