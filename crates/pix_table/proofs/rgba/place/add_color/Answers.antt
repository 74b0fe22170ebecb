-- Of `add_color`: that the sums are few, and that the color is added.
use Rattle.std.proofs.Common.{[], arith, refl, ◌∙◌}
use Rattle.std.proofs.lemmas.List.{length-map}
use Rattle.std.proofs.lemmas.List.Elements.{All-cons, All-nil}
use Rattle.pix_table.specs.quantization.BestPlaces.{is_at}
use Rattle.pix_table.specs.SeenPixels.{AreSeen, seen_numbers}
use Rattle.pix_table.proofs.lemmas.quantization.SeenColors.{color_alone, color_at, color_values_more}
use Rattle.pix_table.proofs.lemmas.quantization.SeenSumLemmas.{are_few, count_few, value_sums}
use Rattle.pix_table.proofs.rgba.place.add_color.Goals as goal

pub bounds-parts-value : goal.bounds-parts-value
bounds-parts-value g c = omega (arith, c.requires.sums.2.many, length-map c.args.parts.now g.S.PartSums.whole)

pub joined-requires-clause-count : goal.joined-requires-clause-count
joined-requires-clause-count g c = omega (
  arith,
  count_few (is_at c.args.k c.from-value.result) c.requires.sums.0 _
      (value_sums g.S.PartSums.whole c.args.k c.from-value.result c.from-value.result c.requires.sums.0 c.args.parts.now c.index-parts-value.result _
      c.requires.sums.2 refl (omega arith) c.index-parts-value.is refl),
  c.of_color.ensures.count,
  c.requires.sums.3,
)

pub joined-requires-clause-few : goal.joined-requires-clause-few
joined-requires-clause-few g c =
    are_few (is_at c.args.k c.from-value.result) c.requires.sums.0 _ c.requires.sums.1
    (value_sums g.S.PartSums.whole c.args.k c.from-value.result c.from-value.result c.requires.sums.0 c.args.parts.now c.index-parts-value.result _
    c.requires.sums.2 refl (omega arith) c.index-parts-value.is refl)

pub joined-requires-clause-more : goal.joined-requires-clause-more
joined-requires-clause-more g c =
    let e = c.of_color.ensures in
    let here = color_at c.args.k c.from-value.result c.args.clr (c.from-value.ensures ∙ c.seen_channel.ensures) in
    are_few (is_at c.args.k c.from-value.result) _ (g.S.PartSums.whole c.of_color.result)
    (All-cons AreSeen (seen_numbers c.args.clr) [] c.requires.seen (All-nil AreSeen))
    (color_alone (is_at c.args.k c.from-value.result) c.args.clr (g.S.PartSums.whole c.of_color.result) here e.count e.red e.green e.blue e.alpha)

pub returns : goal.returns
returns g c = λ box h.
    let e = c.joined.ensures in
    let o = c.of_color.ensures in
    color_values_more g.S.PartSums.whole c.args.k c.from-value.result box c.args.clr c.args.parts.now c.index-parts-value.result c.of_color.result
    c.joined.result c.requires.channel h (c.from-value.ensures ∙ c.seen_channel.ensures) (omega arith) c.index-parts-value.is o.count o.red o.green o.blue
    o.alpha e.count e.red e.green e.blue e.alpha
