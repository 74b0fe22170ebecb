-- Of `cut_piece`: what is known of its two pieces, and that they are a cut of the box.
use Rattle.std.proofs.Common.{◌≡◌, ◌<◌, sum_by, map, take, drop, All, arith, sym, ap, ◌∙◌, subst, length-take}
use Rattle.pix_table.specs.quantization.Items.{times_of, weigh_items}
use Rattle.pix_table.specs.quantization.Pieces.{IsKnown}
use Rattle.pix_table.specs.quantization.Places.{IsCutBy}
use Rattle.pix_table.proofs.lemmas.quantization.CutBoxes.{cut_stands, few_back, few_front, fit_back, fit_front}
use Rattle.pix_table.proofs.quantization.cut.cut_piece.Given as given
use Rattle.pix_table.proofs.quantization.cut.cut_piece.Goals as goal
use Rattle.pix_table.proofs.quantization.cut.cut_piece.Goals.{After-of-2}

at_is : (g : given.Over) (c : After-of-2 g) → c.partition-at.result ≡ c.of.result.len
at_is g c =
    omega (
      arith,
      c.of.ensures.all,
      c.split_at.ensures.front_len,
      length-take c.partition-at.result c.partition-at.new.items,
      c.partition-at.ensures.within,
    )

pub of-requires-clause-fit : goal.of-requires-clause-fit
of-requires-clause-fit g c =
    subst (λ l. All g.C.Cutting.fits (map g.I.Item.numbers l)) (sym c.split_at.ensures.front)
    (fit_front g.I.Item.numbers g.C.Cutting.fits c.args.items.now c.partition-at.new.items c.partition-at.result c.partition-at.ensures.moved c.requires.fit)

pub of-requires-2-clause-fit : goal.of-requires-2-clause-fit
of-requires-2-clause-fit g c =
    subst (λ l. All g.C.Cutting.fits (map g.I.Item.numbers l)) (sym c.split_at.ensures.back)
    (fit_back g.I.Item.numbers g.C.Cutting.fits c.args.items.now c.partition-at.new.items c.partition-at.result c.partition-at.ensures.moved c.requires.fit)

pub of-requires-clause-few : goal.of-requires-clause-few
of-requires-clause-few g c =
    subst (λ l. sum_by (times_of g.C.Counted.channels) (map g.I.Item.numbers l) < 18446744073709551616) (sym c.split_at.ensures.front)
    (few_front g.I.Item.numbers (times_of g.C.Counted.channels) c.args.items.now c.partition-at.new.items c.partition-at.result _ c.partition-at.ensures.moved
    c.requires.few_colors)

pub of-requires-2-clause-few : goal.of-requires-2-clause-few
of-requires-2-clause-few g c =
    subst (λ l. sum_by (times_of g.C.Counted.channels) (map g.I.Item.numbers l) < 18446744073709551616) (sym c.split_at.ensures.back)
    (few_back g.I.Item.numbers (times_of g.C.Counted.channels) c.args.items.now c.partition-at.new.items c.partition-at.result _ c.partition-at.ensures.moved
    c.requires.few_colors)

pub returns-clause-low : goal.returns-clause-low
returns-clause-low g c =
    subst (λ l. IsKnown g.C.Counted.channels (weigh_items g.C.Counted.channels g.C.Sums.BoxSums.weigh) (map g.I.Item.numbers l) c.of.result)
    (c.split_at.ensures.front ∙ ap (λ n. take n c.partition-at.new.items) (at_is g c)) c.of.ensures.known

pub returns-clause-high : goal.returns-clause-high
returns-clause-high g c =
    subst (λ l. IsKnown g.C.Counted.channels (weigh_items g.C.Counted.channels g.C.Sums.BoxSums.weigh) (map g.I.Item.numbers l) c.of-2.result)
    (c.split_at.ensures.back ∙ ap (λ n. drop n c.partition-at.new.items) (at_is g c)) c.of-2.ensures.known

pub returns-clause-cut : goal.returns-clause-cut
returns-clause-cut g c =
    subst
    (λ n. IsCutBy g.C.Counted.channels (map g.I.Item.numbers c.args.items.now) c.args.place.channel c.args.place.value
    (map g.I.Item.numbers (take n c.partition-at.new.items)) (map g.I.Item.numbers (drop n c.partition-at.new.items))) (at_is g c)
    (cut_stands g.I.Item.numbers c.args.items.now c.partition-at.new.items c.args.place.channel c.args.place.value c.partition-at.result
    c.partition-at.ensures.moved c.partition-at.ensures.front c.partition-at.ensures.back g.C.Counted.channels c.requires.best.stands
    c.partition-at.ensures.within c.requires.best.some_below c.requires.best.some_others)
