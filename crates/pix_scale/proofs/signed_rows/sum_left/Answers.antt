use Rattle.std.proofs.Common.{◌*◌, map, arith, ap}
use Rattle.pix_el.specs.Pixel.{Layout}
use Rattle.pix_scale.specs.Table.{flat}
use Rattle.pix_scale.proofs.Flat.{flat_small}
use Rattle.pix_scale.proofs.Narrow.{narrow}
use Rattle.pix_scale.proofs.SignedRows.{rows_small, weights_fit}
use Rattle.pix_scale.proofs.signed_rows.sum_left.Goals as goal

pub sum_rows-requires-clause-fits : goal.sum_rows-requires-clause-fits
sum_rows-requires-clause-fits g c = weights_fit _ _ (narrow g.P.Chan.Channel.max g.met.P.Chan.Channel.laws) c.requires.plus_small

pub sum_rows-requires-2-clause-fits : goal.sum_rows-requires-2-clause-fits
sum_rows-requires-2-clause-fits g c = weights_fit _ _ (narrow g.P.Chan.Channel.max g.met.P.Chan.Channel.laws) c.requires.minus_small

pub sum_rows-requires-2-clause-inside : goal.sum_rows-requires-2-clause-inside
sum_rows-requires-2-clause-inside g c = λ k lt. c.requires.inside k (omega (arith, lt, c.requires.same))

pub take_away-requires-clause-sums : goal.take_away-requires-clause-sums
take_away-requires-clause-sums g c = λ x lt.
    let count = g.P.Pixel.layout.count in
    let r = g.D.Stored.reads in
    let max = g.P.Chan.Channel.max in
    let small = flat_small r g.P.Pixel.layout.max max count (ap (λ (l : Layout). l.max) g.met.P.Pixel.laid_out) g.met.D.Stored.fits c.args.rows.now in
    omega (
      arith,
      c.sum_rows.ensures x (omega (arith, lt, c.sum_rows.auto.sums)),
      rows_small c.args.plus.now (flat count (map r c.args.rows.now)) (c.args.stride * count) x max small (narrow max g.met.P.Chan.Channel.laws) c.requires.plus_small,
    )

pub take_away-requires-clause-taken : goal.take_away-requires-clause-taken
take_away-requires-clause-taken g c = λ x lt.
    let count = g.P.Pixel.layout.count in
    let r = g.D.Stored.reads in
    let max = g.P.Chan.Channel.max in
    let small = flat_small r g.P.Pixel.layout.max max count (ap (λ (l : Layout). l.max) g.met.P.Pixel.laid_out) g.met.D.Stored.fits c.args.rows.now in
    omega (
      arith,
      c.sum_rows-2.ensures x (omega (arith, lt, c.sum_rows.auto.sums, c.requires.sums, c.requires.taken)),
      rows_small c.args.minus.now (flat count (map r c.args.rows.now)) (c.args.stride * count) x max small (narrow max g.met.P.Chan.Channel.laws) c.requires.minus_small,
    )

pub returns : goal.returns
returns g c = λ x lt.
    omega (
      arith,
      c.take_away.ensures x (omega (arith, lt, c.sum_rows.auto.sums)),
      c.sum_rows.ensures x lt,
      c.sum_rows-2.ensures x (omega (arith, lt, c.requires.sums, c.requires.taken)),
    )
