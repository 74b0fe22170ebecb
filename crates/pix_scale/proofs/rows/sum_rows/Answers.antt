use Rattle.std.proofs.Common.{◌≡◌, ℕ, ◌+◌, ◌-◌, ◌*◌, ◌<◌, map, arith, ap, ◌∙◌}
use Rattle.pix_el.specs.Pixel.{Layout}
use Rattle.pix_scale.specs.Table.{flat}
use Rattle.pix_scale.proofs.Sums.{room, summed_more}
use Rattle.pix_scale.proofs.Flat.{flat_part, flat_small}
use Rattle.pix_scale.proofs.rows.sum_rows.Goals as goal

pub add_row-requires-clause-fits : goal.add_row-requires-clause-fits
add_row-requires-clause-fits g c = λ x lt.
    let count = g.P.Pixel.layout.count in
    let r = g.D.Stored.reads in
    let max = g.P.Chan.Channel.max in
    omega (
      arith,
      c.requires.fits,
      room c.loop-k.sums c.args.weights.now (flat count (map r c.args.rows.now)) (c.args.stride * count) c.loop-k.k max
          (omega arith) (flat_small r g.P.Pixel.layout.max max count (ap (λ (l : Layout). l.max) g.met.P.Pixel.laid_out) g.met.D.Stored.fits c.args.rows.now) c.loop-k.invariant x lt,
    )

pub loop-k-preserved : goal.loop-k-preserved
loop-k-preserved g c =
    let count = g.P.Pixel.layout.count in
    let r = g.D.Stored.reads in
    let k = c.loop-k.k in
    let stride = c.args.stride in
    let m : ℕ = k * stride + c.args.count - k * stride in
    summed_more c.loop-k.sums _ _ (flat count (map r c.args.rows.now)) _ _ _ (omega arith) c.loop-k.invariant
    (λ x lt.
    let some : m ≡ c.args.count = omega arith in
    let in_ : x < m * count = let e = ap (λ n. n * count) some in omega (arith, lt, c.requires.long, e) in
    let place : k * stride * count + x ≡ k * (stride * count) + x = omega arith in
    flat_part r count c.args.rows.now (k * stride) m x c.requires.some in_
    ∙ ap (flat count (map r c.args.rows.now)) place)
    c.add_row.ensures
