use Rattle.std.specs.Prelude.{pos, ◌-ℤ◌, ℤ}
use Rattle.std.proofs.Common.{◌≡◌, ℕ, ◌+◌, ◌<◌, length, get_or, slice_index, arith, ap, ◌∙◌}
use Rattle.std.proofs.lemmas.List.{length-map, map-set}
use Rattle.pix_scale.specs.SignedTable.{left}
use Rattle.pix_scale.proofs.Terms.{made_none, made_more}
use Rattle.pix_scale.proofs.SignedSums.{cut_at, first_numbers, sums_fit, left_by}
use Rattle.pix_scale.proofs.signed_pixels.cut_pixel.Goals as goal

pub loop-c-init : goal.loop-c-init
loop-c-init g c = made_none _ _

pub top_of-top-requires-clause-plus : goal.top_of-top-requires-clause-plus
top_of-top-requires-clause-plus g c = λ ch lt.
    omega (
      arith,
      c.both_sums.ensures.added ch (omega (arith, c.channels-n.ensures.count, lt)),
      sums_fit c.args.plus.now c.args.sums.now (length c.channels-n.result.now) ch c.type_inv.sums c.requires.plus_fits,
    )

pub top_of-top-requires-clause-minus : goal.top_of-top-requires-clause-minus
top_of-top-requires-clause-minus g c = λ ch lt.
    omega (
      arith,
      c.both_sums.ensures.taken ch (omega (arith, c.channels-n.ensures.count, lt)),
      sums_fit c.args.minus.now c.args.sums.now (length c.channels-n.result.now) ch c.type_inv.sums c.requires.minus_fits,
    )

pub cut-requires-clause-plus : goal.cut-requires-clause-plus
cut-requires-clause-plus g c =
    omega (
      arith,
      c.both_sums.ensures.added c.loop-c.c (omega arith),
      sums_fit c.args.plus.now c.args.sums.now (length c.channels-n.result.now) c.loop-c.c c.type_inv.sums c.requires.plus_fits,
    )

pub cut-requires-clause-minus : goal.cut-requires-clause-minus
cut-requires-clause-minus g c =
    omega (
      arith,
      c.both_sums.ensures.taken c.loop-c.c (omega arith),
      sums_fit c.args.minus.now c.args.sums.now (length c.channels-n.result.now) c.loop-c.c c.type_inv.sums c.requires.minus_fits,
    )

pub loop-c-preserved : goal.loop-c-preserved
loop-c-preserved g c =
    let count = g.P.Pixel.layout.count in
    let number = g.P.Chan.Channel.number in
    let m = length c.channels-n.result.now in
    let same : m ≡ count = c.channels-n.ensures.count in
    let f : ℕ → ℤ = λ ch. pos (slice_index c.both_sums.result.0 ch) -ℤ pos (slice_index c.both_sums.result.1 ch + 35184372088832) in
    let both : (ch : ℕ) → ch < count → f ch ≡ left c.args.plus.now c.args.minus.now c.args.sums.now count ch = λ ch lt.
    left_by c.args.plus.now c.args.minus.now c.args.sums.now m count ch (slice_index c.both_sums.result.0 ch) (slice_index c.both_sums.result.1 ch) same
    (c.both_sums.ensures.added ch (omega (arith, same, lt))) (c.both_sums.ensures.taken ch (omega (arith, same, lt))) in
    rw map-set (made_more _ _ _ _ (omega (arith, length-map c.loop-c.own number)) c.loop-c.invariant
    (cut_at g.P.Pixel.layout f (left c.args.plus.now c.args.minus.now c.args.sums.now count) c.loop-c.c (number c.top_of-top.result) (number c.cut.result)
    c.top_of-top.ensures c.cut.ensures (both g.P.Pixel.layout.alpha) (both c.loop-c.c (omega (arith, same)))))

pub returns : goal.returns
returns g c = λ ch lt.
    let count = g.P.Pixel.layout.count in
    let number = g.P.Chan.Channel.number in
    let m = length c.channels-n.result.now in
    let same : m ≡ count = c.channels-n.ensures.count in
    ap (λ l. get_or l ch 0) (c.store.ensures ∙ c.from_channels.ensures)
    ∙ first_numbers number m count c.loop-c.own same ch lt
    ∙ c.loop-c.invariant.at ch (omega (arith, same, lt))
