use Rattle.std.proofs.Common.{◌≡◌, ℕ, ◌+◌, ◌-◌, ◌*◌, ◌<◌, length, map, arith, refl, sym, ap, subst, ◌∙◌}
use borrow.Rule.Slice.PartMut.{put_mid}
use Rattle.std.proofs.lemmas.Nat.{row_fits}
use Rattle.pix_scale.proofs.Sums.{length_part, at_of_part}
use Rattle.pix_scale.specs.Table.{flat}
use Rattle.pix_scale.proofs.Terms.{Added}
use Rattle.pix_scale.proofs.Flat.{added_part, added_start, channel_read}
use Rattle.pix_scale.proofs.rows.add_pixels.Goals as goal

pub loop-i-init : goal.loop-i-init
loop-i-init g c = added_start _ _ _ (omega arith)

pub loop-i-preserved : goal.loop-i-preserved
loop-i-preserved g c =
    let n = length c.channels-count.result.now in
    let count = g.P.Pixel.layout.count in
    let r = g.D.Stored.reads in
    let i = c.loop-i.i in
    let same : n ≡ count = c.channels-count.ensures.count in
    let row = row_fits i n (length c.args.row.now) n c.loop-i-test.true (omega arith) in
    let long : length c.args.sums.now ≡ length c.args.row.now * n = c.requires.long ∙ ap (λ z. length c.args.row.now * z) (sym same) in
    let size = length_part c.loop-i.sums (i * n) (i * n + n - i * n) (omega (arith, row, long)) in
    let next : i * n + n ≡ (i + 1) * n = omega arith in
    let numbers : map g.P.Chan.Channel.number c.channels.result.now ≡ r c.index-row-i.result =
    ap (map g.P.Chan.Channel.number) c.channels.ensures.channels ∙ sym (g.met.P.Pixel.numbered c.load-pixel.result) ∙ c.load-pixel.ensures in
    let term : ℕ → ℕ = λ x. c.args.weight * flat count (map r c.args.row.now) x in
    subst (λ z. Added c.args.sums.now (put_mid (i * n) (i * n + n - i * n) c.loop-i.sums c.add_channels.new.sums) term z) next
    (added_part c.args.sums.now c.loop-i.sums c.add_channels.new.sums term (i * n) n (i * n + n - i * n)
    (omega (arith, row, long)) (omega (arith, c.add_channels.auto.sums, size)) (omega arith) c.loop-i.invariant
    (λ x lt.
    let a = at_of_part c.loop-i.sums (i * n) (i * n + n - i * n) x (omega arith) in
    let in_ : x < count = omega (arith, same, lt) in
    let place : i * count + x ≡ i * n + x = omega (arith, ap (λ z. i * z) same) in
    let b = channel_read r g.P.Chan.Channel.number count i x c.args.row.now c.index-row-i.result c.channels.result.now in_ c.loop-i-test.true c.index-row-i.is numbers
    ∙ ap (flat count (map r c.args.row.now)) place in
    c.add_channels.ensures x (omega (arith, size, lt)) ∙ rw (a, b) refl))
