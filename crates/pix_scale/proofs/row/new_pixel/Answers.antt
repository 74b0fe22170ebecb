use Rattle.std.specs.Prelude.{pos}
use Rattle.std.proofs.Common.{◌≡◌, length, get_or, take, replicate, slice_index, arith, refl, ap, ◌∙◌}
use Rattle.std.proofs.lemmas.List.{length-take}
use Rattle.pix_chan.specs.Nearest.{nearest}
use Rattle.pix_scale.specs.Axis.{total}
use Rattle.pix_scale.specs.Table.{row_term}
use Rattle.pix_scale.proofs.Written.{first_channels}
use Rattle.pix_scale.proofs.row.new_pixel.Goals as goal

pub returns : goal.returns
returns g c = λ ch lt.
    let n = length c.channels-n.result.now in
    let count = g.P.Pixel.layout.count in
    let max = g.P.Chan.Channel.max in
    let same : n ≡ count = c.channels-n.ensures.count in
    let eight : length (replicate 8 c.MIN-own.result) ≡ 8 = refl in
    let size : length (take n (replicate 8 c.MIN-own.result)) ≡ count =
    omega (arith, length-take n (replicate 8 c.MIN-own.result), eight, same, c.requires.few) in
    ap (λ l. get_or l ch 0) (c.store.ensures ∙ c.from_channels.ensures)
    ∙ first_channels g.P.Chan.Channel.number n count c.write_pixel.new.to _ (omega (arith, c.write_pixel.auto.to, size, same)) same ch lt
    ∙ c.write_pixel.ensures ch (omega (arith, size, lt))
    ∙ ap (λ k. nearest max (pos (total (length c.args.weights.now) (row_term c.args.weights.now (slice_index c.args.sums.now) k ch))) (pos c.args.by.whole)) size
