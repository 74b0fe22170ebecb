-- Of `pack_each`: that the invariant of its loop over `i` holds after each turn, and that its
-- ranges lie in their slices.
use Rattle.std.proofs.Common.{◌≡◌, ◌≤◌, ◌*◌, length, map, sym, ap, ◌∙◌, arith, rules}
use Rattle.std.proofs.lemmas.List.{length-map}
use borrow.Author.Rules.{scaled_fits≤}
use Rattle.std.proofs.Math.Nat.{mul-le-mul_right}
use Rattle.pix_raster.proofs.Samples.{packed_more}
use Rattle.pix_raster.proofs.raster.samples.pack_each.Goals as goal

pub offset_bounds-samples-start : goal.offset_bounds-samples-start
offset_bounds-samples-start g c =
    let i = c.loop-i.i in
    let count = g.P.Pixel.layout.count in
    let up : i * count ≤ length c.args.pixels.now * count = mul-le-mul_right count (let p : i ≤ length c.args.pixels.now = omega arith in p) in
    let at : i * c.channel_count-count.result ≡ i * count = ap (λ k. i * k) c.channel_count-count.ensures in
    let fits : i * c.channel_count-count.result ≤ length c.loop-i.samples = omega arith in
    scaled_fits≤ _ (length c.loop-i.samples) _ fits (search rules)

pub loop-i-preserved : goal.loop-i-preserved
loop-i-preserved g c =
    let n = g.P.Pixel.numbers in
    let m = g.S.Sample.number in
    let i = c.loop-i.i in
    let count = g.P.Pixel.layout.count in
    let pixel = c.index-pixels-i.result in
    let part = c.write_samples.new.samples in
    let up : i * count ≤ length c.args.pixels.now * count = mul-le-mul_right count (let p : i ≤ length c.args.pixels.now = omega arith in p) in
    let at : i * c.channel_count-count.result ≡ i * count = ap (λ k. i * k) c.channel_count-count.ensures in
    let new : map m part ≡ n pixel =
    c.write_samples.ensures ∙ ap (map g.P.Chan.Channel.number) c.channels.ensures.channels ∙ sym (g.met.P.Pixel.numbered pixel) in
    let long : length part ≡ count =
    sym (length-map part m) ∙ ap length c.write_samples.ensures ∙ length-map c.channels.result.now g.P.Chan.Channel.number ∙ c.channels.ensures.count in
    packed_more n m c.args.pixels.now c.loop-i.samples part i count _ _ pixel c.loop-i-test.true at (omega arith) long c.loop-i.invariant
    (new ∙ ap n c.index-pixels-i.is)
