-- Of `deepen_eight`: that there is a place for each channel, and its clause.
use Rattle.std.proofs.Common.{◌≡◌, ◌*◌, ◌∙◌, arith, ap, sym, length, map, take, min, replicate, ℕ}
use Rattle.std.proofs.lemmas.List.{length-map, length-take}
use Rattle.pix_el.specs.Conversion.{at_depth}
use Rattle.pix_el.specs.Pixel.{Layout}
use Rattle.pix_el.specs.Stored.{in_pixels}
use Rattle.pix_el.proofs.Depth.{deep_pixels, places_for, first_deep}
use Rattle.pix_el.proofs.conversion.depth.deepen_eight.Goals as goal

pub load_channels-requires : goal.load_channels-requires
load_channels-requires g c =
    let n = length c.channels-count.result.now in
    places_for n g.P.Pixel.layout.count (length c.args.src.now) _ c.channels-count.ensures.count (omega (arith, c.requires.count, c.requires.most)) c.requires.src_size
    (length-take (8 * n) (replicate 32 c.MIN-from.result))

pub store_channels-requires : goal.store_channels-requires
store_channels-requires g c =
    let n = length c.channels-count.result.now in
    let whole : length c.deepened-to.result ≡ 32 = omega arith in
    places_for n g.D.Pixel.layout.count (length c.args.dst.now) _ (c.channels-count.ensures.count ∙ c.requires.count) c.requires.most c.requires.dst_size
    (length-take (8 * n) c.deepened-to.result ∙ ap (min (8 * n)) whole)

pub returns : goal.returns
returns g c =
    let v = g.P.Chan.Channel.number in
    let w = g.D.Chan.Channel.number in
    let f : ℕ → ℕ = at_depth g.P.Chan.Channel.max g.D.Chan.Channel.max in
    let layout = g.P.Pixel.layout in
    let to = g.D.Pixel.layout in
    let k = 8 * length c.channels-count.result.now in
    let own = c.load_channels.new.to in
    let xs = map v own in
    let ys = map w (take k c.deepened-to.result) in
    let long : length own ≡ k =
    omega (arith, c.load_channels.auto.to, length-take k (replicate 32 c.MIN-from.result), c.channels-count.ensures.count, c.requires.count, c.requires.most) in
    deep_pixels layout to g.P.Chan.Channel.max g.D.Chan.Channel.max 8 xs ys (map g.P.Pixel.numbers c.args.src.now) (map g.D.Pixel.numbers c.store_channels.new.p)
    (ap (λ (l : Layout). l.max) g.met.P.Pixel.laid_out) (ap (λ (l : Layout). l.max) g.met.D.Pixel.laid_out) c.requires.count
    (omega (arith, long, length-map own v, c.channels-count.ensures.count, c.requires.count))
    (ap (λ (n : ℕ). in_pixels layout.count n xs) (sym c.requires.src_size) ∙ c.load_channels.ensures)
    (first_deep v w f k own _ c.deepened-to.result long c.deepened-to.ensures)
    (c.store_channels.ensures ∙ ap (λ (n : ℕ). in_pixels to.count n ys) c.requires.dst_size)
