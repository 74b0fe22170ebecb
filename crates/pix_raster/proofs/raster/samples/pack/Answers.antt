use Rattle.std.proofs.Common.{◌≡◌, ◌≤◌, ◌+◌, ◌-◌, ◌*◌, ◌/◌, length, map, take, drop, sym, refl, ap, ◌∙◌, arith, rules}
use Rattle.std.specs.List.{flat_map}
use Rattle.std.proofs.lemmas.List.{length-take, length-drop}
use borrow.Rule.Slice.PartMut.{put_mid, same_len_mid}
use borrow.Author.Rules.{scaled_fits≤}
use Rattle.pix_raster.proofs.Samples.{numbers_reach, numbers_left, packed_part, packed_whole}
use Rattle.pix_raster.proofs.raster.samples.pack.Goals as goal

pub overflow_mul-start : goal.overflow_mul-start
overflow_mul-start g c =
    let up = numbers_reach (16 * c.loop-k.k) 16 g.P.Pixel.layout.count c.channel_count-count.result (length c.args.pixels.now) (length c.loop-k.samples)
    c.channel_count-count.ensures (omega arith) (omega arith) in
    omega (arith, up)

pub overflow_add-start : goal.overflow_add-start
overflow_add-start g c =
    let up = numbers_reach (16 * c.loop-k.k) 16 g.P.Pixel.layout.count c.channel_count-count.result (length c.args.pixels.now) (length c.loop-k.samples)
    c.channel_count-count.ensures (omega arith) (omega arith) in
    omega (arith, up)

pub offset_bounds-samples-start : goal.offset_bounds-samples-start
offset_bounds-samples-start g c =
    let up = numbers_reach (16 * c.loop-k.k) 16 g.P.Pixel.layout.count c.channel_count-count.result (length c.args.pixels.now) (length c.loop-k.samples)
    c.channel_count-count.ensures (omega arith) (omega arith) in
    let fits : 16 * c.loop-k.k * c.channel_count-count.result ≤ length c.loop-k.samples = omega (arith, up) in
    scaled_fits≤ _ (length c.loop-k.samples) _ fits (search rules)

pub slice_bounds-pack_block-end : goal.slice_bounds-pack_block-end
slice_bounds-pack_block-end g c =
    let up = numbers_reach (16 * c.loop-k.k) 16 g.P.Pixel.layout.count c.channel_count-count.result (length c.args.pixels.now) (length c.loop-k.samples)
    c.channel_count-count.ensures (omega arith) (omega arith) in
    omega (arith, up)

pub loop-k-preserved : goal.loop-k-preserved
loop-k-preserved g c =
    let count = g.P.Pixel.layout.count in
    let n = c.channel_count-count.result in
    let i = 16 * c.loop-k.k in
    let samples = c.loop-k.samples in
    let part = c.pack_block.new.samples in
    let same : n ≡ count = c.channel_count-count.ensures in
    let up = numbers_reach i 16 count n (length c.args.pixels.now) (length samples) same (omega arith) (omega arith) in
    let wide = i * n + 16 * n - i * n in
    let long : length part ≡ 16 * count =
    omega (arith, up, same, c.pack_block.auto.samples, length-take wide (drop (i * n) samples), length-drop (i * n) samples) in
    packed_part g.P.Pixel.numbers g.S.Sample.number c.args.pixels.now samples part i 16 (16 * (c.loop-k.k + 1)) count (i * n) wide (i + 16 - i)
    (omega arith) (omega arith) (ap (λ z. i * z) same) (omega (arith, up)) long c.loop-k.invariant c.pack_block.ensures

pub overflow_mul-i-3 : goal.overflow_mul-i-3
overflow_mul-i-3 g c =
    let up = numbers_reach (16 * (length c.args.pixels.now / 16)) 0 g.P.Pixel.layout.count c.channel_count-count.result (length c.args.pixels.now) (length c.loop-k.samples)
    c.channel_count-count.ensures (omega arith) (omega arith) in
    omega (arith, up)

pub offset_bounds-samples-i : goal.offset_bounds-samples-i
offset_bounds-samples-i g c =
    let up = numbers_reach (16 * (length c.args.pixels.now / 16)) 0 g.P.Pixel.layout.count c.channel_count-count.result (length c.args.pixels.now) (length c.loop-k.samples)
    c.channel_count-count.ensures (omega arith) (omega arith) in
    let fits : 16 * (length c.args.pixels.now / 16) * c.channel_count-count.result ≤ length c.loop-k.samples = omega (arith, up) in
    scaled_fits≤ _ (length c.loop-k.samples) _ fits (search rules)

pub slice_bounds-pack_each-count : goal.slice_bounds-pack_each-count
slice_bounds-pack_each-count g c =
    let up = numbers_reach (16 * (length c.args.pixels.now / 16)) 0 g.P.Pixel.layout.count c.channel_count-count.result (length c.args.pixels.now) (length c.loop-k.samples)
    c.channel_count-count.ensures (omega arith) (omega arith) in
    omega (arith, up)

pub slice_bounds-pack_each-start : goal.slice_bounds-pack_each-start
slice_bounds-pack_each-start g c =
    let up = numbers_reach (16 * (length c.args.pixels.now / 16)) 0 g.P.Pixel.layout.count c.channel_count-count.result (length c.args.pixels.now) (length c.loop-k.samples)
    c.channel_count-count.ensures (omega arith) (omega arith) in
    omega (arith, up)

pub pack_each-requires : goal.pack_each-requires
pack_each-requires g c =
    let n = c.channel_count-count.result in
    let pixels = c.args.pixels.now in
    let samples = c.loop-k.samples in
    let i = 16 * (length pixels / 16) in
    let left = numbers_left i (length pixels - i) g.P.Pixel.layout.count n (length pixels) (length samples)
    c.channel_count-count.ensures (omega arith) (omega arith) in
    let wide = length samples - i * n in
    let rest : length (take wide (drop (i * n) samples)) ≡ wide =
    omega (arith, length-take wide (drop (i * n) samples), length-drop (i * n) samples) in
    let own : length (take (length pixels - i) (drop i pixels)) ≡ length pixels - i =
    omega (arith, length-take (length pixels - i) (drop i pixels), length-drop i pixels) in
    rest ∙ left ∙ sym (ap (λ z. z * g.P.Pixel.layout.count) own)

pub returns : goal.returns
returns g c =
    let count = g.P.Pixel.layout.count in
    let n = c.channel_count-count.result in
    let pixels = c.args.pixels.now in
    let samples = c.loop-k.samples in
    let part = c.pack_each.new.samples in
    let i = 16 * (length pixels / 16) in
    let same : n ≡ count = c.channel_count-count.ensures in
    let up = numbers_reach i 0 count n (length pixels) (length samples) same (omega arith) (omega arith) in
    let left = numbers_left i (length pixels - i) count n (length pixels) (length samples) same (omega arith) (omega arith) in
    let wide = length samples - i * n in
    let size : length part ≡ length samples - i * n =
    omega (arith, up, c.pack_each.auto.samples, length-take wide (drop (i * n) samples), length-drop (i * n) samples) in
    let k : c.loop-k.k ≡ length pixels / 16 = omega arith in
    let m = g.S.Sample.number in
    let so_far : take (i * count) (map m samples) ≡ flat_map g.P.Pixel.numbers (take i pixels) = rw (sym k) c.loop-k.invariant in
    packed_whole g.P.Pixel.numbers m pixels (put_mid (i * n) wide samples part) count
    (same_len_mid (i * n) wide samples part c.pack_each.auto.samples ∙ omega arith)
    (packed_part g.P.Pixel.numbers m pixels samples part i (length pixels - i) (length pixels) count (i * n) wide (length pixels - i)
    (omega arith) refl (ap (λ z. i * z) same) (omega (arith, up)) (size ∙ left) so_far c.pack_each.ensures)
