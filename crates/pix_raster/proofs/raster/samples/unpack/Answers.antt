use Rattle.std.proofs.Common.{◌≡◌, ◌+◌, ◌-◌, ◌*◌, ◌/◌, length, map, take, drop, sym, ap, ◌∙◌, arith}
use Rattle.std.specs.List.{flat_map}
use Rattle.std.proofs.lemmas.List.{length-take, length-drop}
use borrow.Rule.Slice.PartMut.{put_mid, same_len_mid}
use Rattle.pix_raster.proofs.Samples.{numbers_reach, numbers_left, unpacked_part, unpacked_whole}
use Rattle.pix_raster.proofs.raster.samples.unpack.Goals as goal

pub overflow_mul-start : goal.overflow_mul-start
overflow_mul-start g c =
    let up = numbers_reach (16 * c.loop-k.k) 16 g.P.Pixel.layout.count c.channel_count-count.result (length c.args.pixels.now) (length c.args.samples.now)
    c.channel_count-count.ensures (omega arith) (omega arith) in
    omega (arith, up)

pub overflow_add-block : goal.overflow_add-block
overflow_add-block g c =
    let up = numbers_reach (16 * c.loop-k.k) 16 g.P.Pixel.layout.count c.channel_count-count.result (length c.args.pixels.now) (length c.args.samples.now)
    c.channel_count-count.ensures (omega arith) (omega arith) in
    omega (arith, up)

pub offset_bounds-samples-start : goal.offset_bounds-samples-start
offset_bounds-samples-start g c =
    let up = numbers_reach (16 * c.loop-k.k) 16 g.P.Pixel.layout.count c.channel_count-count.result (length c.args.pixels.now) (length c.args.samples.now)
    c.channel_count-count.ensures (omega arith) (omega arith) in
    omega (arith, up)

pub slice_bounds-block-end : goal.slice_bounds-block-end
slice_bounds-block-end g c =
    let up = numbers_reach (16 * c.loop-k.k) 16 g.P.Pixel.layout.count c.channel_count-count.result (length c.args.pixels.now) (length c.args.samples.now)
    c.channel_count-count.ensures (omega arith) (omega arith) in
    omega (arith, up)

pub loop-k-preserved : goal.loop-k-preserved
loop-k-preserved g c =
    let count = g.P.Pixel.layout.count in
    let n = c.channel_count-count.result in
    let i = 16 * c.loop-k.k in
    let pixels = c.loop-k.pixels in
    let block = c.unpack_block.new.pixels in
    let same : n ≡ count = c.channel_count-count.ensures in
    let span = i + 16 - i in
    let wide : i * n + 16 * n - i * n ≡ 16 * count = omega (arith, same) in
    let long : length block ≡ 16 =
    omega (arith, c.unpack_block.auto.pixels, length-take span (drop i pixels), length-drop i pixels) in
    unpacked_part g.P.Pixel.numbers g.S.Sample.number pixels block c.args.samples.now i 16 (16 * (c.loop-k.k + 1)) count (i * n) (i * n + 16 * n - i * n) span
    (omega arith) (omega arith) long (ap (λ z. i * z) same) wide c.loop-k.invariant c.unpack_block.ensures

pub overflow_mul-i-3 : goal.overflow_mul-i-3
overflow_mul-i-3 g c =
    let up = numbers_reach (16 * (length c.args.pixels.now / 16)) 0 g.P.Pixel.layout.count c.channel_count-count.result (length c.args.pixels.now) (length c.args.samples.now)
    c.channel_count-count.ensures (omega arith) (omega arith) in
    omega (arith, up)

pub offset_bounds-samples-i : goal.offset_bounds-samples-i
offset_bounds-samples-i g c =
    let up = numbers_reach (16 * (length c.args.pixels.now / 16)) 0 g.P.Pixel.layout.count c.channel_count-count.result (length c.args.pixels.now) (length c.args.samples.now)
    c.channel_count-count.ensures (omega arith) (omega arith) in
    omega (arith, up)

pub slice_bounds-unpack_each-count-2 : goal.slice_bounds-unpack_each-count-2
slice_bounds-unpack_each-count-2 g c =
    let up = numbers_reach (16 * (length c.args.pixels.now / 16)) 0 g.P.Pixel.layout.count c.channel_count-count.result (length c.args.pixels.now) (length c.args.samples.now)
    c.channel_count-count.ensures (omega arith) (omega arith) in
    omega (arith, up)

pub slice_bounds-unpack_each-start-2 : goal.slice_bounds-unpack_each-start-2
slice_bounds-unpack_each-start-2 g c =
    let up = numbers_reach (16 * (length c.args.pixels.now / 16)) 0 g.P.Pixel.layout.count c.channel_count-count.result (length c.args.pixels.now) (length c.args.samples.now)
    c.channel_count-count.ensures (omega arith) (omega arith) in
    omega (arith, up)

pub unpack_each-requires : goal.unpack_each-requires
unpack_each-requires g c =
    let n = c.channel_count-count.result in
    let pixels = c.loop-k.pixels in
    let samples = c.args.samples.now in
    let i = 16 * (length c.args.pixels.now / 16) in
    let left = numbers_left i (length pixels - i) g.P.Pixel.layout.count n (length pixels) (length samples)
    c.channel_count-count.ensures (rw c.loop-k.auto.pixels c.requires) (omega arith) in
    let wide = length samples - i * n in
    let rest : length (take wide (drop (i * n) samples)) ≡ wide =
    omega (arith, length-take wide (drop (i * n) samples), length-drop (i * n) samples) in
    let own : length (take (length pixels - i) (drop i pixels)) ≡ length pixels - i =
    omega (arith, length-take (length pixels - i) (drop i pixels), length-drop i pixels) in
    rest ∙ left ∙ sym (ap (λ z. z * g.P.Pixel.layout.count) own)

pub returns : goal.returns
returns g c =
    let count = g.P.Pixel.layout.count in
    let n = c.channel_count-count.result in
    let pixels = c.loop-k.pixels in
    let samples = c.args.samples.now in
    let block = c.unpack_each.new.pixels in
    let i = 16 * (length c.args.pixels.now / 16) in
    let span = length pixels - i in
    let same : n ≡ count = c.channel_count-count.ensures in
    let long : length samples ≡ length pixels * count = rw c.loop-k.auto.pixels c.requires in
    let left = numbers_left i span count n (length pixels) (length samples) same long (omega arith) in
    let size : length block ≡ span =
    omega (arith, c.unpack_each.auto.pixels, length-take span (drop i pixels), length-drop i pixels) in
    let k : c.loop-k.k ≡ length c.args.pixels.now / 16 = omega arith in
    let m = g.S.Sample.number in
    let so_far : flat_map g.P.Pixel.numbers (take i pixels) ≡ take (i * count) (map m samples) = rw (sym k) c.loop-k.invariant in
    unpacked_whole g.P.Pixel.numbers m (put_mid i span pixels block) samples (length pixels) count
    (same_len_mid i span pixels block c.unpack_each.auto.pixels) long
    (unpacked_part g.P.Pixel.numbers m pixels block samples i span (length pixels) count (i * n) (length samples - i * n) span
    (omega arith) (omega arith) size (ap (λ z. i * z) same) left so_far c.unpack_each.ensures)
