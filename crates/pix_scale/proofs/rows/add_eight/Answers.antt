use Rattle.std.proofs.Common.{◌≡◌, ℕ, ◌+◌, ◌*◌, ◌<◌, length, get_or, replicate, arith, refl, sym, ap, ◌∙◌}
use Rattle.std.proofs.lemmas.List.{length-take}
use Rattle.pix_scale.proofs.Blocks.{front_of, block_read}
use Rattle.pix_scale.proofs.rows.add_eight.Goals as goal

pub load_channels-requires : goal.load_channels-requires
load_channels-requires g c =
    let n = length c.channels-count.result.now in
    let count = g.P.Pixel.layout.count in
    let all : length (replicate 32 c.MIN-own.result) ≡ 32 = refl in
    omega (arith, length-take (8 * n) (replicate 32 c.MIN-own.result), all, c.channels-count.ensures.count, c.requires.few, c.requires.eight, ap (λ (z : ℕ). count * z) c.requires.eight)

pub add_channels-requires-clause-long : goal.add_channels-requires-clause-long
add_channels-requires-clause-long g c =
    let n = length c.channels-count.result.now in
    let all : length (replicate 32 c.MIN-own.result) ≡ 32 = refl in
    let size : length c.load_channels.new.to ≡ 8 * n =
    omega (arith, c.load_channels.auto.to, length-take (8 * n) (replicate 32 c.MIN-own.result), all, c.channels-count.ensures.count, c.requires.few) in
    let long : length c.args.sums.now ≡ length c.load_channels.new.to = omega (arith, size, c.requires.long, c.channels-count.ensures.count) in
    long ∙ sym (ap length (front_of c.load_channels.new.to _ (8 * n) size))

pub returns : goal.returns
returns g c = λ x lt.
    let n = length c.channels-count.result.now in
    let count = g.P.Pixel.layout.count in
    let all : length (replicate 32 c.MIN-own.result) ≡ 32 = refl in
    let size : length c.load_channels.new.to ≡ 8 * n =
    omega (arith, c.load_channels.auto.to, length-take (8 * n) (replicate 32 c.MIN-own.result), all, c.channels-count.ensures.count, c.requires.few) in
    let in_ : x < length c.args.row.now * count = omega (arith, lt, c.requires.long, ap (λ (z : ℕ). z * count) c.requires.eight) in
    c.add_channels.ensures x lt
    ∙ ap (λ (z : ℕ). get_or c.args.sums.now x 0 + c.args.weight * z)
    (block_read g.D.Stored.reads g.P.Chan.Channel.number count (length c.args.row.now) (8 * n) x c.args.row.now c.load_channels.new.to _ c.requires.some size c.load_channels.ensures in_)
