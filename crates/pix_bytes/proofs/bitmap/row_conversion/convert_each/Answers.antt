-- Of `convert_each`: that the invariant of its loop over `index` holds after each turn.
use Rattle.std.proofs.Common.{◌≡◌, ℕ, ◌≤◌, ◌+◌, ◌-◌, ◌*◌, List, length, slice_range, refl, ap, ◌∙◌, arith}
use Rattle.std.proofs.Math.Nat.{mul-le-mul_right}
use Rattle.pix_bytes.specs.Rows.{format_at}
use Rattle.pix_bytes.specs.BitmapFormats.{samples, padded}
use Rattle.pix_bytes.proofs.Parts.{each_more}
use Rattle.pix_bytes.proofs.bitmap.row_conversion.convert_each.Goals as goal

pub loop-index-preserved : goal.loop-index-preserved
loop-index-preserved g c =
    let index = c.loop-index.index in
    let size = c.args.size in
    let to_size = c.args.to_size in
    let all : ℕ = c.args.to.count + c.args.to.spare in
    let makes = g.W.PixelConversion.makes (format_at g.C.Channel.max c.args.from) (format_at g.D.Channel.max c.args.to) in
    let pixel : List ℕ = samples g.C.Channel.max c.args.from.count (slice_range c.args.src.now (index * size) (index * size + size)) in
    let span : index * to_size + to_size - index * to_size ≡ to_size = omega arith in
    let up : (index + 1) * to_size ≤ c.args.count * to_size = mul-le-mul_right to_size (let p : index + 1 ≤ c.args.count = omega arith in p) in
    let within : index * to_size ≤ length c.loop-index.dst = omega (arith, up) in
    let long : length c.write_four.new.bytes ≡ to_size = omega arith in
    each_more g.C.Channel.max g.D.Channel.max c.args.from.count all size to_size makes c.args.src.now c.loop-index.dst c.write_four.new.bytes index _ _
    c.loop-index.invariant refl span within long
    (c.write_four.ensures ∙ ap (padded g.D.Channel.max all) (c.go-made.ensures pixel c.read_four-pixel.ensures))
