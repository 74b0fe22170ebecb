use Rattle.std.proofs.Common.{arith, get_or, List, ℕ}
use Rattle.std.proofs.lemmas.List.{get_or_default}
use Rattle.pix_el.specs.Light.{as_srgb}
use Rattle.pix_el.proofs.Blocks.{next_pixel, whole_run}
use Rattle.pix_el.proofs.light.Light.encode_srgb_slice.Goals as goal

pub loop-i-preserved : goal.loop-i-preserved
loop-i-preserved g c =
    let f = λ (d s : List ℕ). as_srgb g.Self.Pixel.format g.D.Pixel.format s in
    let i = c.loop-i.i in
    let item = c.index-src-i.result in
    let new = c.encode_srgb.result in
    let was = get_or c.loop-i.dst i new in
    next_pixel g.D.Pixel.numbers g.Self.Pixel.numbers f c.args.dst.now c.args.src.now i c.loop-i.dst new was item c.loop-i.invariant (omega arith) (omega arith)
    c.index-src-i.is (get_or_default c.loop-i.dst i new was (omega arith)) c.encode_srgb.ensures

pub returns : goal.returns
returns g c =
    let f = λ (d s : List ℕ). as_srgb g.Self.Pixel.format g.D.Pixel.format s in
    whole_run g.D.Pixel.numbers g.Self.Pixel.numbers f c.args.dst.now c.args.src.now c.loop-i.i c.loop-i.dst c.loop-i.invariant (omega arith)
