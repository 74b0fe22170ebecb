use Rattle.std.proofs.Common.{◌+◌, ◌∙◌, sym, ap, arith, map, get_or, refl, List, ℕ}
use Rattle.std.proofs.lemmas.List.{length-map, get_or-map, get_or_default}
use Rattle.pix_el.specs.Light.{in_light}
use Rattle.pix_chan.proofs.Slices.{mapped_one_step, over_both}
use Rattle.pix_el.proofs.Written.{same_over}
use Rattle.pix_el.proofs.light.Light.decode_srgb_slice.Goals as goal

pub loop-i-preserved : goal.loop-i-preserved
loop-i-preserved g c =
    let n = g.D.Pixel.numbers in
    let m = g.Self.Pixel.numbers in
    let f = λ (d s : List ℕ). in_light g.Self.Pixel.format g.D.Pixel.format s in
    let s = m c.index-src-i.result in
    let was = get_or c.loop-i.dst c.loop-i.i c.decode_srgb.result in
    mapped_one_step n f c.loop-i.i (c.loop-i.i + 1) c.args.dst.now c.loop-i.dst c.decode_srgb.result was s s s (map m c.args.src.now)
    c.loop-i.invariant refl (omega arith) (omega (arith, length-map c.args.src.now m))
    (ap m c.index-src-i.is ∙ sym (get_or-map m c.args.src.now c.loop-i.i c.index-src-i.result s (omega arith))) (get_or_default c.loop-i.dst c.loop-i.i c.decode_srgb.result was (omega arith)) c.decode_srgb.ensures

pub returns : goal.returns
returns g c =
    let n = g.D.Pixel.numbers in
    let m = g.Self.Pixel.numbers in
    let f = λ (s d : List ℕ). in_light g.Self.Pixel.format g.D.Pixel.format s in
    c.loop-i.invariant
    ∙ over_both (λ (d s : List ℕ). f s d) c.loop-i.i (map n c.args.dst.now) (map m c.args.src.now) (omega (arith, length-map c.args.dst.now n, length-map c.args.src.now m))
    ∙ same_over f (map m c.args.src.now) (map n c.args.dst.now)
