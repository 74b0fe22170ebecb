-- Of `premultiply_blocks`: that the invariant of its loop over `k` holds at first and stays.
use Rattle.std.proofs.Common.{◌≡◌, ◌+◌, ◌*◌, ◌-◌, ◌∙◌, take, drop, sym, ap, arith, map, refl, List, ℕ}
use Rattle.std.proofs.lemmas.List.{length-map, length-take, length-drop}
use Rattle.pix_el.specs.Planes.{linear_four, premultiplied_four}
use Rattle.pix_chan.proofs.Slices.{run, over-nil, mapped_run_step, part_of}
use Rattle.pix_el.proofs.Conversions.{list_premultiplied}
use Rattle.pix_el.proofs.conversion.blocks.premultiply_blocks.Goals as goal

pub loop-k-init : goal.loop-k-init
loop-k-init g c = sym (over-nil _ (map g.D.Pixel.numbers c.args.dst.now))

pub loop-k-preserved : goal.loop-k-preserved
loop-k-preserved g c =
    let n = g.D.Pixel.numbers in
    let m = g.P.Pixel.numbers in
    let linear = linear_four g.P.Chan.Channel.max g.D.Chan.Channel.max g.K.Curve.curve in
    let product = premultiplied_four g.D.Chan.Channel.max in
    let made = λ (p : List ℕ). product (linear p) in
    let f = λ (d s : List ℕ). made s in
    let at = 64 * c.loop-k.k in
    let k' = 64 * c.loop-k.k + 64 - 64 * c.loop-k.k in
    let next : 64 * c.loop-k.k + 64 ≡ 64 * (c.loop-k.k + 1) = omega arith in
    let ys = map m c.args.src.now in
    let old = map n (take k' (drop at c.loop-k.dst)) in
    mapped_run_step n f at 64 (at + 64) c.args.dst.now c.loop-k.dst c.premultiply_block.new.p ys
    c.loop-k.invariant refl (omega arith) (omega (arith, length-map c.args.src.now m))
    (c.premultiply_block.ensures
    ∙ ap (map product) (c.linear_pixels.ensures.pixels ∙ ap (map linear) (part_of m f at k' c.args.src.now))
    ∙ list_premultiplied made linear product (λ p. refl) (take k' (drop at ys)) old
    (omega (arith, length-map c.args.src.now m, length-take k' (drop at ys), length-drop at ys, length-map (take k' (drop at c.loop-k.dst)) n, length-take k' (drop at c.loop-k.dst), length-drop at c.loop-k.dst)))
    ∙ ap (λ k. run f (map n c.args.dst.now) (take k ys)) next
