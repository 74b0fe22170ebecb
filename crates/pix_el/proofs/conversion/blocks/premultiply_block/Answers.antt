use Rattle.std.proofs.Common.{◌≡◌, ◌+◌, ◌*◌, ◌-◌, ◌∙◌, take, drop, sym, ap, arith, map, refl, List, ℕ}
use Rattle.std.proofs.lemmas.List.{length-map, length-take, length-drop}
use Rattle.pix_el.specs.Planes.{premultiplied_four}
use Rattle.pix_chan.proofs.Slices.{run, over-nil, mapped_run_step}
use Rattle.pix_el.proofs.Written.{over_each}
use Rattle.pix_el.proofs.conversion.blocks.premultiply_block.Goals as goal

pub loop-k-init : goal.loop-k-init
loop-k-init g c = sym (over-nil _ (map g.P.Pixel.numbers c.args.p.now))

pub loop-k-preserved : goal.loop-k-preserved
loop-k-preserved g c =
    let n = g.P.Pixel.numbers in
    let made = premultiplied_four g.P.Chan.Channel.max in
    let f = λ (d s : List ℕ). made d in
    let at = 4 * c.loop-k.k in
    let k' = 4 * c.loop-k.k + 4 - 4 * c.loop-k.k in
    let m : 4 * c.loop-k.k + 4 ≡ 4 * (c.loop-k.k + 1) = omega arith in
    let ys = map n c.args.p.now in
    let part = take k' (drop at ys) in
    let old = map n (take k' (drop at c.loop-k.p)) in
    mapped_run_step n f at 4 (at + 4) c.args.p.now c.loop-k.p c.premultiply_four.new.p ys
    c.loop-k.invariant refl (omega arith) (omega (arith, length-map c.args.p.now n))
    (c.premultiply_four.ensures
    ∙ sym (over_each made part old
    (omega (arith, length-map c.args.p.now n, length-take k' (drop at ys), length-drop at ys, length-map (take k' (drop at c.loop-k.p)) n, length-take k' (drop at c.loop-k.p), length-drop at c.loop-k.p))))
    ∙ ap (λ k. run f (map n c.args.p.now) (take k ys)) m

pub returns : goal.returns
returns g c =
    let n = g.P.Pixel.numbers in
    let made = premultiplied_four g.P.Chan.Channel.max in
    let ys = map n c.args.p.now in
    c.loop-k.invariant
    ∙ over_each made (take (4 * c.loop-k.k) ys) ys (omega (arith, length-map c.args.p.now n, length-take (4 * c.loop-k.k) ys))
