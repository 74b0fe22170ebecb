-- Of `deepen_blocks`: the clause `pixels`, and that the invariant of its loop over `k` holds at
-- first and stays.
use Rattle.std.proofs.Common.{◌≡◌, ◌+◌, ◌*◌, ◌-◌, ◌∙◌, take, drop, sym, arith, map, List, ℕ}
use Rattle.std.proofs.lemmas.List.{length-map, length-take, length-drop}
use Rattle.pix_el.specs.Conversion.{of_depth, converted}
use Rattle.pix_chan.proofs.Slices.{over-nil, next_mapped_block}
use Rattle.pix_el.proofs.Written.{over_written}
use Rattle.pix_el.proofs.Conversions.{map_alike, converted_of_depth}
use Rattle.pix_el.proofs.conversion.depth.deepen_blocks.Goals as goal

pub loop-k-init : goal.loop-k-init
loop-k-init g c = sym (over-nil _ (map g.D.Pixel.numbers c.args.dst.now))

pub loop-k-preserved : goal.loop-k-preserved
loop-k-preserved g c =
    let n = g.D.Pixel.numbers in
    let m = g.P.Pixel.numbers in
    let made = converted g.P.Pixel.format g.P.Gamma.Gamma-2.mode g.D.Pixel.format g.D.Gamma.Gamma.mode in
    let f = λ (d s : List ℕ). made s in
    let is = c.requires in
    let same : (p : List ℕ) → of_depth g.P.Pixel.layout g.D.Pixel.layout p ≡ made p =
    λ p. sym (converted_of_depth _ _ _ _ g.P.Gamma.Gamma-2.mode g.D.Gamma.Gamma.mode g.P.Pixel.layout g.D.Pixel.layout p
    g.met.P.Pixel.formatted g.met.D.Pixel.formatted g.met.P.Pixel.laid_out g.met.D.Pixel.laid_out is.model
    (g.met.P.Alpha.Alpha.tabled ∙ is.alpha ∙ sym g.met.D.Alpha.Alpha.tabled)
    (g.met.P.Gamma.Gamma-2.tabled ∙ is.gamma ∙ sym g.met.D.Gamma.Gamma.tabled)) in
    let at = 8 * c.loop-k.k in
    let k' = 8 * c.loop-k.k + 8 - 8 * c.loop-k.k in
    let part = take k' (drop at c.args.src.now) in
    let old = take k' (drop at c.loop-k.dst) in
    next_mapped_block n f m 8 c.loop-k.k c.args.dst.now c.loop-k.dst c.deepen_eight.new.dst c.args.src.now
    c.loop-k.invariant (omega arith) (omega arith)
    (c.deepen_eight.ensures ∙ map_alike (of_depth g.P.Pixel.layout g.D.Pixel.layout) made same (map m part) ∙ sym (over_written made (map m part) (map n old)
    (omega (arith, length-map part m, length-map old n, length-take k' (drop at c.args.src.now), length-drop at c.args.src.now, length-take k' (drop at c.loop-k.dst), length-drop at c.loop-k.dst))))
