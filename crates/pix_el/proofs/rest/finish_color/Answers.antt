use Rattle.std.proofs.Common.{◌≡◌, ◌+◌, ◌∙◌, length, sym, ap, arith, map, refl, replicate, List, ℕ}
use Rattle.std.proofs.lemmas.List.{length-map}
use Rattle.pix_el.specs.PixelComposite.{pixel_composite}
use Rattle.pix_chan.proofs.Slices.{mapped_one_step, over_color, get_or-same, length-replicate}
use Rattle.pix_el.proofs.rest.finish_color.Goals as goal

pub loop-i-preserved : goal.loop-i-preserved
loop-i-preserved g c =
    let n = g.D.Stored.reads in
    let f = λ (d s : List ℕ). pixel_composite g.P.Pixel.layout g.O.Blend.op s d in
    let count = length c.args.row.now in
    let s = g.P.Pixel.numbers c.args.clr.now in
    mapped_one_step n f c.loop-i.i (c.loop-i.i + 1) c.args.row.now c.loop-i.row c.composite_pixel.new.dst c.index-row-i.result s s s (replicate count s)
    c.loop-i.invariant refl (omega arith) (omega (arith, length-replicate count s))
    (sym (get_or-same count c.loop-i.i s)) c.index-row-i.is
    (c.composite_pixel.ensures ∙ ap (λ z. f (n z) s) (sym c.index-row-i.is))

pub returns : goal.returns
returns g c =
    let n = g.D.Stored.reads in
    let f = λ (d s : List ℕ). pixel_composite g.P.Pixel.layout g.O.Blend.op s d in
    let row = c.args.row.now in
    c.loop-i.invariant
    ∙ over_color f c.loop-i.i (length row) (g.P.Pixel.numbers c.args.clr.now) (map n row) (omega (arith, length-map row n)) (omega (arith, length-map row n))
