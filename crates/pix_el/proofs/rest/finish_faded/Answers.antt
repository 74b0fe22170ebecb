use Rattle.std.proofs.Common.{sym, ap, arith, get_or, List, ℕ}
use Rattle.pix_el.specs.PixelComposite.{matted_composite}
use Rattle.pix_el.proofs.Blocks.{next_pixel, whole_run}
use Rattle.pix_el.proofs.Written.{replaced}
use Rattle.pix_el.proofs.rest.finish_faded.Goals as goal

pub loop-i-preserved : goal.loop-i-preserved
loop-i-preserved g c =
    let n = g.D.Stored.reads in
    let s = g.S.Stored.reads in
    let matte = g.P.Chan.Channel.number c.args.alpha in
    let f = λ (d s : List ℕ). matted_composite g.P.Pixel.layout g.O.Blend.op matte s d in
    let i = c.loop-i.i in
    let item = c.index-src-i.result in
    let old = c.index-row-i.result in
    let was = get_or c.loop-i.row i old in
    let new = c.matte_pixel.new.dst in
    next_pixel n s f c.args.row.now c.args.src.now i c.loop-i.row new old item c.loop-i.invariant (omega arith) (omega arith) c.index-src-i.is c.index-row-i.is
    (replaced (λ (z : List ℕ). f z (s item)) (n was) (n old) (n new)
    (replaced (λ (z : List ℕ). f (n was) z) (g.P.Pixel.numbers c.load.result) (s item) (n new) c.matte_pixel.ensures c.load.ensures)
    (ap n (sym c.index-row-i.is)))

pub returns : goal.returns
returns g c =
    let f = λ (d s : List ℕ). matted_composite g.P.Pixel.layout g.O.Blend.op (g.P.Chan.Channel.number c.args.alpha) s d in
    whole_run g.D.Stored.reads g.S.Stored.reads f c.args.row.now c.args.src.now c.loop-i.i c.loop-i.row c.loop-i.invariant (omega arith)
