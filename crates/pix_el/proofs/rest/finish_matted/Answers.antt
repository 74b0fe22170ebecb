use Rattle.std.proofs.Common.{◌≡◌, ◌∙◌, sym, ap, arith, get_or, map, List, ℕ}
use Rattle.pix_el.specs.Pixel.{Layout, channel}
use Rattle.pix_el.specs.PixelComposite.{matted_composite, matte_value}
use Rattle.pix_el.proofs.Blocks.{next_pixel, whole_run}
use Rattle.pix_el.proofs.MattePlanes.{by_values}
use Rattle.pix_el.proofs.Written.{replaced}
use Rattle.pix_el.proofs.rest.finish_matted.Goals as goal

pub loop-i-init : goal.loop-i-init
loop-i-init g c =
    let runs = c.matted_rest-start in
    runs.ensures.composite
    ∙ by_values g.P.Pixel.layout g.O.Blend.op g.P.Chan.Channel.max (sym (ap (λ (l : Layout). l.max) g.met.P.Pixel.laid_out)) g.M.Coverage.numbers
    runs.result c.args.src.now (g.P.Pixel.numbers c.args.clr.now) (map g.D.Stored.reads c.args.row.now)

pub loop-i-preserved : goal.loop-i-preserved
loop-i-preserved g c =
    let n = g.D.Stored.reads in
    let m = g.M.Coverage.numbers in
    let op = g.O.Blend.op in
    let layout : Layout = g.P.Pixel.layout in
    let top = g.P.Chan.Channel.max in
    let number = g.P.Chan.Channel.number in
    let color = g.P.Pixel.numbers c.args.clr.now in
    let f = λ (d m : List ℕ). matted_composite layout op (matte_value layout m) color d in
    let i = c.loop-i.i in
    let item = c.index-src-i.result in
    let matte = m item in
    let old = c.index-row-i.result in
    let was = get_or c.loop-i.row i old in
    let new = c.matte_pixel.new.dst in
    let max : top ≡ layout.max = sym (ap (λ (l : Layout). l.max) g.met.P.Pixel.laid_out) in
    let value : number c.coverage.result ≡ matte_value layout matte = replaced (λ (r : ℕ). channel r matte 0) top layout.max (number c.coverage.result) c.coverage.ensures max in
    let by_value : n new ≡ f (n was) matte = replaced (λ (z : ℕ). matted_composite layout op z color (n was)) (number c.coverage.result) (matte_value layout matte) (n new) c.matte_pixel.ensures value in
    next_pixel n m f c.args.row.now c.args.src.now i c.loop-i.row new old item c.loop-i.invariant (omega arith) (omega arith) c.index-src-i.is c.index-row-i.is
    (replaced (λ (z : List ℕ). f z matte) (n was) (n old) (n new) by_value (ap n (sym c.index-row-i.is)))

pub returns : goal.returns
returns g c =
    let layout : Layout = g.P.Pixel.layout in
    let color = g.P.Pixel.numbers c.args.clr.now in
    let f = λ (d m : List ℕ). matted_composite layout g.O.Blend.op (matte_value layout m) color d in
    whole_run g.D.Stored.reads g.M.Coverage.numbers f c.args.row.now c.args.src.now c.loop-i.i c.loop-i.row c.loop-i.invariant (omega arith)
