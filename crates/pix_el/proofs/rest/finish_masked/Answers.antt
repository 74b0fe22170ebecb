use Rattle.std.proofs.Common.{◌≡◌, ◌+◌, ◌∙◌, sym, ap, arith, get_or, map, List, ℕ, refl}
use Rattle.std.specs.List.{zip}
use Rattle.std.proofs.lemmas.List.{length-map}
use Rattle.pix_chan.proofs.Slices.{mapped_one_step, over_both}
use Rattle.pix_el.specs.Pixel.{Layout, channel}
use Rattle.pix_el.specs.PixelComposite.{matted_composite, matte_value}
use Rattle.pix_el.proofs.Masked.{item-zip, length-beside, masked_by_values}
use Rattle.pix_el.proofs.Written.{replaced}
use Rattle.pix_el.proofs.rest.finish_masked.Goals as goal

pub loop-i-init : goal.loop-i-init
loop-i-init g c =
    let runs = c.masked_rest-start in
    runs.ensures.composite
    ∙ masked_by_values g.P.Pixel.layout g.O.Blend.op g.P.Chan.Channel.max (sym (ap (λ (l : Layout). l.max) g.met.P.Pixel.laid_out)) g.M.Coverage.numbers
    runs.result c.args.mask.now (map g.S.Stored.reads c.args.src.now) (map g.D.Stored.reads c.args.row.now)

pub loop-i-preserved : goal.loop-i-preserved
loop-i-preserved g c =
    let n = g.D.Stored.reads in
    let s = g.S.Stored.reads in
    let m = g.M.Coverage.numbers in
    let op = g.O.Blend.op in
    let layout : Layout = g.P.Pixel.layout in
    let top = g.P.Chan.Channel.max in
    let number = g.P.Chan.Channel.number in
    let f = λ (d : List ℕ) (t : List ℕ × List ℕ). matted_composite layout op (matte_value layout t.0) t.1 d in
    let i = c.loop-i.i in
    let mask = c.args.mask.now in
    let src = c.args.src.now in
    let item = c.index-src-i.result in
    let matte = c.index-mask-i.result in
    let both : List ℕ × List ℕ = (m matte, s item) in
    let old = c.index-row-i.result in
    let was = get_or c.loop-i.row i old in
    let new = c.matte_pixel.new.dst in
    let max : top ≡ layout.max = sym (ap (λ (l : Layout). l.max) g.met.P.Pixel.laid_out) in
    let value : number c.coverage.result ≡ matte_value layout (m matte) = replaced (λ (r : ℕ). channel r (m matte) 0) top layout.max (number c.coverage.result) c.coverage.ensures max in
    let by_source : n new ≡ matted_composite layout op (number c.coverage.result) (s item) (n was) =
    replaced (λ (z : List ℕ). matted_composite layout op (number c.coverage.result) z (n was)) (g.P.Pixel.numbers c.load.result) (s item) (n new) c.matte_pixel.ensures c.load.ensures in
    let by_value : n new ≡ f (n was) both = replaced (λ (z : ℕ). matted_composite layout op z (s item) (n was)) (number c.coverage.result) (matte_value layout (m matte)) (n new) by_source value in
    mapped_one_step n f i (i + 1) c.args.row.now c.loop-i.row new old (n old) both both (zip (map m mask) (map s src))
    c.loop-i.invariant refl (omega arith) (omega (arith, length-beside m s mask src))
    (item-zip m s mask src i matte item (omega arith) (omega arith) c.index-mask-i.is c.index-src-i.is) c.index-row-i.is
    (replaced (λ (z : List ℕ). f z both) (n was) (n old) (n new) by_value (ap n (sym c.index-row-i.is)))

pub returns : goal.returns
returns g c =
    let n = g.D.Stored.reads in
    let layout : Layout = g.P.Pixel.layout in
    let m = g.M.Coverage.numbers in
    let s = g.S.Stored.reads in
    let f = λ (d : List ℕ) (t : List ℕ × List ℕ). matted_composite layout g.O.Blend.op (matte_value layout t.0) t.1 d in
    let beside = zip (map m c.args.mask.now) (map s c.args.src.now) in
    c.loop-i.invariant ∙ over_both f c.loop-i.i (map n c.args.row.now) beside (omega (arith, length-map c.args.row.now n, length-beside m s c.args.mask.now c.args.src.now))
