use Rattle.std.proofs.Common.{◌≡◌, ◌+◌, ◌-◌, ◌≤◌, ◌∙◌, refl, sym, ap, arith, map, get_or, ℕ}
use Rattle.std.proofs.lemmas.List.{length-map, get_or-map}
use Rattle.pix_el.specs.Planes.{run_hue}
use Rattle.pix_ops.specs.Hue.{hue_composite}
use Rattle.pix_chan.specs.Runs.{triples}
use Rattle.pix_chan.proofs.Slices.{over-nil, mapped_one_step, over_both, length-triples, get_or-triples}
use Rattle.pix_el.proofs.planes.composite_hues.Goals as goal

pub loop-i-init : goal.loop-i-init
loop-i-init g c =
    let f = λ (x : ℕ) (t : ℕ × ℕ × ℕ). run_hue g.C.Channel.max g.O.Blend.op t x in
    sym (over-nil f (map g.C.Channel.number c.args.dst.now))

twice : (m a : ℕ) → a ≤ m → a ≡ m - (m - a)
twice m a h = omega arith

pub composite_hue-requires : goal.composite_hue-requires
composite_hue-requires g c =
    let v = g.C.Channel.number in
    let m : v c.MAX.result ≡ g.C.Channel.max = ap v c.MAX.ensures ∙ g.met.C.Channel.max_is_maximum in
    let e = g.met.C.Channel.differs _ _ _ c.sub.ensures in
    twice g.C.Channel.max (v c.index-sa1-i.result) (g.met.C.Channel.numbered.fits c.index-sa1-i.result)
    ∙ ap (λ z. g.C.Channel.max - z) (ap (λ z. z - v c.index-sa1-i.result) (sym m) ∙ sym e)

pub loop-i-preserved : goal.loop-i-preserved
loop-i-preserved g c =
    let v = g.C.Channel.number in
    let max = g.C.Channel.max in
    let op = g.O.Blend.op in
    let f = λ (x : ℕ) (t : ℕ × ℕ × ℕ). run_hue max op t x in
    let i = c.loop-i.i in
    let ds = c.args.dst.now in
    let ms = c.args.da1.now in
    let ss = c.args.src.now in
    let bs = c.args.sa1.now in
    let ts = triples (map v ms) (map v ss) (map v bs) in
    let m = c.index-da1-i.result in
    let s = c.index-src-i.result in
    let b = c.index-sa1-i.result in
    let w = c.index-dst-i.result in
    let y : ℕ × ℕ × ℕ = (v m, v s, v b) in
    let long = length-triples (map v ms) (map v ss) (map v bs) in
    let greatest : v c.MAX.result ≡ max = ap v c.MAX.ensures ∙ g.met.C.Channel.max_is_maximum in
    let e : v c.sub.result ≡ max - v b = g.met.C.Channel.differs _ _ _ c.sub.ensures ∙ ap (λ z. z - v b) greatest in
    let here : y ≡ get_or ts i (v m, v s, v b) =
    ap (λ (z : ℕ). let p : ℕ × ℕ × ℕ = (z, v s, v b) in p) (ap v c.index-da1-i.is ∙ sym (get_or-map v ms i m (v m) (omega arith)))
    ∙ ap (λ (z : ℕ). let p : ℕ × ℕ × ℕ = (get_or (map v ms) i (v m), z, v b) in p) (ap v c.index-src-i.is ∙ sym (get_or-map v ss i s (v s) (omega arith)))
    ∙ ap (λ (z : ℕ). let p : ℕ × ℕ × ℕ = (get_or (map v ms) i (v m), get_or (map v ss) i (v s), z) in p) (ap v c.index-sa1-i.is ∙ sym (get_or-map v bs i b (v b) (omega arith)))
    ∙ sym (get_or-triples i (map v ms) (map v ss) (map v bs) (v m) (v s) (v b) (omega (arith, length-map ms v)) (omega (arith, length-map ss v)) (omega (arith, length-map bs v))) in
    mapped_one_step v f i (i + 1) ds c.loop-i.dst c.composite_hue.new.dst w 0 y (v m, v s, v b) ts
    c.loop-i.invariant refl (omega arith) (omega (arith, long, length-map ms v, length-map ss v, length-map bs v)) here c.index-dst-i.is
    (c.composite_hue.ensures.composite
    ∙ ap (λ z. hue_composite max op (v s) (v c.sub.result) (v z) (max - v m)) (sym c.index-dst-i.is)
    ∙ ap (λ z. hue_composite max op (v s) z (v w) (max - v m)) e)

pub returns : goal.returns
returns g c =
    let v = g.C.Channel.number in
    let f = λ (x : ℕ) (t : ℕ × ℕ × ℕ). run_hue g.C.Channel.max g.O.Blend.op t x in
    let ds = c.args.dst.now in
    let ms = c.args.da1.now in
    let ss = c.args.src.now in
    let bs = c.args.sa1.now in
    let ts = triples (map v ms) (map v ss) (map v bs) in
    let long = length-triples (map v ms) (map v ss) (map v bs) in
    c.loop-i.invariant
    ∙ over_both f c.loop-i.i (map v ds) ts (omega (arith, long, length-map ds v, length-map ms v, length-map ss v, length-map bs v))
