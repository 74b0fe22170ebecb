use Rattle.std.proofs.Common.{◌≡◌, ◌+◌, ◌-◌, ◌*◌, ◌∙◌, sym, ap, arith, length, map, take, drop, min, ℕ, List}
use Rattle.std.proofs.lemmas.List.{length-map}
use Rattle.pix_chan.specs.Runs.{triples}
use Rattle.pix_ops.specs.Composite.{run_composite}
use Rattle.pix_chan.proofs.Slices.{run, over-nil, mapped_run_step, over_both, length-triples, part-triples, part_of}
use Rattle.pix_ops.proofs.ops.Blend.composite_run.Goals as goal
use Rattle.pix_ops.proofs.ops.Blend.composite_run.Goals.{then-count-start-lt32, else-count-start-lt32}

same_triples : {a b c d e f : List ℕ} → a ≡ d → b ≡ e → c ≡ f → triples a b c ≡ triples d e f
same_triples {a} {b} {c} {d} {e} {f} p q r =
    ap (λ (l : List ℕ). triples l b c) p ∙ ap (λ (l : List ℕ). triples d l c) q ∙ ap (λ (l : List ℕ). triples d e l) r

pub loop-k-init : goal.loop-k-init
loop-k-init g c =
    let v = g.C.Channel.number in
    let f = λ (x : ℕ) (t : ℕ × ℕ × ℕ). run_composite g.C.Channel.max g.Self.Blend.op t x in
    let ts = triples (map v c.args.da1.now) (map v c.args.src.now) (map v c.args.sa1.now) in
    let z : 0 ≡ min (32 * 0) c.min-count.result = omega arith in
    sym (over-nil f (map v c.args.dst.now)) ∙ ap (λ k. run f (map v c.args.dst.now) (take k ts)) z

pub loop-k-preserved : goal.loop-k-preserved
loop-k-preserved g c =
    let v = g.C.Channel.number in
    let f = λ (x : ℕ) (t : ℕ × ℕ × ℕ). run_composite g.C.Channel.max g.Self.Blend.op t x in
    let ds = c.args.dst.now in
    let ms = c.args.da1.now in
    let ss = c.args.src.now in
    let bs = c.args.sa1.now in
    let ts = triples (map v ms) (map v ss) (map v bs) in
    let n = c.min-count.result in
    let a = 32 * c.loop-k.k in
    let e = c.if-count-start-lt32.end in
    let long : length ts ≡ min (length ms) (min (length ss) (length bs)) = length-triples (map v ms) (map v ss) (map v bs) ∙ omega (arith, length-map ms v, length-map ss v, length-map bs v) in
    let end : e ≡ min (32 * (c.loop-k.k + 1)) n = elim c.if-count-start-lt32.branch [ then-count-start-lt32 u ↦ omega arith | else-count-start-lt32 u ↦ omega arith ] in
    let begin : min (32 * c.loop-k.k) n ≡ a = omega arith in
    let k = e - a in
    let p = part-triples a k (map v ms) (map v ss) (map v bs) in
    let q = same_triples (part_of v f a k ms) (part_of v f a k ss) (part_of v f a k bs) in
    mapped_run_step v f a k e ds c.loop-k.dst c.composite_block.new.dst ts
    (c.loop-k.invariant ∙ ap (λ z. run f (map v ds) (take z ts)) begin) (omega arith) (omega arith) (omega arith)
    (c.composite_block.ensures ∙ ap (λ (l : List (ℕ × ℕ × ℕ)). run f (map v (take k (drop a c.loop-k.dst))) l) (q ∙ sym p))
    ∙ ap (λ z. run f (map v ds) (take z ts)) end

pub returns : goal.returns
returns g c =
    let v = g.C.Channel.number in
    let f = λ (x : ℕ) (t : ℕ × ℕ × ℕ). run_composite g.C.Channel.max g.Self.Blend.op t x in
    let ds = c.args.dst.now in
    let ms = c.args.da1.now in
    let ss = c.args.src.now in
    let bs = c.args.sa1.now in
    let ts = triples (map v ms) (map v ss) (map v bs) in
    let n = c.min-count.result in
    let long = length-triples (map v ms) (map v ss) (map v bs) in
    let z : min (32 * c.loop-k.k) n ≡ n = omega arith in
    let m : n ≡ min (length (map v ds)) (length ts) = omega (arith, long, length-map ds v, length-map ms v, length-map ss v, length-map bs v) in
    c.loop-k.invariant ∙ ap (λ k. run f (map v ds) (take k ts)) z ∙ over_both f n (map v ds) ts m
