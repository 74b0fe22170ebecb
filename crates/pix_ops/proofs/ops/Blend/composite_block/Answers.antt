use Rattle.std.proofs.Common.{◌≡◌, ◌∙◌, ap, sym, arith, map}
use Rattle.std.proofs.lemmas.List.{length-map}
use Rattle.pix_chan.specs.Runs.{over, triples}
use Rattle.pix_ops.specs.Operators.{Coefficient, row}
use Rattle.pix_ops.specs.Composite.{run_terms, run_composite}
use Rattle.pix_ops.proofs.RunTerms.{terms_and_sum}
use Rattle.pix_ops.proofs.ops.Blend.composite_block.Goals as goal

pub returns : goal.returns
returns g c =
    let m = g.C.Channel.max in
    let v = g.C.Channel.number in
    let a = g.Self.Source.Factor.coefficient in
    let b = g.Self.Dest.Factor.coefficient in
    let op = g.Self.Blend.op in
    let tabled = g.met.Self.Blend.tabled in
    let ds = c.args.dst.now in
    let ms = c.args.da1.now in
    let ss = c.args.src.now in
    let bs = c.args.sa1.now in
    let ts = triples (map v ms) (map v ss) (map v bs) in
    let step = terms_and_sum m a b (map v ds) (map v ms) (map v ss) (map v bs)
    (omega (arith, length-map ds v, length-map ms v)) (omega (arith, length-map ds v, length-map ss v)) (omega (arith, length-map ds v, length-map bs v)) in
    let by_row : over (run_terms m a b) ts (map v ds) ≡ over (run_composite m op) ts (map v ds) =
    ap (λ (k : Coefficient). over (run_terms m k b) ts (map v ds)) (sym tabled.0)
    ∙ ap (λ (k : Coefficient). over (run_terms m (row op).source k) ts (map v ds)) (sym tabled.1) in
    cc
