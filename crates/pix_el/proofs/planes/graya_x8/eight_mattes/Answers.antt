use Rattle.std.proofs.Common.{◌∙◌, ◌++◌, ap, arith, replicate, List, ℕ}
use Rattle.pix_chan.proofs.Sixteen.{mapped8}
use Rattle.pix_el.specs.Planes.{coverage_of}
use Rattle.pix_el.proofs.planes.graya_x8.eight_mattes.Goals as goal

pub returns : goal.returns
returns g c =
    let f = (coverage_of g.C.Channel.max g.M.Coverage.numbers) in
    rw (c.MIN-none.ensures, g.met.C.Channel.min_is_zero) (ap (λ (l : List ℕ). l ++ replicate 8 0)
    (mapped8 f c.args.src.now c.index-src-0.result c.index-src-1.result c.index-src-2.result c.index-src-3.result c.index-src-4.result c.index-src-5.result c.index-src-6.result c.index-src-7.result (omega arith)
    (c.coverage.ensures ∙ ap f c.index-src-0.is) (c.coverage-2.ensures ∙ ap f c.index-src-1.is) (c.coverage-3.ensures ∙ ap f c.index-src-2.is) (c.coverage-4.ensures ∙ ap f c.index-src-3.is) (c.coverage-5.ensures ∙ ap f c.index-src-4.is) (c.coverage-6.ensures ∙ ap f c.index-src-5.is) (c.coverage-7.ensures ∙ ap f c.index-src-6.is) (c.coverage-8.ensures ∙ ap f c.index-src-7.is)))
