use Rattle.std.proofs.Common.{◌∙◌, ap, arith}
use Rattle.pix_el.proofs.MattePlanes.{mapped16}
use Rattle.pix_el.specs.Planes.{coverage_of}
use Rattle.pix_el.proofs.planes.matted.matte_values.Goals as goal

pub returns : goal.returns
returns g c =
    let f = (coverage_of g.C.Channel.max g.M.Coverage.numbers) in
    mapped16 f c.args.src.now c.index-src-0.result c.index-src-1.result c.index-src-2.result c.index-src-3.result c.index-src-4.result c.index-src-5.result c.index-src-6.result c.index-src-7.result c.index-src-8.result c.index-src-9.result c.index-src-10.result c.index-src-11.result c.index-src-12.result c.index-src-13.result c.index-src-14.result c.index-src-15.result (omega arith)
    (c.coverage.ensures ∙ ap f c.index-src-0.is) (c.coverage-2.ensures ∙ ap f c.index-src-1.is) (c.coverage-3.ensures ∙ ap f c.index-src-2.is) (c.coverage-4.ensures ∙ ap f c.index-src-3.is)
    (c.coverage-5.ensures ∙ ap f c.index-src-4.is) (c.coverage-6.ensures ∙ ap f c.index-src-5.is) (c.coverage-7.ensures ∙ ap f c.index-src-6.is) (c.coverage-8.ensures ∙ ap f c.index-src-7.is)
    (c.coverage-9.ensures ∙ ap f c.index-src-8.is) (c.coverage-10.ensures ∙ ap f c.index-src-9.is) (c.coverage-11.ensures ∙ ap f c.index-src-10.is) (c.coverage-12.ensures ∙ ap f c.index-src-11.is)
    (c.coverage-13.ensures ∙ ap f c.index-src-12.is) (c.coverage-14.ensures ∙ ap f c.index-src-13.is) (c.coverage-15.ensures ∙ ap f c.index-src-14.is) (c.coverage-16.ensures ∙ ap f c.index-src-15.is)
