use Rattle.std.proofs.Common.{◌∙◌, ap, arith}
use Rattle.pix_el.specs.Planes.{coverage_of}
use Rattle.pix_el.proofs.FourPlanes.{mapped4}
use Rattle.pix_el.proofs.planes.matted.four_values.Goals as goal

pub returns : goal.returns
returns g c =
    let f = coverage_of g.C.Channel.max g.M.Coverage.numbers in
    mapped4 f c.args.src.now c.index-src-0.result c.index-src-1.result c.index-src-2.result c.index-src-3.result (omega arith)
    (c.coverage.ensures ∙ ap f c.index-src-0.is) (c.coverage-2.ensures ∙ ap f c.index-src-1.is) (c.coverage-3.ensures ∙ ap f c.index-src-2.is) (c.coverage-4.ensures ∙ ap f c.index-src-3.is)
