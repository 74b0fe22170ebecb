use Rattle.std.proofs.Common.{arith, ap, ◌∙◌, List, ℕ}
use Rattle.pix_el.specs.LightBlocks.{changed_four}
use Rattle.pix_el.proofs.FourPlanes.{mapped4}
use Rattle.pix_el.proofs.light.blocks.four_changed.Goals as goal

pub returns : goal.returns
returns g c =
    let f : g.row.P.Denot → List ℕ = λ p. changed_four g.P.Chan.Channel.max g.P.Alpha.Alpha.mode g.D.Alpha.Alpha.mode (g.P.Pixel.numbers p) in
    mapped4 f c.args.p.now c.index-p-0.result c.index-p-1.result c.index-p-2.result c.index-p-3.result (omega arith)
    (c.changed-a.ensures ∙ ap f c.index-p-0.is) (c.changed-e.ensures ∙ ap f c.index-p-1.is) (c.changed-i.ensures ∙ ap f c.index-p-2.is) (c.changed-m.ensures ∙ ap f c.index-p-3.is)
