use Rattle.std.proofs.Common.{◌≡◌, ◌∙◌, ap, sym, map, ℕ}
use Rattle.std.specs.declared.ops.Range.{Range}
use Rattle.pix_chan.specs.Runs.{over}
use Rattle.pix_el.specs.Planes.{matted_first}
use Rattle.pix_el.specs.Pixel.{Layout}
use Rattle.pix_el.proofs.Models.{placed_by_row}
use Rattle.pix_el.proofs.FourPlanes.{is_four_of, four_of}
use Rattle.pix_el.proofs.MaskedPlanes.{masked_planes}
use Rattle.pix_el.proofs.planes.planes_x16.masked_channels.Goals as goal

pub returns : goal.returns
returns g c = λ pixels are.
    let max = g.P.Chan.Channel.max in
    let v = g.P.Chan.Channel.number in
    let layout : Layout = g.P.Pixel.layout in
    let hues = g.P.Model.ColorModel.CIRCULAR in
    let h = layout.hues.end in
    let ms = map v c.args.mattes.now in
    let four : layout ≡ four_of max h = is_four_of layout max hues g.P.Model.ColorModel.ALPHA g.met.P.Pixel.laid_out
    c.requires.count c.requires.alpha (placed_by_row g.P.Model.ColorModel.model _ g.met.P.Model.ColorModel.stands).hue_first in
    let same : hues ≡ record { start = 0; end = h } = sym (ap (λ (l : Layout). l.hues) g.met.P.Pixel.laid_out) ∙ ap (λ (l : Layout). l.hues) four in
    rw (four) (masked_planes max h c.requires.hue ms pixels are
    (c.scale_first.ensures ∙ ap (λ (r : Range ℕ). over (matted_first max r) ms (map v c.args.one)) same)
    c.mul_run.ensures c.mul_run-2.ensures c.mul_run-3.ensures)
