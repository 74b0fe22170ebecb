use Rattle.std.proofs.Common.{◌≡◌, ◌∙◌, ap, sym, map}
use Rattle.pix_chan.specs.Runs.{over}
use Rattle.pix_el.specs.Planes.{by_ones}
use Rattle.pix_el.specs.Pixel.{Layout}
use Rattle.pix_el.specs.PixelComposite.{matted_color}
use Rattle.pix_el.proofs.Models.{placed_by_row}
use Rattle.pix_el.proofs.OnePlane.{is_one_of, one_of}
use Rattle.pix_el.proofs.MaskedPlanes.{ones_masked}
use Rattle.pix_el.proofs.planes.alpha_x16.masked_channels.Goals as goal

pub returns : goal.returns
returns g c =
    let max = g.P.Chan.Channel.max in
    let v = g.P.Chan.Channel.number in
    let layout : Layout = g.P.Pixel.layout in
    let cs = map v c.args.to in
    let ms = map v c.args.mattes.now in
    let one : layout ≡ one_of max = is_one_of layout max g.P.Model.ColorModel.CIRCULAR g.P.Model.ColorModel.ALPHA g.met.P.Pixel.laid_out
    c.requires.count c.requires.alpha c.requires.no_hue (placed_by_row g.P.Model.ColorModel.model _ g.met.P.Model.ColorModel.stands).hue_first in
    ap by_ones c.mul_run.ensures
    ∙ ones_masked max ms cs
    ∙ ap (λ (l : Layout). over (matted_color l) ms (by_ones cs)) (sym one)
