use Rattle.std.proofs.Common.{◌≡◌, ◌∙◌, ap, sym, arith, map, List, ℕ}
use Rattle.std.proofs.lemmas.List.{length-map}
use Rattle.pix_chan.specs.Runs.{over}
use Rattle.pix_chan.specs.Product.{channel_product}
use Rattle.pix_el.specs.Planes.{by_twos}
use Rattle.pix_el.specs.Pixel.{Layout}
use Rattle.pix_el.specs.PixelComposite.{matted_color}
use Rattle.pix_el.proofs.Models.{placed_by_row}
use Rattle.pix_el.proofs.TwoPixels.{is_two_of, two_of, twos_matted}
use Rattle.pix_el.proofs.planes.graya_x16.masked_channels.Goals as goal

pub returns : goal.returns
returns g c =
    let max = g.P.Chan.Channel.max in
    let v = g.P.Chan.Channel.number in
    let layout : Layout = g.P.Pixel.layout in
    let cs = map v c.args.to in
    let ms = map v c.args.values in
    let two : layout ≡ two_of max = is_two_of layout max g.P.Model.ColorModel.CIRCULAR g.P.Model.ColorModel.ALPHA g.met.P.Pixel.laid_out
    c.requires.count c.requires.alpha c.requires.no_hue (placed_by_row g.P.Model.ColorModel.model _ g.met.P.Model.ColorModel.stands).hue_first in
    ap by_twos c.mul_run.ensures
    ∙ ap (λ (l : List ℕ). by_twos (over (λ y x. channel_product max x y) l cs)) c.in_turn.ensures
    ∙ twos_matted max 16 ms cs (omega (arith, length-map c.args.values v)) (omega (arith, length-map c.args.to v))
    ∙ ap (λ (l : Layout). over (matted_color l) ms (by_twos cs)) (sym two)
