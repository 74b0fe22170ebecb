use Rattle.std.proofs.Common.{◌≡◌, ◌∙◌, ap, arith, map}
use Rattle.std.proofs.lemmas.List.{length-map}
use Rattle.pix_el.proofs.Models.{placed_by_row}
use Rattle.pix_el.proofs.FourPlanes.{is_four_of, four_of}
use Rattle.pix_el.proofs.MaskedBlocks.{made_faded}
use Rattle.pix_el.proofs.planes.rgba_x8.RgbaX8Block.faded.Goals as goal

pub returns : goal.returns
returns g c =
    let max = g.P.Chan.Channel.max in
    let v = g.P.Chan.Channel.number in
    let s = g.S.Stored.reads in
    let colors = c.eight_pixels-colors.result in
    let four : g.P.Pixel.layout ≡ four_of max 0 = is_four_of g.P.Pixel.layout max g.P.Model.ColorModel.CIRCULAR g.P.Model.ColorModel.ALPHA g.met.P.Pixel.laid_out
    c.requires.suits.0 c.requires.suits.1 (placed_by_row g.P.Model.ColorModel.model _ g.met.P.Model.ColorModel.stands).hue_first ∙ ap (four_of max) c.requires.suits.2 in
    made_faded g.P.Pixel.layout g.O.Blend.op max (v c.args.alpha) (map v c.mul_run.new.dst) (map v colors) (map s c.args.src.now) _ _
    four (omega (arith, length-map colors v)) (omega (arith, length-map c.args.src.now s, c.requires.src_size)) c.composite_eight.ensures c.mul_run.ensures c.eight_pixels-colors.ensures
