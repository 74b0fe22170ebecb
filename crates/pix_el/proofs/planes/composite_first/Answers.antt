use Rattle.std.proofs.Common.{◌≡◌, ◌∙◌, true, false, map}
use Rattle.pix_el.specs.Pixel.{lies_in}
use Rattle.pix_chan.specs.Runs.{triples}
use Rattle.pix_el.proofs.FourPlanes.{first_is}
use Rattle.pix_el.proofs.planes.composite_first.Goals as goal

pub returns-then-is_hue : goal.returns-then-is_hue
returns-then-is_hue g c =
    let v = g.C.Channel.number in
    let h : lies_in g.M.ColorModel.CIRCULAR 0 ≡ true = cc in
    c.composite_hues.ensures ∙ first_is g.C.Channel.max g.M.ColorModel.CIRCULAR g.O.Blend.op true h (triples (map v c.args.da1.now) (map v c.args.src.now) (map v c.args.sa1.now)) (map v c.args.dst.now)

pub returns-else-is_hue : goal.returns-else-is_hue
returns-else-is_hue g c =
    let v = g.C.Channel.number in
    let h : lies_in g.M.ColorModel.CIRCULAR 0 ≡ false = cc in
    c.composite_block.ensures ∙ first_is g.C.Channel.max g.M.ColorModel.CIRCULAR g.O.Blend.op false h (triples (map v c.args.da1.now) (map v c.args.src.now) (map v c.args.sa1.now)) (map v c.args.dst.now)
