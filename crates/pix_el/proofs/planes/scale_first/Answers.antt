use Rattle.std.proofs.Common.{◌≡◌, ◌∙◌, sym, true, false, map}
use Rattle.pix_el.specs.Pixel.{lies_in}
use Rattle.pix_ops.proofs.RunTerms.{as_they_are}
use Rattle.pix_el.proofs.MattePlanes.{matted_first_is}
use Rattle.pix_el.proofs.planes.scale_first.Goals as goal

pub returns-then-not-is_hue : goal.returns-then-not-is_hue
returns-then-not-is_hue g c =
    let v = g.C.Channel.number in
    let h : lies_in g.M.ColorModel.CIRCULAR 0 ≡ false = cc in
    c.mul_run.ensures ∙ matted_first_is g.C.Channel.max g.M.ColorModel.CIRCULAR false h (map v c.args.mattes.now) (map v c.args.channels.now)

pub returns-else-not-is_hue : goal.returns-else-not-is_hue
returns-else-not-is_hue g c =
    let v = g.C.Channel.number in
    let h : lies_in g.M.ColorModel.CIRCULAR 0 ≡ true = cc in
    sym (as_they_are (map v c.args.mattes.now) (map v c.args.channels.now))
    ∙ matted_first_is g.C.Channel.max g.M.ColorModel.CIRCULAR true h (map v c.args.mattes.now) (map v c.args.channels.now)
