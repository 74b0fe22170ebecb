-- What holds at each turn of the loop over `i` in `scale_each`.
use Rattle.std.proofs.Common.{map, if◌then◌else◌}
use Rattle.pix_chan.specs.Product.{channel_product}
use Rattle.pix_el.specs.Pixel.{lies_in}
use Rattle.pix_el.proofs.Written.{Written}
use Rattle.pix_el.proofs.each.scale_each.Given as goal

-- the channels below i are scaled
abbrev pub invariant-loop-i : goal.invariant-loop-i
invariant-loop-i g l =
    let max = g.C.Channel.max in
    let n = g.C.Channel.number in
    Written (λ k d. if lies_in g.M.ColorModel.CIRCULAR k then d else channel_product max d (n l.matte))
    max (map n l.initial.channels) (map n l.channels) l.i
