use Rattle.std.proofs.Common.{◌∙◌, refl}
use Rattle.pix_chan.proofs.Whole.{nearest_of_natural}
use Rattle.pix_color.proofs.numbers.nearest.Goals as goal

pub returns : goal.returns
returns g c = c.exact.ensures ∙ nearest_of_natural g.C.Channel.max c.args.n c.args.d c.min.result (c.min.ensures ∙ rw (c.divided-ratio.ensures, c.max-max.ensures.value) refl)
