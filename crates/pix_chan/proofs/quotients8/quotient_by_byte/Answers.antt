use Rattle.std.proofs.Common.{◌*◌, ◌/◌, ap, ◌∙◌}
use Rattle.pix_chan.proofs.ByTable.{by_reciprocal}
use Rattle.pix_chan.proofs.quotients8.quotient_by_byte.Goals as goal

pub returns : goal.returns
returns c = ap (λ r. c.args.n * r / 33554432) c.reciprocal.ensures ∙ by_reciprocal c.args.n c.args.d c.requires.n_fits c.requires.d_fits
