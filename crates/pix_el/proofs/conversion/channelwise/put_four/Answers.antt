use Rattle.std.proofs.Common.{arith}
use Rattle.pix_el.proofs.FourPlanes.{all_set}
use Rattle.pix_el.proofs.conversion.channelwise.put_four.Goals as goal

pub returns : goal.returns
returns g c = all_set c.args.p.now c.args.one c.args.two c.args.three c.args.four (omega arith)
