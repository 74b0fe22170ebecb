-- Of `Ch8::decode_srgb16`: the clauses `nearest`, `once` and `curve`.
use Rattle.std.proofs.Common.{◌∙◌}
use Rattle.pix_chan.proofs.Srgb16.{decoded, curve}
use Rattle.pix_chan.proofs.SrgbOnce.{decoded_once}
use Rattle.pix_chan.proofs.chan.bits8.Ch8.decode_srgb16.Goals as goal

pub returns-clause-nearest : goal.returns-clause-nearest
returns-clause-nearest c = rw c.new.ensures (decoded c.args.self.value c.from-2.result (c.from-2.ensures ∙ c.from.ensures) c.args.self.fits)

pub returns-clause-once : goal.returns-clause-once
returns-clause-once c = decoded_once 65535 c.args.self.value

pub returns-clause-curve : goal.returns-clause-curve
returns-clause-curve c = curve
