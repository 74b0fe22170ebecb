-- Of `Ch8::encode_srgb`: the clauses `nearest`, `once` and `curve`.
use Rattle.std.proofs.Common.{refl, arith, ◌∙◌}
use Rattle.pix_chan.specs.declared.chan.srgb.TheConstants.{ENCODE}
use Rattle.pix_chan.proofs.SrgbTables.{encoded}
use Rattle.pix_chan.proofs.SrgbOnce.{encoded_once}
use Rattle.pix_chan.proofs.Rising.{rising_list}
use Rattle.pix_chan.proofs.chan.bits8.Ch8.encode_srgb.Goals as goal

pub returns-clause-curve : goal.returns-clause-curve
returns-clause-curve c = record { starts = refl; ends = refl; rises = λ m n le lt. rising_list ENCODE refl m n le (omega arith) }

pub returns-clause-nearest : goal.returns-clause-nearest
returns-clause-nearest c = rw c.new.ensures (encoded c.args.self.value c.from-2.result (c.from-2.ensures ∙ c.from.ensures) c.args.self.fits)

pub returns-clause-once : goal.returns-clause-once
returns-clause-once c = encoded_once 255 c.args.self.value
