-- Of `Ch16::encode_srgb8`: the clauses `nearest`, `once` and `curve`.
use Rattle.std.proofs.Common.{ap, ◌∙◌, ◌/◌, ◌%◌}
use Rattle.std.specs.Prelude.{slice_index_or}
use Rattle.pix_chan.specs.declared.chan.srgb16.TheConstants.{LEVELS}
use Rattle.pix_chan.proofs.Srgb16.{encoded_by, curve}
use Rattle.pix_chan.proofs.SrgbOnce.{encoded_once}
use Rattle.pix_chan.proofs.chan.bits16.Ch16.encode_srgb8.Goals as goal

pub returns-clause-nearest : goal.returns-clause-nearest
returns-clause-nearest c =
    let sixteen = c.from.ensures ∙ ap (λ n. n / 16) c.from-channel.ensures in
    let word = c.entry.ensures.value ∙ ap (λ k. slice_index_or LEVELS k 0) sixteen in
    let rest = c.from-2.ensures ∙ ap (λ n. n % 16) c.from-channel.ensures in
    rw c.new.ensures (encoded_by c.args.self.value c.entry.result c.from-2.result word rest c.args.self.fits)

pub returns-clause-once : goal.returns-clause-once
returns-clause-once c = encoded_once 65535 c.args.self.value

pub returns-clause-curve : goal.returns-clause-curve
returns-clause-curve c = curve
