-- Of `Ch8Channel::lerp`: the clauses but `value`.
use Rattle.std.proofs.Common.{arith, rules}
use Rattle.pix_chan.proofs.Answered.{lerped}
use Rattle.pix_chan.proofs.chan.bits8.Ch8Channel.lerp.Goals as goal

pub returns-clause-between : goal.returns-clause-between
returns-clause-between c = (lerped 255 c.args.self.value c.args.rhs.value c.args.t.value c.lerp-value.result (omega arith) (omega (arith, c.args.t.fits)) (search rules)).between

pub returns-clause-ends : goal.returns-clause-ends
returns-clause-ends c = (lerped 255 c.args.self.value c.args.rhs.value c.args.t.value c.lerp-value.result (omega arith) (omega (arith, c.args.t.fits)) (search rules)).ends

pub returns-clause-above : goal.returns-clause-above
returns-clause-above c = (lerped 255 c.args.self.value c.args.rhs.value c.args.t.value c.lerp-value.result (omega arith) (omega (arith, c.args.t.fits)) (search rules)).above

pub returns-clause-below : goal.returns-clause-below
returns-clause-below c = (lerped 255 c.args.self.value c.args.rhs.value c.args.t.value c.lerp-value.result (omega arith) (omega (arith, c.args.t.fits)) (search rules)).below
