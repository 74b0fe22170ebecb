-- Of `Ch8Channel::from_ratio`: the clauses but `value`.
use Rattle.std.proofs.Common.{rules}
use Rattle.pix_chan.proofs.Answered.{rounded}
use Rattle.pix_chan.proofs.chan.bits8.Ch8Channel.from_ratio.Goals as goal

pub returns-clause-none_nearer : goal.returns-clause-none_nearer
returns-clause-none_nearer c = (rounded 255 c.args.n c.args.d c.nearest.result c.requires.positive (search rules)).none_nearer

pub returns-clause-ties_up : goal.returns-clause-ties_up
returns-clause-ties_up c = (rounded 255 c.args.n c.args.d c.nearest.result c.requires.positive (search rules)).ties_up
