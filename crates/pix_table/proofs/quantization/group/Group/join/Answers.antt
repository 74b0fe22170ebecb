-- Of `Group::join`: that the sums are those of both.
use Rattle.pix_table.proofs.quantization.group.Group.join.Goals as goal

pub both-requires : goal.both-requires
both-requires g c = let r = c.requires in (r.0, r.1, r.2.sums, r.3.sums, r.4)

pub of-requires : goal.of-requires
of-requires g c = let r = c.requires in (_, c.both.ensures r.0 r.1 r.2.sums r.3.sums)

pub returns : goal.returns
returns g c = λ a b p q. c.of.ensures _ (c.both.ensures a b p.sums q.sums)
