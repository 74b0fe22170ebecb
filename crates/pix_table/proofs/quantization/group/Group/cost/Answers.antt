-- Of `Group::cost`: that the sum fits, and the cost.
use Rattle.std.proofs.Common.{arith}
use Rattle.pix_table.proofs.quantization.group.Group.cost.Goals as goal

pub both-both-requires : goal.both-both-requires
both-both-requires g c = let r = c.requires in (r.0, r.1, r.2.sums, r.3.sums, r.4)

pub box_weight-requires : goal.box_weight-requires
box_weight-requires g c = let r = c.requires in (_, c.both-both.ensures r.0 r.1 r.2.sums r.3.sums)

pub overflow_add-self : goal.overflow_add-self
overflow_add-self g c = omega (arith, c.requires.2.little, c.requires.3.little, c.requires.4)

pub returns : goal.returns
returns g c = λ a b p q.
    omega (
      arith,
      p.weight,
      q.weight,
      c.box_weight.ensures.weight _ (c.both-both.ensures a b p.sums q.sums),
      c.saturating_sub.ensures,
    )
