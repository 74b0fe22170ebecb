-- Of `Group::costs_more`: that the weights of few colors fit, and that the cost is more.
use Rattle.std.proofs.Common.{arith, length-append}
use Rattle.pix_table.proofs.quantization.group.Group.costs_more.Goals as goal

pub both-both-requires : goal.both-both-requires
both-both-requires g c = let r = c.requires in (r.0, r.1, r.2.sums, r.3.sums, r.4)

pub overflow_cast-apart : goal.overflow_cast-apart
overflow_cast-apart g c =
    let r = c.requires in
    omega (
      arith,
      r.2.little,
      r.3.little,
      c.are_few.ensures c.if-not-are_few.false _ (c.both-both.ensures r.0 r.1 r.2.sums r.3.sums),
      length-append r.0 r.1,
    )

pub overflow_cast-apart-2 : goal.overflow_cast-apart-2
overflow_cast-apart-2 g c =
    let r = c.requires in
    omega (
      arith,
      r.2.little,
      r.3.little,
      c.are_few.ensures c.if-not-are_few.false _ (c.both-both.ensures r.0 r.1 r.2.sums r.3.sums),
      length-append r.0 r.1,
    )

pub overflow_add-apart : goal.overflow_add-apart
overflow_add-apart g c =
    let r = c.requires in
    omega (
      arith,
      r.2.little,
      r.3.little,
      c.are_few.ensures c.if-not-are_few.false _ (c.both-both.ensures r.0 r.1 r.2.sums r.3.sums),
      length-append r.0 r.1,
    )

pub overflow_cast-most : goal.overflow_cast-most
overflow_cast-most g c =
    let r = c.requires in
    omega (
      arith,
      c.if-most-from.true,
      c.from.ensures,
      r.2.little,
      r.3.little,
      c.are_few.ensures c.if-not-are_few.false _ (c.both-both.ensures r.0 r.1 r.2.sums r.3.sums),
      length-append r.0 r.1,
    )

pub box_weighs_at_most-requires : goal.box_weighs_at_most-requires
box_weighs_at_most-requires g c = let r = c.requires in (_, c.both-both.ensures r.0 r.1 r.2.sums r.3.sums)

pub returns-then-most-from : goal.returns-then-most-from
returns-then-most-from g c = λ h a b p q.
    omega (
      arith,
      p.weight,
      q.weight,
      c.from.ensures,
      c.from-then-most-from.ensures,
      c.box_weighs_at_most.ensures h _ (c.both-both.ensures a b p.sums q.sums),
      c.if-most-from.true,
    )
