use Rattle.std.proofs.Common.{◌<◌, ◌≤◌, arith}
use Rattle.pix_ops.proofs.Hue.{less}
use Rattle.pix_el.proofs.hue.apart.Goals as goal

pub returns-then-lt : goal.returns-then-lt
returns-then-lt g c =
    let n = g.C.Channel.number in
    let h : n c.args.x < n c.args.y = rw c.if-lt.true at (less (n c.args.x) (n c.args.y) _ _ _ (g.met.C.Channel.orders c.args.x c.args.y) (g.met.C.Ord.matches_partial_cmp c.args.x c.args.y) c.lt.ensures) in
    omega (arith, g.met.C.Channel.differs _ _ _ c.sub.ensures)

pub returns-else-lt : goal.returns-else-lt
returns-else-lt g c =
    let n = g.C.Channel.number in
    let h : n c.args.y ≤ n c.args.x = rw c.if-lt.false at (less (n c.args.x) (n c.args.y) _ _ _ (g.met.C.Channel.orders c.args.x c.args.y) (g.met.C.Ord.matches_partial_cmp c.args.x c.args.y) c.lt.ensures) in
    omega (arith, g.met.C.Channel.differs _ _ _ c.sub-else-lt.ensures)
