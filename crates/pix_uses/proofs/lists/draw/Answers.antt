use Rattle.pix_uses.proofs.Within.{are_within_more}
use Rattle.pix_uses.proofs.lists.draw.Goals as goal

pub returns : goal.returns
returns c = λ x y ch hx hy bounded plain constant_source.
    are_within_more _ _ _ _ ((c.run.ensures.small_budget x y ch hx hy bounded).constant_source plain constant_source) (c.run.ensures.within_budget x y ch hx hy bounded)
