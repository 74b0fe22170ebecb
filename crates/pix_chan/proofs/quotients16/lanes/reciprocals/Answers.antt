use Rattle.std.proofs.Common.{◌∙◌, refl}
use Rattle.pix_chan.proofs.LaneQuotients.{parts_are}
use Rattle.pix_chan.proofs.quotients16.lanes.reciprocals.Goals as goal

pub returns : goal.returns
returns c =
    c.in_parts.ensures
    ∙ parts_are _ _ _ _ c.reciprocal.type_inv c.reciprocal-2.type_inv c.reciprocal-3.type_inv c.reciprocal-4.type_inv
    ∙ rw (c.reciprocal.ensures.value, c.reciprocal-2.ensures.value, c.reciprocal-3.ensures.value, c.reciprocal-4.ensures.value, c.from.ensures, c.from-2.ensures, c.from-3.ensures, c.from-4.ensures) refl
