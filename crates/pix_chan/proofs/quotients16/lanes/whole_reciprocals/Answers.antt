use Rattle.std.proofs.Common.{◌∙◌, refl}
use Rattle.pix_chan.proofs.LaneQuotients.{parts_are}
use Rattle.pix_chan.proofs.quotients16.lanes.whole_reciprocals.Goals as goal

pub returns : goal.returns
returns c =
    c.in_parts.ensures
    ∙ parts_are _ _ _ _ c.whole_reciprocal.type_inv c.whole_reciprocal-2.type_inv c.whole_reciprocal-3.type_inv c.whole_reciprocal-4.type_inv
    ∙ rw (c.whole_reciprocal.ensures, c.whole_reciprocal-2.ensures, c.whole_reciprocal-3.ensures, c.whole_reciprocal-4.ensures) refl
