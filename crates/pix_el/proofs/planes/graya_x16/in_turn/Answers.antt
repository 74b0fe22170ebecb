use Rattle.std.proofs.Common.{◌∙◌}
use Rattle.pix_el.proofs.planes.graya_x16.in_turn.Goals as goal

pub returns : goal.returns
returns g c = c.joined.ensures ∙ c.join2-a.ensures
