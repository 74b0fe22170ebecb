use Rattle.std.proofs.Common.{◌∙◌, ap}
use Rattle.pix_el.specs.Planes.{by_fours}
use Rattle.pix_el.proofs.planes.planes_x16.put_planes.Goals as goal

pub returns : goal.returns
returns g c = c.put_quarters.ensures ∙ ap by_fours c.join4-a.ensures
