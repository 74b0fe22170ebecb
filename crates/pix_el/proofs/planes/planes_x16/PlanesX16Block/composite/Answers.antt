use Rattle.std.proofs.Common.{map}
use Rattle.pix_el.proofs.planes.planes_x16.PlanesX16Block.composite.Goals as goal

pub returns : goal.returns
returns g c = c.composite_sixteen.ensures (map g.S.Stored.reads c.args.src.now) c.planes-one.ensures
