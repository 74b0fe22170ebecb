-- Of `lesser_wide`: the lesser key of each lane.
use mir.Syntax.{w32}
use Rattle.pix_table.proofs.lemmas.matching.LesserLanes.{lesser_lanes}
use Rattle.pix_table.proofs.matching.lanes.lesser_wide.Goals as goal

pub returns : goal.returns
returns c = lesser_lanes w32 c.args.xs c.args.ys
