-- Of `lesser`: the lesser number of each lane.
use mir.Syntax.{w16}
use Rattle.pix_table.proofs.lemmas.matching.LesserLanes.{lesser_lanes}
use Rattle.pix_table.proofs.matching.lanes.lesser.Goals as goal

pub returns : goal.returns
returns c = lesser_lanes w16 c.args.xs c.args.ys
