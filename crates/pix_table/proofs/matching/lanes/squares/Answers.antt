use Rattle.std.proofs.Common.{arith}
use Rattle.pix_table.proofs.lemmas.matching.LaneSquares.{squares_are}
use Rattle.pix_table.proofs.matching.lanes.squares.Goals as goal

pub returns : goal.returns
returns c = squares_are c.args.xs c.args.y c.from.result c.from.ensures (omega (arith, c.fits-xs.0)) (omega arith) c.fits-xs.1
