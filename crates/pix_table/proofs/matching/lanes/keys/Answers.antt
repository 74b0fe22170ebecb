use Rattle.std.proofs.Common.{arith}
use Rattle.std.proofs.lemmas.Simd.{Each1-get_or}
use mir.Syntax.{w16}
use mir.Val.{Fits}
use Rattle.pix_table.proofs.lemmas.matching.LaneNumbers.{key_at}
use Rattle.pix_table.proofs.matching.lanes.keys.Goals as goal

pub returns : goal.returns
returns c = λ i below.
    let fits = Each1-get_or (Fits w16) c.args.least i 0 (omega arith) c.fits-least.1 in
    key_at c.args.least c.args.at i (omega arith) (omega arith) below fits.fits (c.requires i below)
