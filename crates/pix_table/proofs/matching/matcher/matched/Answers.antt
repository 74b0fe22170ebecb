-- Of `matched`: the index of a pixel whose alpha is below, and of one whose alpha is not.
use Rattle.std.proofs.Common.{inr, arith}
use Rattle.pix_table.proofs.lemmas.matching.NearestEntries.{same_channels}
use Rattle.pix_table.proofs.matching.matcher.matched.Goals as goal

pub returns-clause-matched : goal.returns-clause-matched
returns-clause-matched g c = λ entries finds answers.
    inr (omega (arith, c.alpha.ensures), same_channels _ _ _ _ c.rgb.ensures.red c.rgb.ensures.green c.rgb.ensures.blue (c.nearest_by.ensures.nearest entries finds answers))
