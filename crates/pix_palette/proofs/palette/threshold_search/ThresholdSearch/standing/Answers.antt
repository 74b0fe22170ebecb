-- Of `ThresholdSearch::standing`: a condition of its call of `standing_in`.
use Rattle.pix_palette.proofs.palette.threshold_search.ThresholdSearch.standing.Goals as goal

pub standing_in-requires-clause-blocks : goal.standing_in-requires-clause-blocks
standing_in-requires-clause-blocks c = rw (c.deref-2.ensures.value) c.follow.ensures.blocks
