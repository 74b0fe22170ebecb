-- Of `ThresholdSearch::closest`: a condition of its call of `closest_first`.
use Rattle.pix_palette.proofs.palette.threshold_search.ThresholdSearch.closest.Goals as goal

pub closest_first-first-requires-clause-blocks : goal.closest_first-first-requires-clause-blocks
closest_first-first-requires-clause-blocks c = rw (c.deref-2.ensures.value) c.requires.near.blocks.blocks
