-- Of `ThresholdSearch::new`: that lists and blocks of no entries are those of any palette.
use Rattle.pix_palette.specs.Finder.{cell}
use Rattle.pix_palette.proofs.palette.threshold_search.ThresholdSearch.new.Goals as goal

pub returns : goal.returns
returns c = λ colors. record { cells = c.new.ensures cell colors; blocks = c.new-2.ensures colors }
