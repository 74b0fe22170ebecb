-- Of `Finder::new`: that a finder of no entries follows any palette.
use Rattle.pix_palette.specs.Finder.{place}
use Rattle.pix_palette.proofs.palette.finder.Finder.new.Goals as goal

pub returns : goal.returns
returns c = λ colors. record { places = c.new.ensures place colors; near = c.new-2.ensures colors }
