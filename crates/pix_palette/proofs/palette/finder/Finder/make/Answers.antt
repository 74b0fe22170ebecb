-- Of `Finder::make`: what it tells of the lists.
use Rattle.pix_palette.specs.Finder.{place}
use Rattle.pix_palette.proofs.palette.finder.Finder.make.Goals as goal

pub returns-clause-lists : goal.returns-clause-lists
returns-clause-lists c = c.take_memory.ensures.lists place

pub returns-clause-made : goal.returns-clause-made
returns-clause-made c = c.take_memory.ensures.made place
