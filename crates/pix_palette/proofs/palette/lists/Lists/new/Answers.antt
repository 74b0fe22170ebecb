-- Of `Lists::new`: that lists of no entries are those of any palette.
use Rattle.std.proofs.Common.{rules}
use Rattle.pix_palette.specs.Finder.{AreLists}
use Rattle.pix_palette.proofs.palette.lists.Lists.new.Goals as goal

pub returns : goal.returns
returns c = λ placing colors.
    let lists : AreLists placing colors c.new.result.items c.new-2.result.items = search rules in lists
