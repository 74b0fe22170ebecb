-- Of `Palette::standing_found`: that the first entry which is the color stands for it.
use Rattle.pix_table.proofs.lemmas.threshold.Settings.{first_stands}
use Rattle.pix_palette.proofs.palette.table.Palette.standing_found.Goals as goal

pub returns-in-Some-clause-standing : goal.returns-in-Some-clause-standing
returns-in-Some-clause-standing g c = first_stands _ _ _ c.in-Some.first (rw (c.deref.ensures.value, c.in-Some.is) at c.first.ensures)

pub standing_near-requires-clause-near : goal.standing_near-requires-clause-near
standing_near-requires-clause-near g c = c.requires.finder.near
