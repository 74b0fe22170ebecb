-- Of `Palette::set_entry`: the clauses `standing` and `minimal`.
use Rattle.std.proofs.Common.{◌≡◌, Some}
use Rattle.pix_table.proofs.lemmas.threshold.PaletteMatches.{match_minimal}
use Rattle.pix_table.proofs.lemmas.threshold.Settings.{standing_is_first}
use Rattle.pix_palette.proofs.palette.table.Palette.set_entry.Goals as goal

pub returns-clause-standing : goal.returns-clause-standing
returns-clause-standing g c = λ i first.
    let e : c.standing-standing.result ≡ Some i = standing_is_first _ _ _ c.standing-standing.result c.standing-standing.ensures i first in
    rw (e) at c.set_by.ensures.answered

pub returns-clause-minimal : goal.returns-clause-minimal
returns-clause-minimal g c = λ m h. match_minimal _ _ m h
