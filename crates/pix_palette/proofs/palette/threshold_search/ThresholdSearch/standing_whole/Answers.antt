-- Of `ThresholdSearch::standing_whole`: that none stands where none is near.
use Rattle.std.proofs.Common.{map, refl}
use Rattle.pix_table.proofs.lemmas.threshold.Settings.{none_near_stands}
use Rattle.pix_table.specs.matching.Nearest as nearest
use Rattle.pix_table.specs.threshold.Setting.{Always}
use Rattle.pix_palette.specs.Palette.{numbers}
use Rattle.pix_palette.proofs.palette.threshold_search.ThresholdSearch.standing_whole.Goals as goal

pub returns-then-has_none-clause-standing : goal.returns-then-has_none-clause-standing
returns-then-has_none-clause-standing c =
    none_near_stands (Always (nearest.numbers c.args.threshold)) (map numbers c.args.colors.now) (nearest.numbers c.args.clr) (nearest.numbers c.args.threshold)
    (c.if-has_none.ensures refl) refl
