-- Of `best_place` of colors that stand once.
use Rattle.std.proofs.Common.{List, ℕ, refl, sym, subst}
use Rattle.std.specs.Prelude.{MatchOption}
use Rattle.pix_table.specs.matching.Nearest.{numbers}
use Rattle.pix_table.specs.quantization.Places.{CannotBeCutBy, HasBestBy, weight}
use Rattle.pix_table.proofs.lemmas.quantization.ItemCuts.{place_of_items}
use Rattle.pix_table.proofs.lemmas.quantization.Singles.{spread_singles}
use Rattle.pix_table.proofs.quantization.color_items.ColorItem.best_place.Goals as goal

pub returns : goal.returns
returns c =
    place_of_items 3 weight _ c.best_place.result c.requires.fit
    (subst (λ l. MatchOption c.best_place.result (CannotBeCutBy 3 l) (λ p. HasBestBy 3 weight l p.channel p.value p.gain))
    (sym (spread_singles numbers 3 (λ x. refl) c.args.items.now)) c.best_place.ensures)
