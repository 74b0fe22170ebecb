-- Of `best_place` of colors that stand once.
use Rattle.std.proofs.Common.{All, refl, sym, subst}
use Rattle.std.specs.Prelude.{MatchOption}
use Rattle.pix_table.specs.quantization.Places.{CannotBeCutBy, HasBestBy}
use Rattle.pix_table.specs.SeenPixels.{AreSeen, seen_numbers}
use Rattle.pix_table.specs.quantization.SeenCut.{seen_weight}
use Rattle.pix_table.proofs.lemmas.quantization.ItemCuts.{place_of_items}
use Rattle.pix_table.proofs.lemmas.quantization.SeenItems.{items_are, items_seen}
use Rattle.pix_table.proofs.lemmas.quantization.Singles.{spread_singles}
use Rattle.pix_table.proofs.rgba.items.SeenColorItem.best_place.Goals as goal

pub best_seen_place-requires : goal.best_seen_place-requires
best_seen_place-requires c =
    subst (All AreSeen) (spread_singles seen_numbers 4 (λ x. refl) c.args.items.now) (items_seen _ c.requires.fit)

pub returns : goal.returns
returns c =
    place_of_items 4 seen_weight _ c.best_seen_place.result (items_are _ c.requires.fit)
    (subst (λ l. MatchOption c.best_seen_place.result (CannotBeCutBy 4 l) (λ p. HasBestBy 4 seen_weight l p.channel p.value p.gain))
    (sym (spread_singles seen_numbers 4 (λ x. refl) c.args.items.now)) c.best_seen_place.ensures)
