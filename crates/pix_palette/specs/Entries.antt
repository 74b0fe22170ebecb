-- Setting many colors in a palette: each is set in the palette that those before it left.
use Rattle.std.specs.Prelude.{◌≡◌, ℕ, List, [], ◌∷◌, Option}
use Rattle.pix_table.specs.threshold.Indexing.{Setting}

-- setting colors, one after the other, gives these answers, one for each
abbrev pub AreEntriesSet : {C : Type 0} → Setting C → (old colors : List C) → List (Option ℕ) → (new : List C) → Type 0
AreEntriesSet set old [] [] new = new ≡ old
AreEntriesSet {C = C} set old (color ∷ colors) (answer ∷ answers) new =
    (next : List C) × set old color answer next × AreEntriesSet set next colors answers new
AreEntriesSet set old [] (answer ∷ answers) new = ⊥
AreEntriesSet set old (color ∷ colors) [] new = ⊥
