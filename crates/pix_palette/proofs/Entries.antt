-- Setting many colors, one after the other.
use Rattle.std.specs.Prelude.{take}
use Rattle.std.proofs.Common.{◌≡◌, ℕ, ◌+◌, ◌<◌, ◌≤◌, List, [], ◌∷◌, ◌++◌, length, get_or, set, refl, sym, ap, ◌∙◌, subst, Option}
use Rattle.std.proofs.lemmas.List.{take_more, take_more_set, take_all}
use Rattle.pix_table.specs.threshold.Indexing.{Setting}
use Rattle.pix_palette.specs.Entries.{AreEntriesSet}

-- one color more
set_more : {C : Type 0} (setting : Setting C) (old colors : List C) (answers : List (Option ℕ)) (between : List C) (color : C) (answer : Option ℕ) (new : List C)
    → AreEntriesSet setting old colors answers between → setting between color answer new
    → AreEntriesSet setting old (colors ++ color ∷ []) (answers ++ answer ∷ []) new
set_more setting old [] [] between color answer new h s = (new, subst (λ l. setting l color answer new) h s, refl)
set_more setting old (c ∷ colors) (a ∷ answers) between color answer new h s =
    (h.0, h.1, set_more setting h.0 colors answers between color answer new h.2 s)
set_more setting old [] (a ∷ answers) between color answer new h s = absurd h
set_more setting old (c ∷ colors) [] between color answer new h s = absurd h

-- the first i colors have been set
pub record AreEntriesBelow {C : Type 0} (setting : Setting C) (old colors : List C) (i : ℕ) (answers : List (Option ℕ)) (new : List C) : Type 0 where
  pub so_far : AreEntriesSet setting old (take i colors) (take i answers) new

pub no_entry : {C : Type 0} (setting : Setting C) (old colors : List C) (answers : List (Option ℕ)) → AreEntriesBelow setting old colors 0 answers old
no_entry setting old colors answers = record { so_far = refl }

pub one_entry : {C : Type 0} (setting : Setting C) (old colors : List C) (i : ℕ) (answers : List (Option ℕ)) (between : List C) (color : C) (answer : Option ℕ) (new : List C)
    → AreEntriesBelow setting old colors i answers between → i < length colors → i < length answers → color ≡ get_or colors i color
    → setting between color answer new → AreEntriesBelow setting old colors (i + 1) (set answers i answer) new
one_entry setting old colors i answers between color answer new h below room is s = record {
  so_far = subst (λ l. AreEntriesSet setting old (take (i + 1) colors) l new) (sym (take_more_set answers i answer room))
      (subst (λ l. AreEntriesSet setting old l (take i answers ++ answer ∷ []) new) (sym (take_more colors i color below ∙ ap (λ c. take i colors ++ c ∷ []) (sym is)))
      (set_more setting old (take i colors) (take i answers) between color answer new h.so_far s));
}

pub all_entries : {C : Type 0} (setting : Setting C) (old colors : List C) (i : ℕ) (answers : List (Option ℕ)) (new : List C)
    → AreEntriesBelow setting old colors i answers new → length colors ≤ i → length answers ≤ i → AreEntriesSet setting old colors answers new
all_entries setting old colors i answers new h a b =
    subst (λ l. AreEntriesSet setting old colors l new) (take_all i answers b)
    (subst (λ l. AreEntriesSet setting old l (take i answers) new) (take_all i colors a) h.so_far)
