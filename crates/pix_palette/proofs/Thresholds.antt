-- An entry that stands for a color by a threshold which is answered stands for it.
use Rattle.std.proofs.Common.{◌≡◌, ℕ, List, [], ◌∷◌, Bool, true, false, length, map, sym, subst, ◌∙◌, inl, inr, Option, Some, None}
use Rattle.std.proofs.lemmas.List.{length-map}
use Rattle.pix_table.specs.threshold.PaletteMatch.{difference_to}
use Rattle.pix_table.specs.threshold.Setting.{Fits, Matches, StandsFor, Always}
use Rattle.pix_table.proofs.lemmas.threshold.Settings.{none_stands}
use Rattle.pix_palette.specs.Palette.{Color, numbers}
use Rattle.pix_palette.specs.Finder.{IsNowhere}

fits_by : (answers : ℕ → List ℕ → Type 0) (t : List ℕ) (n : ℕ) (d : List ℕ) (fits : Bool) → answers n t → Fits (Always t) n d fits → Fits answers n d fits
fits_by answers t n d fits h (inl both) = inl both
fits_by answers t n d fits h (inr asked) = inr (asked.0, subst (answers n) (sym asked.1) h, asked.2)

matches_by : (answers : ℕ → List ℕ → Type 0) (t : List ℕ) (entries : List (List ℕ)) (color : List ℕ) (m : ℕ) (fits : Bool) → answers (length entries) t
    → Matches (Always t) entries color m fits → Matches answers entries color m fits
matches_by answers t entries color m fits h s =
    record { match = s.match; within = fits_by answers t (length entries) (difference_to entries color m) fits h s.within }

stands_by : (answers : ℕ → List ℕ → Type 0) (t : List ℕ) (entries : List (List ℕ)) (color : List ℕ) (found : Option ℕ) → answers (length entries) t
    → StandsFor (Always t) entries color found → StandsFor answers entries color found
stands_by answers t entries color (Some m) h s = matches_by answers t entries color m true h s
stands_by answers t [] color None h s = s
stands_by answers t (entry ∷ entries) color None h s = (s.0, matches_by answers t (entry ∷ entries) color s.0 false h s.1)

-- the same of colors whose numbers were read
pub standing_by : (answers : ℕ → List ℕ → Type 0) (t t' : List ℕ) (color color' : List ℕ) (entries entries' : List Color) (found : Option ℕ) → entries' ≡ entries
    → t' ≡ t → color' ≡ color → answers (length entries) t → StandsFor (Always t') (map numbers entries') color' found
    → StandsFor answers (map numbers entries) color found
standing_by answers t t' color color' entries entries' found e f g h s =
    stands_by answers t (map numbers entries) color found (subst (λ n. answers n t) (sym (length-map entries numbers)) h)
    (subst (λ c. StandsFor (Always t) (map numbers entries) c found) g
    (subst (λ u. StandsFor (Always u) (map numbers entries) color' found) f
    (subst (λ l. StandsFor (Always t') (map numbers l) color' found) e s)))

-- where each entry differs from a color, none stands for it by a threshold of 0 that is answered
pub none_by : (answers : ℕ → List ℕ → Type 0) (t t' : List ℕ) (color : List ℕ) (entries : List Color) → IsNowhere (map numbers entries) color
    → t' ≡ t → t' ≡ 0 ∷ 0 ∷ 0 ∷ [] → answers (length entries) t → StandsFor answers (map numbers entries) color None
none_by answers t t' color entries none e zeros h =
    none_stands answers (map numbers entries) color none
    (subst (λ n. answers n (0 ∷ 0 ∷ 0 ∷ [])) (sym (length-map entries numbers)) (subst (answers (length entries)) (sym e ∙ zeros) h))
