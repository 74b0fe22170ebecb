-- What setting a color keeps: entries stay where they are, and a color that stands is answered at
-- its first index.
use Rattle.std.specs.Prelude.{nat_lt, if◌then◌else◌}
use Rattle.std.proofs.Common.{◌≡◌, ◌≢◌, ℕ, zero, suc, ◌+◌, ◌-◌, ◌<◌, ◌≤◌, Bool, true, false, List, [], ◌∷◌, ◌++◌, length, map, get_or, refl, arith, sym, ap, ◌∙◌, subst, inl, inr, Some, None, Option, append_assoc, length-append}
use Rattle.std.proofs.lemmas.Bool.{true≢false, false_from_ne_true}
use Rattle.std.proofs.lemmas.Bool.Decides.{nat_tests}
use Rattle.std.proofs.lemmas.List.{length-map, map-append, append-nil, get_or_append_left}
use Rattle.std.proofs.Math.Seq.{get_or-append_seam}
use Rattle.pix_table.specs.threshold.PaletteMatch.{color_difference, difference_to, is_within, is_closer, AreCandidates, IsMatch, IsMinimal, IsFirstOf}
use Rattle.pix_table.specs.threshold.Setting.{Fits, StandsFor, IsSet, set_answer, set_colors}
use Rattle.pix_table.specs.threshold.ColorBlocks.{IsBest}
use Rattle.pix_table.proofs.lemmas.threshold.PaletteMatches.{match_minimal, match_of_standing, zero_least, best_first, best_closer, best_stays, best_match}

-- a difference of 0 is within any threshold
pub zero_within : (t : List ℕ) → is_within (0 ∷ 0 ∷ 0 ∷ []) t ≡ true
zero_within t = grind (arith, nat_tests)

-- a match that is the color itself fits
pub zero_fits : (answers : ℕ → List ℕ → Type 0) (count : ℕ) (difference : List ℕ) → difference ≡ 0 ∷ 0 ∷ 0 ∷ [] → Fits answers count difference false
    → true ≡ false
zero_fits answers count difference none (inl both) = sym both.1
zero_fits answers count difference none (inr asked) =
    sym (zero_within asked.0) ∙ ap (λ d. is_within d asked.0) (sym none) ∙ asked.2

-- the entry that stands for a color that stands is its first one
pub standing_is_first : (answers : ℕ → List ℕ → Type 0) (entries : List (List ℕ)) (color : List ℕ) (found : Option ℕ)
    → StandsFor answers entries color found → (i : ℕ) → IsFirstOf entries color i → found ≡ Some i
standing_is_first answers entries color (Some m) h i first = ap Some (match_of_standing entries color m i h.match first)
standing_is_first answers [] color None h i first = absurd (let s : i < 0 = first.stands in omega arith)
standing_is_first answers (entry ∷ entries) color None h i first =
    let e : h.0 ≡ i = match_of_standing (entry ∷ entries) color h.0 i h.1.match first in
    absurd (true≢false (zero_fits answers (length (entry ∷ entries)) (difference_to (entry ∷ entries) color h.0)
    (ap (difference_to (entry ∷ entries) color) e ∙ first.same) h.1.within))

-- the new colors are the old ones and more
pub record Grows {C : Type 0} (old new : List C) : Type 0 where
  pub more : List C
  pub same : new ≡ old ++ more

pub grows_none : {C : Type 0} (old new : List C) → new ≡ old → Grows old new
grows_none old new e = record { more = []; same = e ∙ sym (append-nil old) }

pub grows_trans : {C : Type 0} (p q r : List C) → Grows p q → Grows q r → Grows p r
grows_trans p q r h k = record {
  more = h.more ++ k.more;
  same = k.same ∙ ap (λ l. l ++ k.more) h.same ∙ append_assoc p h.more k.more;
}

grows_if : {C : Type 0} (room : Bool) (old : List C) (color : C) (new : List C) → new ≡ (if room then old ++ color ∷ [] else old) → Grows old new
grows_if true old color new e = record { more = color ∷ []; same = e }
grows_if false old color new e = grows_none old new e

grows_by : {C : Type 0} (limit : ℕ) (old : List C) (color : C) (standing : Option ℕ) (new : List C) → new ≡ set_colors limit old color standing → Grows old new
grows_by limit old color (Some m) new e = grows_none old new e
grows_by limit old color None new e = grows_if (nat_lt (length old) limit) old color new e

pub set_grows : {C : Type 0} (read : C → List ℕ) (answers : ℕ → List ℕ → Type 0) (limit : ℕ) (old : List C) (color : C) (answer : Option ℕ) (new : List C)
    → IsSet read answers limit old color answer new → Grows old new
set_grows read answers limit old color answer new h = grows_by limit old color h.standing new h.same_colors

-- an entry stays
pub entry_stays : {C : Type 0} (read : C → List ℕ) (old new : List C) (i : ℕ) → Grows old new → i < length (map read old)
    → get_or (map read new) i [] ≡ get_or (map read old) i []
entry_stays read old new i g below =
    ap (λ l. get_or (map read l) i []) g.same ∙ ap (λ l. get_or l i []) (map-append read old g.more)
    ∙ get_or_append_left (map read old) (map read g.more) [] i below

pub longer : {C : Type 0} (read : C → List ℕ) (old new : List C) → Grows old new → length (map read old) ≤ length (map read new)
longer read old new g =
    let e : length new ≡ length old + length g.more = ap length g.same ∙ length-append old g.more in
    omega (arith, length-map old read, length-map new read)

-- the last candidate is an entry
candidate_below : (d : ℕ → List ℕ) (n i : ℕ) (candidates : List ℕ) (m : ℕ) → i < n → AreCandidates d n i candidates m → m < n
candidate_below d n i [] m below h = let e : m ≡ i = h.0 in omega arith
candidate_below d n i (j ∷ candidates) m below h = candidate_below d n j candidates m h.0.stands h.1

pub match_below : (entries : List (List ℕ)) (color : List ℕ) (m : ℕ) → IsMatch entries color m → m < length entries
match_below entries color m h = candidate_below (difference_to entries color) (length entries) 0 h.candidates m h.some h.last

-- no color differs from itself
no_difference : (x y z : ℕ) → (x - x + (x - x)) ∷ (y - y + (y - y)) ∷ (z - z + (z - z)) ∷ [] ≡ 0 ∷ 0 ∷ 0 ∷ []
no_difference x y z =
    let e : x - x + (x - x) ≡ 0 = omega arith in
    let f : y - y + (y - y) ≡ 0 = omega arith in
    let g : z - z + (z - z) ≡ 0 = omega arith in
    rw (e, f, g) refl

pub itself : (p : List ℕ) → color_difference p p ≡ 0 ∷ 0 ∷ 0 ∷ []
itself p = no_difference _ _ _

-- among the first entries there is a last candidate
record HasBest (entries : List (List ℕ)) (color : List ℕ) (n : ℕ) : Type 0 where
  pub at : ℕ
  pub least : List ℕ
  pub best : IsBest entries color n at least

best_more : (entries : List (List ℕ)) (color : List ℕ) (n : ℕ) (h : HasBest entries color n) (closer : Bool)
    → is_closer (difference_to entries color n) h.least ≡ closer → HasBest entries color (n + 1)
best_more entries color n h true e =
    record { at = n; least = difference_to entries color n; best = best_closer entries color n h.at h.least (difference_to entries color n) h.best refl e }
best_more entries color n h false e =
    record { at = h.at; least = h.least; best = best_stays entries color n h.at h.least (difference_to entries color n) h.best refl e }

has_best : (entries : List (List ℕ)) (color : List ℕ) (k n : ℕ) → n ≡ k + 1 → HasBest entries color n
has_best entries color zero n e =
    subst (HasBest entries color) (sym e) (record { at = 0; least = difference_to entries color 0; best = best_first entries color (difference_to entries color 0) refl })
has_best entries color (suc k) n e =
    let next : k + 1 + 1 ≡ n = omega arith in
    subst (HasBest entries color) next (best_more entries color (k + 1) (has_best entries color k (k + 1) refl) _ refl)

-- the first entry that is a color is its match
pub first_matches : (entries : List (List ℕ)) (color : List ℕ) (i : ℕ) → IsFirstOf entries color i → IsMatch entries color i
first_matches entries color i first =
    let stands : i < length entries = first.stands in
    let h : HasBest entries color (length entries) = has_best entries color (length entries - 1) (length entries) (omega arith) in
    let match : IsMatch entries color h.at = best_match entries color (length entries) h.at h.least refl h.best in
    subst (IsMatch entries color) (match_of_standing entries color h.at i match first) match

-- so it stands for the color
pub first_stands : (answers : ℕ → List ℕ → Type 0) (entries : List (List ℕ)) (color : List ℕ) (i : ℕ) → IsFirstOf entries color i
    → StandsFor answers entries color (Some i)
first_stands answers entries color i first = record { match = first_matches entries color i first; within = inl (first.same, refl) }

-- setting a color that an entry stands for answers that, and the table stays
pub standing_is_set : {C : Type 0} (read : C → List ℕ) (answers : ℕ → List ℕ → Type 0) (limit : ℕ) (old : List C) (color : C) (i : ℕ)
    → StandsFor answers (map read old) (read color) (Some i) → IsSet read answers limit old color (Some i) old
standing_is_set read answers limit old color i h = record { standing = Some i; found = h; same_answer = refl; same_colors = refl }

-- a color that no entry stands for differs from each entry
none_same : (answers : ℕ → List ℕ → Type 0) (entries : List (List ℕ)) (color : List ℕ) → StandsFor answers entries color None
    → (k : ℕ) → k < length entries → difference_to entries color k ≢ 0 ∷ 0 ∷ 0 ∷ []
none_same answers [] color h k below = absurd (omega arith)
none_same answers (entry ∷ entries) color h k below = λ e.
    let near : IsMinimal (entry ∷ entries) color h.0 = match_minimal (entry ∷ entries) color h.0 h.1.match in
    let not_closer : is_closer (0 ∷ 0 ∷ 0 ∷ []) (difference_to (entry ∷ entries) color h.0) ≡ false =
    subst (λ p. is_closer p (difference_to (entry ∷ entries) color h.0) ≡ false) e (near.none_closer k below) in
    true≢false (zero_fits answers (length (entry ∷ entries)) (difference_to (entry ∷ entries) color h.0)
    (zero_least (difference_to (entry ∷ entries) color h.0) not_closer) h.1.within)

-- the difference to an entry stays
pub difference_stays : {C : Type 0} (read : C → List ℕ) (old new : List C) (color : List ℕ) (k : ℕ) → Grows old new → k < length (map read old)
    → difference_to (map read new) color k ≡ difference_to (map read old) color k
difference_stays read old new color k g below = ap (λ entry. color_difference entry color) (entry_stays read old new k g below)

-- the first entry of a color stays that
pub first_stays : {C : Type 0} (read : C → List ℕ) (old new : List C) (color : List ℕ) (i : ℕ) → Grows old new → IsFirstOf (map read old) color i
    → IsFirstOf (map read new) color i
first_stays read old new color i g h =
    let stands : i < length (map read old) = h.stands in
    let long : length (map read old) ≤ length (map read new) = longer read old new g in
    record {
      stands = omega arith;
      same = difference_stays read old new color i g h.stands ∙ h.same;
      first = λ k below. λ e. h.first k below (sym (difference_stays read old new color k g (omega arith)) ∙ e);
    }

-- a color that is appended stands first at its index
first_appended : {C : Type 0} (read : C → List ℕ) (answers : ℕ → List ℕ → Type 0) (old : List C) (color : C) (new : List C)
    → StandsFor answers (map read old) (read color) None → new ≡ old ++ color ∷ [] → Grows old new → IsFirstOf (map read new) (read color) (length old)
first_appended read answers old color new h f g =
    let entries : map read new ≡ map read old ++ read color ∷ [] = ap (map read) f ∙ map-append read old (color ∷ []) in
    let long : length (map read new) ≡ length old + 1 = ap length entries ∙ length-append (map read old) (read color ∷ []) ∙ ap (λ n. n + 1) (length-map old read) in
    let entry : get_or (map read new) (length old) [] ≡ read color =
    ap (λ l. get_or l (length old) []) entries ∙ ap (λ k. get_or (map read old ++ read color ∷ []) k []) (sym (length-map old read))
    ∙ get_or-append_seam (map read old) (read color) [] [] in
    record {
      stands = omega arith;
      same = ap (λ p. color_difference p (read color)) entry ∙ itself (read color);
      first = λ k before. λ z.
          let inside : k < length (map read old) = omega (arith, length-map old read) in
          none_same answers (map read old) (read color) h k inside (sym (difference_stays read old new (read color) k g inside) ∙ z);
    }

-- the entry of the index that is answered stands for the color afterwards
stands_appended : {C : Type 0} (read : C → List ℕ) (answers : ℕ → List ℕ → Type 0) (room : Bool) (old : List C) (color : C) (i : ℕ) (new : List C)
    → StandsFor answers (map read old) (read color) None → Some i ≡ (if room then Some (length old) else None)
    → new ≡ (if room then old ++ color ∷ [] else old) → Grows old new → StandsFor answers (map read new) (read color) (Some i)
stands_appended read answers true old color i new h e f g =
    let at : i ≡ length old = cc in
    subst (λ k. StandsFor answers (map read new) (read color) (Some k)) (sym at)
    (first_stands answers (map read new) (read color) (length old) (first_appended read answers old color new h f g))
stands_appended read answers false old color i new h e f g = absurd (cc)

stands_by : {C : Type 0} (read : C → List ℕ) (answers : ℕ → List ℕ → Type 0) (limit : ℕ) (old : List C) (color : C) (i : ℕ) (new : List C) (standing : Option ℕ)
    → StandsFor answers (map read old) (read color) standing → Some i ≡ set_answer limit old standing → new ≡ set_colors limit old color standing
    → Grows old new → StandsFor answers (map read new) (read color) (Some i)
stands_by read answers limit old color i new (Some m) h e f g =
    let at : i ≡ m = cc in
    subst (λ l. StandsFor answers (map read l) (read color) (Some i)) (sym f) (subst (λ k. StandsFor answers (map read old) (read color) (Some k)) (sym at) h)
stands_by read answers limit old color i new None h e f g = stands_appended read answers (nat_lt (length old) limit) old color i new h e f g

pub set_stands : {C : Type 0} (read : C → List ℕ) (answers : ℕ → List ℕ → Type 0) (limit : ℕ) (old : List C) (color : C) (i : ℕ) (new : List C)
    → IsSet read answers limit old color (Some i) new → StandsFor answers (map read new) (read color) (Some i)
set_stands read answers limit old color i new h =
    stands_by read answers limit old color i new h.standing h.found h.same_answer h.same_colors (set_grows read answers limit old color (Some i) new h)

-- an entry that stands for a color and does not differ from it is the first that does not
pub standing_first : (answers : ℕ → List ℕ → Type 0) (entries : List (List ℕ)) (color : List ℕ) (i : ℕ) → StandsFor answers entries color (Some i)
    → difference_to entries color i ≡ 0 ∷ 0 ∷ 0 ∷ [] → IsFirstOf entries color i
standing_first answers entries color i h same =
    let near : IsMinimal entries color i = match_minimal entries color i h.match in
    record { stands = match_below entries color i h.match; same = same; first = λ k before. λ z. near.first k before (z ∙ sym same) }

-- a difference that is not 0 is not within a threshold of 0
not_within_zero : (x y z : ℕ) → (x ∷ y ∷ z ∷ [] ≢ 0 ∷ 0 ∷ 0 ∷ []) → is_within (x ∷ y ∷ z ∷ []) (0 ∷ 0 ∷ 0 ∷ []) ≡ false
not_within_zero x y z other = false_from_ne_true _ (λ e.
    let red : x ≡ 0 = grind (arith, nat_tests) in
    let green : y ≡ 0 = grind (arith, nat_tests) in
    let blue : z ≡ 0 = grind (arith, nat_tests) in
    other (rw (red, green, blue) refl))

-- where no entry is within a threshold of a color, none stands for it by that threshold
pub none_near_stands : (answers : ℕ → List ℕ → Type 0) (entries : List (List ℕ)) (color threshold : List ℕ)
    → ((k : ℕ) → k < length entries → is_within (difference_to entries color k) threshold ≡ false) → answers (length entries) threshold
    → StandsFor answers entries color None
none_near_stands answers [] color threshold far asked = tt
none_near_stands answers (entry ∷ entries) color threshold far asked =
    let h : HasBest (entry ∷ entries) color (length (entry ∷ entries)) = has_best (entry ∷ entries) color (length entries) (length (entry ∷ entries)) (omega arith) in
    let match : IsMatch (entry ∷ entries) color h.at = best_match (entry ∷ entries) color (length (entry ∷ entries)) h.at h.least refl h.best in
    (h.at, record { match = match; within = inr (threshold, asked, far h.at h.best.below) })

-- where each entry differs from a color, none stands for it by a threshold of 0
pub none_stands : (answers : ℕ → List ℕ → Type 0) (entries : List (List ℕ)) (color : List ℕ)
    → ((k : ℕ) → k < length entries → difference_to entries color k ≢ 0 ∷ 0 ∷ 0 ∷ []) → answers (length entries) (0 ∷ 0 ∷ 0 ∷ [])
    → StandsFor answers entries color None
none_stands answers entries color other zeros =
    none_near_stands answers entries color (0 ∷ 0 ∷ 0 ∷ []) (λ k below. not_within_zero _ _ _ (other k below)) zeros
