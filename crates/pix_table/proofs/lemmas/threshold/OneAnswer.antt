-- What setting a color answers is determined, where the threshold is constant; so pixels are not
-- both indexed and stopped at.
use Rattle.std.specs.Prelude.{nat_lt, if◌then◌else◌, IfSome}
use Rattle.std.proofs.Common.{◌≡◌, ℕ, ◌<◌, ◌≤◌, Bool, true, false, List, [], ◌∷◌, ◌++◌, length, map, refl, arith, sym, ap, ◌∙◌, subst, inl, inr, Some, None, Option}
use Rattle.std.proofs.lemmas.Bool.{cases_order, true≢false}
use Rattle.std.proofs.lemmas.List.{length-map, map-append}
use Rattle.pix_table.specs.threshold.PaletteMatch.{difference_to, is_within, IsNext, AreCandidates, IsMatch}
use Rattle.pix_table.specs.threshold.Setting.{Fits, Matches, StandsFor, IsSet, Always, set_answer, set_colors}
use Rattle.pix_table.specs.threshold.Indexing.{IsSetUpTo, AreSet, IsStopped}
use Rattle.pix_table.proofs.lemmas.threshold.Settings.{zero_within}

-- there is one next candidate
next_unique : (d : ℕ → List ℕ) (n i j k : ℕ) → IsNext d n i j → IsNext d n i k → j ≡ k
next_unique d n i j k h g = elim (cases_order j k) [
  | inl e ↦ e
  | inr o ↦ elim o [
    | inl b ↦ absurd (true≢false (sym h.closer ∙ g.first j h.later b))
    | inr b ↦ absurd (true≢false (sym g.closer ∙ h.first k g.later b))
  ]
]

-- and one last
candidates_unique : (d : ℕ → List ℕ) (n i : ℕ) (cs ks : List ℕ) (m l : ℕ) → AreCandidates d n i cs m → AreCandidates d n i ks l → m ≡ l
candidates_unique d n i [] [] m l h g = h.0 ∙ sym g.0
candidates_unique d n i [] (k ∷ ks) m l h g = absurd (true≢false (sym g.0.closer ∙ h.1 k g.0.later g.0.stands))
candidates_unique d n i (j ∷ cs) [] m l h g = absurd (true≢false (sym h.0.closer ∙ g.1 j h.0.later h.0.stands))
candidates_unique d n i (j ∷ cs) (k ∷ ks) m l h g =
    let e : j ≡ k = next_unique d n i j k h.0 g.0 in
    candidates_unique d n k cs ks m l (subst (λ x. AreCandidates d n x cs m) e h.1) g.1

match_unique : (entries : List (List ℕ)) (color : List ℕ) (m l : ℕ) → IsMatch entries color m → IsMatch entries color l → m ≡ l
match_unique entries color m l h g = candidates_unique (difference_to entries color) (length entries) 0 h.candidates g.candidates m l h.last g.last

-- whether a difference fits a constant threshold
fits_is : (t : List ℕ) (n : ℕ) (d : List ℕ) (f : Bool) → Fits (Always t) n d f → is_within d t ≡ f
fits_is t n d f (inl both) = ap (λ p. is_within p t) both.0 ∙ zero_within t ∙ sym both.1
fits_is t n d f (inr asked) = ap (is_within d) (sym asked.1) ∙ asked.2

not_both_fit : (t : List ℕ) (entries : List (List ℕ)) (color : List ℕ) (m l : ℕ) → Matches (Always t) entries color m true → Matches (Always t) entries color l false
    → true ≡ false
not_both_fit t entries color m l h g =
    let e : l ≡ m = match_unique entries color l m g.match h.match in
    sym (fits_is t (length entries) (difference_to entries color m) true h.within)
    ∙ ap (λ k. is_within (difference_to entries color k) t) (sym e) ∙ fits_is t (length entries) (difference_to entries color l) false g.within

-- one entry stands for a color, or none
stands_unique : (t : List ℕ) (entries : List (List ℕ)) (color : List ℕ) (a b : Option ℕ) → StandsFor (Always t) entries color a
    → StandsFor (Always t) entries color b → a ≡ b
stands_unique t entries color (Some m) (Some l) h g = ap Some (match_unique entries color m l h.match g.match)
stands_unique t [] color (Some m) None h g = absurd (let s : 0 < 0 = h.match.some in omega arith)
stands_unique t [] color None (Some l) h g = absurd (let s : 0 < 0 = g.match.some in omega arith)
stands_unique t [] color None None h g = refl
stands_unique t (e ∷ entries) color (Some m) None h g = absurd (true≢false (not_both_fit t (e ∷ entries) color m g.0 h g.1))
stands_unique t (e ∷ entries) color None (Some l) h g = absurd (true≢false (not_both_fit t (e ∷ entries) color l h.0 g h.1))
stands_unique t (e ∷ entries) color None None h g = refl

-- so setting it has one answer, and the colors afterwards have the same numbers
answer_by : {C : Type 0} (limit : ℕ) (old new : List C) (standing : Option ℕ) → length old ≡ length new → set_answer limit old standing ≡ set_answer limit new standing
answer_by limit old new (Some m) e = refl
answer_by limit old new None e = ap (λ n. if nat_lt n limit then Some n else None) e

more_by : {C : Type 0} (read : C → List ℕ) (room : Bool) (old new : List C) (p q : C) → map read old ≡ map read new → read p ≡ read q
    → map read (if room then old ++ p ∷ [] else old) ≡ map read (if room then new ++ q ∷ [] else new)
more_by read true old new p q e f =
    map-append read old (p ∷ []) ∙ ap (λ l. l ++ read p ∷ []) e ∙ ap (λ c. map read new ++ c ∷ []) f ∙ sym (map-append read new (q ∷ []))
more_by read false old new p q e f = e

colors_by : {C : Type 0} (read : C → List ℕ) (limit : ℕ) (old new : List C) (p q : C) (standing : Option ℕ) → map read old ≡ map read new → read p ≡ read q
    → length old ≡ length new → map read (set_colors limit old p standing) ≡ map read (set_colors limit new q standing)
colors_by read limit old new p q (Some m) e f l = e
colors_by read limit old new p q None e f l =
    more_by read (nat_lt (length old) limit) old new p q e f
    ∙ ap (λ n. map read (if nat_lt n limit then new ++ q ∷ [] else new)) l

same_length : {C : Type 0} (read : C → List ℕ) (old new : List C) → map read old ≡ map read new → length old ≡ length new
same_length read old new e = sym (length-map old read) ∙ ap length e ∙ length-map new read

pub set_unique : {C : Type 0} (read : C → List ℕ) (t : List ℕ) (limit : ℕ) (old old' : List C) (p q : C) (a b : Option ℕ) (new new' : List C)
    → map read old ≡ map read old' → read p ≡ read q → IsSet read (Always t) limit old p a new → IsSet read (Always t) limit old' q b new'
    → (a ≡ b) × (map read new ≡ map read new')
set_unique read t limit old old' p q a b new new' e f h g =
    let long : length old ≡ length old' = same_length read old old' e in
    let found : StandsFor (Always t) (map read old') (read q) h.standing =
    subst (λ c. StandsFor (Always t) (map read old') c h.standing) f (subst (λ l. StandsFor (Always t) l (read p) h.standing) e h.found) in
    let one : h.standing ≡ g.standing = stands_unique t (map read old') (read q) h.standing g.standing found g.found in (
      h.same_answer ∙ answer_by limit old old' h.standing long ∙ ap (set_answer limit old') one ∙ sym g.same_answer,
      ap (map read) h.same_colors ∙ colors_by read limit old old' p q h.standing e f long
          ∙ ap (λ s. map read (set_colors limit old' q s)) one ∙ sym (ap (map read) g.same_colors),
    )

-- pixels that are all set are not stopped at
above_none : (greatest i : ℕ) (answer : Option ℕ) → answer ≡ Some i → IfSome answer (λ k. greatest < k) → i ≤ greatest → ⊥
above_none greatest i answer e h less = let s : greatest < i = subst (λ a. IfSome a (λ k. greatest < k)) e h in absurd (omega arith)

not_stopped_at : {C : Type 0} (read : C → List ℕ) (t : List ℕ) (limit greatest : ℕ) (old old' : List C) (before : List (List ℕ)) (pixel : List ℕ) (after : List (List ℕ))
    (is ks : List ℕ) (new between rest : List C) → map read old ≡ map read old'
    → AreSet read (IsSet read (Always t) limit) greatest old (before ++ pixel ∷ after) is new
    → AreSet read (IsSet read (Always t) limit) greatest old' before ks between
    → IsSetUpTo read (IsSet read (Always t) limit) greatest between pixel None rest → ⊥
not_stopped_at read t limit greatest old old' [] pixel after [] ks new between rest e h g last = absurd h
not_stopped_at read t limit greatest old old' [] pixel after (i ∷ is) [] new between rest e h g last =
    let same : map read old ≡ map read between = e ∙ ap (map read) (sym g) in
    let both = set_unique read t limit old between h.1.0 last.0 (Some i) last.1 h.0 rest same (h.1.1 ∙ sym last.2) h.1.2 last.3 in
    above_none greatest i last.1 (sym both.0) last.4 h.1.3
not_stopped_at read t limit greatest old old' [] pixel after (i ∷ is) (k ∷ ks) new between rest e h g last = absurd g
not_stopped_at read t limit greatest old old' (p ∷ before) pixel after [] ks new between rest e h g last = absurd h
not_stopped_at read t limit greatest old old' (p ∷ before) pixel after (i ∷ is) [] new between rest e h g last = absurd g
not_stopped_at read t limit greatest old old' (p ∷ before) pixel after (i ∷ is) (k ∷ ks) new between rest e h g last =
    let both = set_unique read t limit old old' h.1.0 g.1.0 (Some i) (Some k) h.0 g.0 e (h.1.1 ∙ sym g.1.1) h.1.2 g.1.2 in
    not_stopped_at read t limit greatest h.0 g.0 before pixel after is ks new between rest both.1 h.2 g.2 last

pub not_stopped : {C : Type 0} (read : C → List ℕ) (t : List ℕ) (limit greatest : ℕ) (old : List C) (pixels : List (List ℕ)) (is : List ℕ) (new rest : List C)
    → AreSet read (IsSet read (Always t) limit) greatest old pixels is new → IsStopped read (IsSet read (Always t) limit) greatest old pixels rest → ⊥
not_stopped read t limit greatest old pixels is new rest h s =
    not_stopped_at read t limit greatest old old s.before s.pixel s.after is s.indices new s.between rest refl
    (subst (λ l. AreSet read (IsSet read (Always t) limit) greatest old l is new) s.parts h) s.set_before s.last
