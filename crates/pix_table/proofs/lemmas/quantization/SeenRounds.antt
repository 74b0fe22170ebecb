-- The seen colors of each entry, their sums, and the round that they make.
use Rattle.std.proofs.Common.{◌≡◌, ◌≢◌, ℕ, ◌+◌, ◌<◌, ◌≤◌, true, List, [], length, map, set, get_or, nat_eq, filter, All, refl, arith, sym, ap, ◌∙◌, subst, inl, inr, length-set}
use Rattle.std.proofs.lemmas.Bool.{cases_lt, and_parts, eqb-true}
use Rattle.std.proofs.lemmas.List.{get_or-map, get_or-set_other, length-map, map-set}
use Rattle.std.proofs.lemmas.Grind.{get_or-set_at}
use Rattle.std.proofs.lemmas.List.Elements.{All-set}
use Rattle.pix_table.specs.matching.Nearest.{IsNearestBy}
use Rattle.pix_table.specs.quantization.Quantization.{same_color}
use Rattle.pix_table.specs.quantization.Refine.{IsRoundBy}
use Rattle.pix_table.specs.SeenPixels.{AreSeen, seen_distance, seen_numbers}
use Rattle.pix_table.specs.quantization.SeenGroups.{AreSeenGrouped}
use Rattle.pix_table.specs.quantization.SeenTables.{same_seen}
use Rattle.pix_table.specs.declared.rgba.color.SeenColor.{SeenColor}
use Rattle.pix_table.proofs.lemmas.quantization.Rounds.{groups_are, nearest_at, part, part_of, parts}
use Rattle.pix_table.proofs.lemmas.quantization.SeenParts.{part_at}

-- the group of an entry is some of the colors
pub group_of : {S : Type 0} (are : List (List ℕ) → S → Type 0) (entries box : List (List ℕ)) (sums : List S) (d : S) (v : ℕ) → v < length entries
    → AreSeenGrouped are entries box sums → (group : List (List ℕ)) × are group (get_or sums v d)
group_of are entries box sums d v inside h =
    let s = part_at (λ p s. are (filter p box) s) entries sums d v inside h in
    (filter s.0 box, s.1)

-- the first i entries have settled by their sums, and the others stand
pub record AreSettled {S : Type 0} (are : List (List ℕ) → S → Type 0) (settle : List ℕ → List (List ℕ) → List ℕ) (old new : List (List ℕ)) (sums : List S)
    (d : S) (i : ℕ) : Type 0 where
  pub many : length new ≡ length old
  pub settled : (k : ℕ) → k < i → (group : List (List ℕ)) → are group (get_or sums k d) → get_or new k [] ≡ settle (get_or old k []) group
  pub stand : (k : ℕ) → i ≤ k → get_or new k [] ≡ get_or old k []
  pub seen : All AreSeen new

pub none_settled : {S : Type 0} (are : List (List ℕ) → S → Type 0) (settle : List ℕ → List (List ℕ) → List ℕ) (old : List (List ℕ)) (sums : List S) (d : S)
    → All AreSeen old → AreSettled are settle old old sums d 0
none_settled are settle old sums d seen = record { many = refl; settled = λ k b. absurd (omega arith); stand = λ k b. refl; seen = seen }

-- one more settles
pub one_settles : {S : Type 0} (are : List (List ℕ) → S → Type 0) (settle : List ℕ → List (List ℕ) → List ℕ) (old : List (List ℕ)) (es : List SeenColor)
    (sums : List S) (d : S) (i : ℕ) (x z : SeenColor) → i < length es → AreSeen (seen_numbers x)
    → ((group : List (List ℕ)) → are group (get_or sums i d) → seen_numbers x ≡ settle (seen_numbers (get_or es i z)) group)
    → AreSettled are settle old (map seen_numbers es) sums d i → AreSettled are settle old (map seen_numbers (set es i x)) sums d (i + 1)
one_settles are settle old es sums d i x z inside seen e h =
    let written : map seen_numbers (set es i x) ≡ set (map seen_numbers es) i (seen_numbers x) = map-set seen_numbers es i x in
    let entry : seen_numbers (get_or es i z) ≡ get_or old i [] =
    sym (get_or-map seen_numbers es i z [] inside) ∙ h.stand i (omega arith) in
    let there : (k : ℕ) → k ≢ i → get_or (map seen_numbers (set es i x)) k [] ≡ get_or (map seen_numbers es) k [] =
    (λ k apart. ap (λ l. get_or l k []) written ∙ get_or-set_other (map seen_numbers es) i k (seen_numbers x) [] apart) in
    record {
      many = ap length written ∙ length-set (map seen_numbers es) i (seen_numbers x) ∙ h.many;
      settled = λ k b group sums_are. elim (cases_lt k i) [
        | inl l ↦ (let apart : k ≢ i = (λ q. omega arith) in there k apart ∙ h.settled k l group sums_are)
        | inr l ↦
            let same : k ≡ i = omega arith in
            ap (λ l. get_or l k []) written ∙ get_or-set_at (map seen_numbers es) i k (seen_numbers x) [] same (omega (arith, length-map es seen_numbers))
            ∙ e group (subst (λ j. are group (get_or sums j d)) same sums_are)
            ∙ ap (λ c. settle c group) (entry ∙ ap (λ j. get_or old j []) (sym same))
      ];
      stand = λ k b. (let apart : k ≢ i = (λ q. omega arith) in there k apart ∙ h.stand k (omega arith));
      seen = subst (All AreSeen) (sym written) (All-set AreSeen (map seen_numbers es) i (seen_numbers x) seen h.seen);
    }

-- colors that are the same have the same numbers
pub same_numbers : (p q : SeenColor) → same_seen (seen_numbers p) (seen_numbers q) ≡ true → seen_numbers p ≡ seen_numbers q
same_numbers p q e =
    let all = and_parts (same_color (seen_numbers p) (seen_numbers q)) (nat_eq p.alpha q.alpha) e in
    let outer = and_parts _ (nat_eq p.blue q.blue) all.0 in
    let inner = and_parts (nat_eq p.red q.red) (nat_eq p.green q.green) outer.0 in
    rw (eqb-true p.red q.red inner.0, eqb-true p.green q.green inner.1, eqb-true p.blue q.blue outer.1, eqb-true p.alpha q.alpha all.1) refl

-- the round
pub round_made : {S : Type 0} (are : List (List ℕ) → S → Type 0) (settle : List ℕ → List (List ℕ) → List ℕ) (old colors new : List (List ℕ)) (i : ℕ)
    (sums : List S) (d : S) → 0 < length old → length old ≤ i → AreSeenGrouped are old colors sums → AreSettled are settle old new sums d i
    → IsRoundBy seen_distance settle colors old new
round_made are settle old colors new i sums d some all grouped h =
    let at : List ℕ → ℕ = (λ c. (nearest_at seen_distance old some c).0) in
    let nearest : (c : List ℕ) → IsNearestBy seen_distance old c (at c) = (λ c. (nearest_at seen_distance old some c).1) in
    record {
      groups = parts at (length old) colors;
      are = groups_are seen_distance old colors at nearest;
      many = h.many;
      each = λ k inside.
          h.settled k (omega (arith, inside, all)) (part at k colors) (grouped.parts at nearest k d inside)
          ∙ ap (settle (get_or old k [])) (sym (part_of at (length old) k colors inside));
    }

-- a round in which no entry moves, whatever its colors are
pub round_stays : (settle : List ℕ → List (List ℕ) → List ℕ) (old colors : List (List ℕ)) → 0 < length old
    → ((group : List (List ℕ)) → All (λ entry. settle entry group ≡ entry) old) → IsRoundBy seen_distance settle colors old old
round_stays settle old colors some stays =
    let at : List ℕ → ℕ = (λ c. (nearest_at seen_distance old some c).0) in
    let nearest : (c : List ℕ) → IsNearestBy seen_distance old c (at c) = (λ c. (nearest_at seen_distance old some c).1) in
    record {
      groups = parts at (length old) colors;
      are = groups_are seen_distance old colors at nearest;
      many = refl;
      each = λ k inside. sym (stays (get_or (parts at (length old) colors) k []) k [] inside);
    }

-- one of some seen colors
pub seen_at : (xs : List SeenColor) (i : ℕ) (z : SeenColor) → i < length xs → All AreSeen (map seen_numbers xs) → AreSeen (seen_numbers (get_or xs i z))
seen_at xs i z inside all = subst AreSeen (get_or-map seen_numbers xs i z [] inside) (all i [] (omega (arith, inside, length-map xs seen_numbers)))
