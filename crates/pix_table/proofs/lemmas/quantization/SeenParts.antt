-- What holds of the seen colors of each entry, with one color more, whatever is summed of them.
use Rattle.std.proofs.Common.{◌≡◌, ℕ, ◌+◌, ◌*◌, ◌<◌, Bool, true, false, List, length, set, replicate, get_or, nat_eq, refl, arith, sym, ap, ◌∙◌, subst, inl, inr, eq-eqb, ne_eqb, length-set}
use Rattle.std.proofs.lemmas.Bool.{cases_eq}
use Rattle.std.proofs.lemmas.List.{get_or-set_same, get_or-set_other, get_or-replicate, length-replicate}
use Rattle.pix_table.specs.matching.Nearest.{IsNearestBy}
use Rattle.pix_table.specs.quantization.Items.{item_color, item_count, item_sum}
use Rattle.pix_table.specs.SeenPixels.{seen_distance}
use Rattle.pix_table.specs.quantization.SeenGroups.{AreSeenParts}
use Rattle.pix_table.proofs.lemmas.quantization.ItemSums.{item_next}
use Rattle.pix_table.proofs.lemmas.quantization.Rounds.{nearest_at, nearest_is_one}

-- of no colors
pub parts_none : {S : Type 0} (holds : (List ℕ → Bool) → S → Type 0) (entries : List (List ℕ)) (n : ℕ) (none : S) → n ≡ length entries
    → ((p : List ℕ → Bool) → holds p none) → AreSeenParts holds entries (replicate n none)
parts_none holds entries n none e each = record {
  many = length-replicate n none ∙ e;
  parts = λ at nearest k d inside.
      subst (holds (λ c. nat_eq (at c) k)) (sym (get_or-replicate n k none d (omega (arith, e, inside)))) (each (λ c. nat_eq (at c) k));
}

-- of a color more, whose nearest entry it is
pub parts_more : {S : Type 0} (before after : (List ℕ → Bool) → S → Type 0) (entries : List (List ℕ)) (x : List ℕ) (v : ℕ) (sums : List S) (old new : S)
    → IsNearestBy seen_distance entries x v → old ≡ get_or sums v old → ((p : List ℕ → Bool) → p x ≡ true → before p old → after p new)
    → ((p : List ℕ → Bool) (s : S) → p x ≡ false → before p s → after p s) → AreSeenParts before entries sums → AreSeenParts after entries (set sums v new)
parts_more before after entries x v sums old new near read with_it without h = record {
  many = length-set sums v new ∙ h.many;
  parts = λ at nearest j d inside.
      let place : v ≡ at x = nearest_is_one seen_distance entries x v (at x) near (nearest x) in
      elim (cases_eq j v) [
        | inl e ↦
            let passes : nat_eq (at x) j ≡ true = eq-eqb (at x) j (omega (arith, place, e)) in
            let here : get_or (set sums v new) v d ≡ new = get_or-set_same sums v new d (omega (arith, h.many, near.stands)) in
            let was : before (λ c. nat_eq (at c) j) old =
            subst (λ i. before (λ c. nat_eq (at c) i) old) (sym e)
            (subst (before (λ c. nat_eq (at c) v)) (sym read) (h.parts at nearest v old near.stands)) in
            subst (after (λ c. nat_eq (at c) j)) (sym (ap (λ i. get_or (set sums v new) i d) e ∙ here)) (with_it (λ c. nat_eq (at c) j) passes was)
        | inr apart ↦
            let fails : nat_eq (at x) j ≡ false = ne_eqb (at x) j (λ e. apart (omega (arith, place, e))) in
            subst (after (λ c. nat_eq (at c) j)) (sym (get_or-set_other sums v j new d apart))
            (without (λ c. nat_eq (at c) j) (get_or sums j d) fails (h.parts at nearest j d inside))
      ];
}

-- what follows from it for the colors of each entry
pub parts_then : {S : Type 0} (before after : (List ℕ → Bool) → S → Type 0) (entries : List (List ℕ)) (sums : List S)
    → ((p : List ℕ → Bool) (s : S) → before p s → after p s) → AreSeenParts before entries sums → AreSeenParts after entries sums
parts_then before after entries sums each h = record {
  many = h.many;
  parts = λ at nearest k d inside. each (λ c. nat_eq (at c) k) (get_or sums k d) (h.parts at nearest k d inside);
}

-- it holds of the sums of some entry
pub part_at : {S : Type 0} (holds : (List ℕ → Bool) → S → Type 0) (entries : List (List ℕ)) (sums : List S) (d : S) (v : ℕ) → v < length entries
    → AreSeenParts holds entries sums → (p : List ℕ → Bool) × holds p (get_or sums v d)
part_at holds entries sums d v inside h =
    let at : List ℕ → ℕ = (λ c. (nearest_at seen_distance entries (omega arith) c).0) in
    let nearest : (c : List ℕ) → IsNearestBy seen_distance entries c (at c) = (λ c. (nearest_at seen_distance entries (omega arith) c).1) in
    (λ c. nat_eq (at c) v, h.parts at nearest v d inside)

-- an item that doesn't count leaves the sums as they are
pub not_counted : (f : List ℕ → ℕ) (items : List (List ℕ)) (pairs k : ℕ) → item_count items pairs k ≡ 0
    → item_sum f items pairs k ≡ item_sum f items pairs (k + 1)
not_counted f items pairs k none =
    let more : item_sum f items pairs (k + 1) ≡ item_sum f items pairs k + 0 * f (item_color items pairs k) =
    item_next f items pairs k 0 (item_color items pairs k) none refl in
    omega (arith, more)
