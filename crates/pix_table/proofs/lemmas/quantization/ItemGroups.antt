-- The sums of the items of each entry, with one item more.
use Rattle.std.proofs.Common.{◌≡◌, ℕ, ◌+◌, ◌*◌, ◌<◌, ◌≤◌, Bool, true, false, cond, List, length, set, replicate, get_or, nat_eq, refl, arith, sym, ap, ◌∙◌, subst, inl, inr, eq-eqb, ne_eqb}
use Rattle.std.proofs.lemmas.Bool.{cases_eq}
use Rattle.std.proofs.lemmas.List.{get_or-set_same, get_or-set_other, get_or-replicate}
use Rattle.std.proofs.lemmas.Nat.{mul-le}
use Rattle.pix_table.specs.matching.Nearest.{distance, IsNearest, numbers}
use Rattle.pix_table.specs.quantization.BestPlaces.{AreBytes}
use Rattle.pix_table.specs.quantization.Groups.{AreItemGroups, AreItemSums, AreOfBytes}
use Rattle.pix_table.specs.quantization.Items.{item_color, item_count, item_sum}
use Rattle.pix_table.specs.declared.quantization.box_sums.Sums.{Sums}
use Rattle.pix_table.specs.declared.color.Color.{Color}
use Rattle.pix_table.proofs.lemmas.quantization.ItemSums.{item_next, item_sum_grows, item_sum_le}
use Rattle.pix_table.proofs.lemmas.quantization.Rounds.{nearest_at, nearest_is_one}

-- the sums of no items
pub grouped_none : (entries items : List (List ℕ)) (pairs n : ℕ) (none : Sums) → n ≡ length entries → none.count ≡ 0 → none.red ≡ 0 → none.green ≡ 0
    → none.blue ≡ 0 → AreItemGroups entries items pairs 0 (replicate n none)
grouped_none entries items pairs n none e count red green blue = record {
  bytes = λ k d inside. subst AreOfBytes (sym (get_or-replicate n k none d (omega (arith, e, inside))))
      (record { red = omega (arith, red); green = omega (arith, green); blue = omega (arith, blue) });
  parts = λ at nearest k d inside. subst (AreItemSums (λ c. nat_eq (at c) k) items pairs 0) (sym (get_or-replicate n k none d (omega (arith, e, inside))))
      (record { count = count; red = red; green = green; blue = blue });
}

-- one item more, whose color passes a test or doesn't
module _ (items : List (List ℕ)) (pairs k n : ℕ) (x : List ℕ) (often : item_count items pairs k ≡ n) (is : item_color items pairs k ≡ x)
    (p : List ℕ → Bool) where
  pub passed : (f : List ℕ → ℕ) → p x ≡ true
      → item_sum (λ c. cond (p c) (f c) 0) items pairs (k + 1) ≡ item_sum (λ c. cond (p c) (f c) 0) items pairs k + n * f x
  passed f e =
      item_next (λ c. cond (p c) (f c) 0) items pairs k n x often is
      ∙ ap (λ b. item_sum (λ c. cond (p c) (f c) 0) items pairs k + n * cond b (f x) 0) e

  pub left_out : (f : List ℕ → ℕ) → p x ≡ false
      → item_sum (λ c. cond (p c) (f c) 0) items pairs k ≡ item_sum (λ c. cond (p c) (f c) 0) items pairs (k + 1)
  left_out f e =
      let more : item_sum (λ c. cond (p c) (f c) 0) items pairs (k + 1) ≡ item_sum (λ c. cond (p c) (f c) 0) items pairs k + n * 0 =
      item_next (λ c. cond (p c) (f c) 0) items pairs k n x often is
      ∙ ap (λ b. item_sum (λ c. cond (p c) (f c) 0) items pairs k + n * cond b (f x) 0) e in
      omega (arith, more)

module _ (items : List (List ℕ)) (pairs k n : ℕ) (c : Color) (often : item_count items pairs k ≡ n) (is : item_color items pairs k ≡ numbers c)
    (p : List ℕ → Bool) where
  sums_with : (old new : Sums) → p (numbers c) ≡ true → AreItemSums p items pairs k old → new.count ≡ old.count + n → new.red ≡ old.red + n * c.red
      → new.green ≡ old.green + n * c.green → new.blue ≡ old.blue + n * c.blue → AreItemSums p items pairs (k + 1) new
  sums_with old new e h count red green blue =
      let more = passed items pairs k n (numbers c) often is p in record {
        count = omega (arith, count, h.count, passed items pairs k n (numbers c) often is p (λ x. 1) e);
        red = red ∙ ap (λ m. m + n * c.red) h.red ∙ sym (more (λ x. get_or x 0 0) e);
        green = green ∙ ap (λ m. m + n * c.green) h.green ∙ sym (more (λ x. get_or x 1 0) e);
        blue = blue ∙ ap (λ m. m + n * c.blue) h.blue ∙ sym (more (λ x. get_or x 2 0) e);
      }

  sums_without : (sums : Sums) → p (numbers c) ≡ false → AreItemSums p items pairs k sums → AreItemSums p items pairs (k + 1) sums
  sums_without sums e h =
      let same = left_out items pairs k n (numbers c) often is p in record {
        count = h.count ∙ same (λ x. 1) e;
        red = h.red ∙ same (λ x. get_or x 0 0) e;
        green = h.green ∙ same (λ x. get_or x 1 0) e;
        blue = h.blue ∙ same (λ x. get_or x 2 0) e;
      }

-- sums of bytes, with those of a color that stands so often
bytes_more : (n : ℕ) (c : Color) (old new : Sums) → AreBytes (numbers c) → AreOfBytes old → new.count ≡ old.count + n → new.red ≡ old.red + n * c.red
    → new.green ≡ old.green + n * c.green → new.blue ≡ old.blue + n * c.blue → AreOfBytes new
bytes_more n c old new bytes h count red green blue = record {
  red = omega (arith, count, red, h.red, mul-le n c.red n 255 (omega arith) (bytes 0));
  green = omega (arith, count, green, h.green, mul-le n c.green n 255 (omega arith) (bytes 1));
  blue = omega (arith, count, blue, h.blue, mul-le n c.blue n 255 (omega arith) (bytes 2));
}

-- the sums of each entry, with one item more
pub grouped_more : (entries items : List (List ℕ)) (pairs k n v : ℕ) (sums : List Sums) (c : Color) (old new : Sums) → item_count items pairs k ≡ n
    → item_color items pairs k ≡ numbers c → AreBytes (numbers c) → IsNearest entries (numbers c) v → length sums ≡ length entries
    → old ≡ get_or sums v old → new.count ≡ old.count + n → new.red ≡ old.red + n * c.red → new.green ≡ old.green + n * c.green
    → new.blue ≡ old.blue + n * c.blue → AreItemGroups entries items pairs k sums → AreItemGroups entries items pairs (k + 1) (set sums v new)
grouped_more entries items pairs k n v sums c old new often is bytes near many read count red green blue h =
    let here : (d : Sums) → get_or (set sums v new) v d ≡ new = (λ d. get_or-set_same sums v new d (omega (arith, many, near.stands))) in
    record {
      bytes = λ j d inside. elim (cases_eq j v) [
        | inl e ↦
            let was : AreOfBytes old = subst AreOfBytes (sym read) (h.bytes v old near.stands) in
            subst AreOfBytes (sym (ap (λ i. get_or (set sums v new) i d) e ∙ here d)) (bytes_more n c old new bytes was count red green blue)
        | inr apart ↦ subst AreOfBytes (sym (get_or-set_other sums v j new d apart)) (h.bytes j d inside)
      ];
      parts = λ at nearest j d inside.
          let place : v ≡ at (numbers c) = nearest_is_one distance entries (numbers c) v (at (numbers c)) near (nearest (numbers c)) in
          elim (cases_eq j v) [
            | inl e ↦
                let passes : nat_eq (at (numbers c)) j ≡ true = eq-eqb (at (numbers c)) j (omega (arith, place, e)) in
                let was : AreItemSums (λ x. nat_eq (at x) j) items pairs k old =
                subst (λ i. AreItemSums (λ x. nat_eq (at x) i) items pairs k old) (sym e)
                (subst (AreItemSums (λ x. nat_eq (at x) v) items pairs k) (sym read) (h.parts at nearest v old near.stands)) in
                subst (AreItemSums (λ x. nat_eq (at x) j) items pairs (k + 1)) (sym (ap (λ i. get_or (set sums v new) i d) e ∙ here d))
                (sums_with items pairs k n c often is (λ x. nat_eq (at x) j) old new passes was count red green blue)
            | inr apart ↦
                let fails : nat_eq (at (numbers c)) j ≡ false = ne_eqb (at (numbers c)) j (λ e. apart (omega (arith, place, e))) in
                subst (AreItemSums (λ x. nat_eq (at x) j) items pairs (k + 1)) (sym (get_or-set_other sums v j new d apart))
                (sums_without items pairs k n c often is (λ x. nat_eq (at x) j) (get_or sums j d) fails (h.parts at nearest j d inside))
          ];
    }

at_most_one : (b : Bool) → cond b 1 0 ≤ 1
at_most_one true = omega arith
at_most_one false = omega arith

-- there is room for the count of an item, where the counts of all items are below a number
pub room_for : (q : List ℕ → Bool) (items : List (List ℕ)) (pairs k all n most count : ℕ) → k < all → item_count items pairs k ≡ n
    → item_sum (λ c. 1) items pairs all < most → count ≡ item_sum (λ c. cond (q c) 1 0) items pairs k → count + n < most
room_for q items pairs k all n most count more often few e =
    let own : item_sum (λ c. cond (q c) 1 0) items pairs k ≤ item_sum (λ c. 1) items pairs k =
    item_sum_le (λ c. cond (q c) 1 0) (λ c. 1) items pairs k (λ c. at_most_one (q c)) in
    omega (
      arith,
      e,
      own,
      item_next (λ c. 1) items pairs k n (item_color items pairs k) often refl,
      item_sum_grows (λ c. 1) items pairs (k + 1) all (omega arith),
      few,
    )

-- the count of an entry is below a number, where the counts of all items are
pub count_below : (entries items : List (List ℕ)) (pairs n all k most : ℕ) (sums : List Sums) (d : Sums) → k < length entries → n ≤ all
    → item_sum (λ c. 1) items pairs all < most → AreItemGroups entries items pairs n sums → (get_or sums k d).count < most
count_below entries items pairs n all k most sums d inside more few h =
    let at : List ℕ → ℕ = (λ c. (nearest_at distance entries (omega (arith, inside)) c).0) in
    let nearest : (c : List ℕ) → IsNearest entries c (at c) = (λ c. (nearest_at distance entries (omega (arith, inside)) c).1) in
    let own : item_sum (λ c. cond (nat_eq (at c) k) 1 0) items pairs n ≤ item_sum (λ c. 1) items pairs n =
    item_sum_le (λ c. cond (nat_eq (at c) k) 1 0) (λ c. 1) items pairs n (λ c. at_most_one (nat_eq (at c) k)) in
    omega (arith, (h.parts at nearest k d inside).count, own, item_sum_grows (λ c. 1) items pairs n all more, few)
