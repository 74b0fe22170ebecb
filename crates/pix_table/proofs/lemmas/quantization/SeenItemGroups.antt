-- The sums of the seen colors of the items of each entry, with one item more.
use Rattle.std.proofs.Common.{◌≡◌, ℕ, ◌+◌, ◌-◌, ◌*◌, ◌<◌, ◌≤◌, Bool, true, false, cond, List, [], ◌∷◌, filter, length, set, replicate, get_or, sum_by, All, refl, arith, sym, ap, ◌∙◌}
use Rattle.std.proofs.lemmas.List.Elements.{All-filter, All-head, All-tail}
use Rattle.std.proofs.lemmas.List.Sums.{length-filter, sum_by-cons}
use Rattle.std.proofs.lemmas.Nat.{mul-le}
use Rattle.pix_table.specs.matching.Nearest.{IsNearestBy}
use Rattle.pix_table.specs.quantization.Items.{AreItemsOf, item_color, item_count, item_sum}
use Rattle.pix_table.specs.SeenPixels.{AreSeen, seen_distance, seen_numbers}
use Rattle.pix_table.specs.quantization.SeenGroups.{AreGroupSums, AreSeenGrouped, AreSeenItemGroups, AreSeenItemSums}
use Rattle.pix_table.specs.quantization.SeenSums.{AreFew}
use Rattle.pix_table.specs.declared.rgba.color.SeenColor.{SeenColor}
use Rattle.pix_table.specs.declared.rgba.sums.SeenSums.{SeenSums}
use Rattle.pix_table.proofs.lemmas.quantization.ItemGroups.{left_out, passed, room_for}
use Rattle.pix_table.proofs.lemmas.quantization.ItemSums.{item_next, item_sum_grows}
use Rattle.pix_table.proofs.lemmas.quantization.Rounds.{sum_kept}
use Rattle.pix_table.proofs.lemmas.quantization.SeenParts.{not_counted, part_at, parts_more, parts_none, parts_then}

-- of items of seen colors one that counts has a seen color
item_zero : (f : List ℕ → ℕ) (items : List (List ℕ)) (pairs n k : ℕ) → item_sum f items pairs n ≡ 0 → k < n → 0 < item_count items pairs k
    → f (item_color items pairs k) ≡ 0
item_zero f items pairs n k none inside some =
    let least : 1 * f (item_color items pairs k) ≤ item_count items pairs k * f (item_color items pairs k) =
    mul-le 1 (f (item_color items pairs k)) (item_count items pairs k) (f (item_color items pairs k)) (omega arith) (omega arith) in
    omega (
      arith,
      least,
      none,
      item_next f items pairs k (item_count items pairs k) (item_color items pairs k) refl refl,
      item_sum_grows f items pairs (k + 1) n (omega arith),
    )

all_zero : (f : List ℕ → ℕ) → ((c : List ℕ) → AreSeen c → f c ≡ 0) → (all : List (List ℕ)) → All AreSeen all → sum_by f all ≡ 0
all_zero f each [] h = refl
all_zero f each (c ∷ all) h =
    omega (arith, sum_by-cons f c all, each c (All-head AreSeen c all h), all_zero f each all (All-tail AreSeen c all h))

pub item_seen : (all items : List (List ℕ)) (pairs singles k n : ℕ) (c : SeenColor) → AreItemsOf all items pairs singles → All AreSeen all → k < pairs + singles
    → item_count items pairs k ≡ n → 0 < n → item_color items pairs k ≡ seen_numbers c → AreSeen (seen_numbers c)
item_seen all items pairs singles k n c of_items seen inside often some is =
    let zero_at : (f : List ℕ → ℕ) → ((x : List ℕ) → AreSeen x → f x ≡ 0) → f (seen_numbers c) ≡ 0 =
    (λ f each. ap f (sym is)
    ∙ item_zero f items pairs (pairs + singles) k (sym (of_items f) ∙ all_zero f each all seen) inside (omega (arith, often, some))) in
    let red : c.red - c.alpha ≡ 0 = zero_at (λ x. get_or x 0 0 - get_or x 3 0) (λ x s. omega (arith, s.red)) in
    let green : c.green - c.alpha ≡ 0 = zero_at (λ x. get_or x 1 0 - get_or x 3 0) (λ x s. omega (arith, s.green)) in
    let blue : c.blue - c.alpha ≡ 0 = zero_at (λ x. get_or x 2 0 - get_or x 3 0) (λ x s. omega (arith, s.blue)) in
    let alpha : c.alpha - 255 ≡ 0 = zero_at (λ x. get_or x 3 0 - 255) (λ x s. omega (arith, s.alpha)) in
    record { many = refl; red = omega (arith, red); green = omega (arith, green); blue = omega (arith, blue); alpha = omega (arith, alpha) }

-- the sums of no items
pub grouped_none : (entries items : List (List ℕ)) (pairs n : ℕ) (none : SeenSums) → n ≡ length entries → none.count ≡ 0 → none.red ≡ 0 → none.green ≡ 0
    → none.blue ≡ 0 → none.alpha ≡ 0 → AreSeenItemGroups entries items pairs 0 (replicate n none)
grouped_none entries items pairs n none e count red green blue alpha =
    parts_none (λ p s. AreSeenItemSums p items pairs 0 s) entries n none e
    (λ p. record {
      few = record {
        red = omega (arith, red, alpha);
        green = omega (arith, green, alpha);
        blue = omega (arith, blue, alpha);
        alpha = omega (arith, alpha);
      };
      count = count;
      red = red;
      green = green;
      blue = blue;
      alpha = alpha;
    })

-- the sums of a seen color that stands so often, and those with them
pub times_few : (n : ℕ) (c : SeenColor) (new : SeenSums) → AreSeen (seen_numbers c) → new.count ≡ n → new.red ≡ n * c.red → new.green ≡ n * c.green
    → new.blue ≡ n * c.blue → new.alpha ≡ n * c.alpha → AreFew new
times_few n c new seen count red green blue alpha = record {
  red = omega (arith, red, alpha, mul-le n c.red n c.alpha (omega arith) seen.red);
  green = omega (arith, green, alpha, mul-le n c.green n c.alpha (omega arith) seen.green);
  blue = omega (arith, blue, alpha, mul-le n c.blue n c.alpha (omega arith) seen.blue);
  alpha = omega (arith, count, alpha, mul-le n c.alpha n 255 (omega arith) seen.alpha);
}

few_more : (n : ℕ) (c : SeenColor) (old new : SeenSums) → AreSeen (seen_numbers c) → AreFew old → new.count ≡ old.count + n → new.red ≡ old.red + n * c.red
    → new.green ≡ old.green + n * c.green → new.blue ≡ old.blue + n * c.blue → new.alpha ≡ old.alpha + n * c.alpha → AreFew new
few_more n c old new seen h count red green blue alpha = record {
  red = omega (arith, h.red, red, alpha, mul-le n c.red n c.alpha (omega arith) seen.red);
  green = omega (arith, h.green, green, alpha, mul-le n c.green n c.alpha (omega arith) seen.green);
  blue = omega (arith, h.blue, blue, alpha, mul-le n c.blue n c.alpha (omega arith) seen.blue);
  alpha = omega (arith, h.alpha, count, alpha, mul-le n c.alpha n 255 (omega arith) seen.alpha);
}

module _ (items : List (List ℕ)) (pairs k n : ℕ) (c : SeenColor) (often : item_count items pairs k ≡ n) (is : item_color items pairs k ≡ seen_numbers c)
    (p : List ℕ → Bool) where
  sums_with : (old new : SeenSums) → p (seen_numbers c) ≡ true → AreSeen (seen_numbers c) → AreSeenItemSums p items pairs k old → new.count ≡ old.count + n
      → new.red ≡ old.red + n * c.red → new.green ≡ old.green + n * c.green → new.blue ≡ old.blue + n * c.blue → new.alpha ≡ old.alpha + n * c.alpha
      → AreSeenItemSums p items pairs (k + 1) new
  sums_with old new e seen h count red green blue alpha = record {
    few = few_more n c old new seen h.few count red green blue alpha;
    count = omega (arith, count, h.count, passed items pairs k n (seen_numbers c) often is p (λ x. 1) e);
    red = red ∙ ap (λ m. m + n * c.red) h.red ∙ sym (passed items pairs k n (seen_numbers c) often is p (λ x. get_or x 0 0) e);
    green = green ∙ ap (λ m. m + n * c.green) h.green ∙ sym (passed items pairs k n (seen_numbers c) often is p (λ x. get_or x 1 0) e);
    blue = blue ∙ ap (λ m. m + n * c.blue) h.blue ∙ sym (passed items pairs k n (seen_numbers c) often is p (λ x. get_or x 2 0) e);
    alpha = alpha ∙ ap (λ m. m + n * c.alpha) h.alpha ∙ sym (passed items pairs k n (seen_numbers c) often is p (λ x. get_or x 3 0) e);
  }

  sums_without : (sums : SeenSums) → p (seen_numbers c) ≡ false → AreSeenItemSums p items pairs k sums → AreSeenItemSums p items pairs (k + 1) sums
  sums_without sums e h = record {
    few = h.few;
    count = h.count ∙ left_out items pairs k n (seen_numbers c) often is p (λ x. 1) e;
    red = h.red ∙ left_out items pairs k n (seen_numbers c) often is p (λ x. get_or x 0 0) e;
    green = h.green ∙ left_out items pairs k n (seen_numbers c) often is p (λ x. get_or x 1 0) e;
    blue = h.blue ∙ left_out items pairs k n (seen_numbers c) often is p (λ x. get_or x 2 0) e;
    alpha = h.alpha ∙ left_out items pairs k n (seen_numbers c) often is p (λ x. get_or x 3 0) e;
  }

-- the sums of each entry, with one item more
pub grouped_more : (entries items : List (List ℕ)) (pairs k n v : ℕ) (sums : List SeenSums) (c : SeenColor) (old new : SeenSums) → item_count items pairs k ≡ n
    → item_color items pairs k ≡ seen_numbers c → AreSeen (seen_numbers c) → IsNearestBy seen_distance entries (seen_numbers c) v → old ≡ get_or sums v old
    → new.count ≡ old.count + n → new.red ≡ old.red + n * c.red → new.green ≡ old.green + n * c.green → new.blue ≡ old.blue + n * c.blue
    → new.alpha ≡ old.alpha + n * c.alpha → AreSeenItemGroups entries items pairs k sums → AreSeenItemGroups entries items pairs (k + 1) (set sums v new)
grouped_more entries items pairs k n v sums c old new often is seen near read count red green blue alpha h =
    parts_more (λ p s. AreSeenItemSums p items pairs k s) (λ p s. AreSeenItemSums p items pairs (k + 1) s) entries (seen_numbers c) v sums old new near read
    (λ p passes was. sums_with items pairs k n c often is p old new passes seen was count red green blue alpha)
    (λ p s fails was. sums_without items pairs k n c often is p s fails was) h

-- an item that doesn't count leaves them as they are
pub grouped_same : (entries items : List (List ℕ)) (pairs k : ℕ) (sums : List SeenSums) → item_count items pairs k ≡ 0
    → AreSeenItemGroups entries items pairs k sums → AreSeenItemGroups entries items pairs (k + 1) sums
grouped_same entries items pairs k sums none h =
    parts_then (λ p s. AreSeenItemSums p items pairs k s) (λ p s. AreSeenItemSums p items pairs (k + 1) s) entries sums
    (λ p s was. record {
      few = was.few;
      count = was.count ∙ not_counted (λ c. cond (p c) 1 0) items pairs k none;
      red = was.red ∙ not_counted (λ c. cond (p c) (get_or c 0 0) 0) items pairs k none;
      green = was.green ∙ not_counted (λ c. cond (p c) (get_or c 1 0) 0) items pairs k none;
      blue = was.blue ∙ not_counted (λ c. cond (p c) (get_or c 2 0) 0) items pairs k none;
      alpha = was.alpha ∙ not_counted (λ c. cond (p c) (get_or c 3 0) 0) items pairs k none;
    }) h

-- what is known of the sums to which an item is added
pub sums_open : (entries items : List (List ℕ)) (pairs k all n v most : ℕ) (sums : List SeenSums) (d : SeenSums) → v < length entries → k < all
    → item_count items pairs k ≡ n → item_sum (λ c. 1) items pairs all < most → AreSeenItemGroups entries items pairs k sums
    → AreFew (get_or sums v d) × ((get_or sums v d).count + n < most)
sums_open entries items pairs k all n v most sums d inside more often few h =
    let s = part_at (λ p s. AreSeenItemSums p items pairs k s) entries sums d v inside h in
    (s.1.few, room_for s.0 items pairs k all n most (get_or sums v d).count more often few s.1.count)

-- the sums of the items are those of the colors
pub groups_of_items : (entries all items : List (List ℕ)) (pairs singles : ℕ) (sums : List SeenSums) → AreItemsOf all items pairs singles → All AreSeen all
    → AreSeenItemGroups entries items pairs (pairs + singles) sums → AreSeenGrouped AreGroupSums entries all sums
groups_of_items entries all items pairs singles sums are seen h =
    parts_then (λ p s. AreSeenItemSums p items pairs (pairs + singles) s) (λ p s. AreGroupSums (filter p all) s) entries sums
    (λ p s was. record {
      seen = All-filter p AreSeen all seen;
      count = was.count ∙ sym (are (λ c. cond (p c) 1 0)) ∙ sym (length-filter p all);
      red = was.red ∙ sym (are (λ c. cond (p c) (get_or c 0 0) 0)) ∙ sum_kept p (λ c. get_or c 0 0) all;
      green = was.green ∙ sym (are (λ c. cond (p c) (get_or c 1 0) 0)) ∙ sum_kept p (λ c. get_or c 1 0) all;
      blue = was.blue ∙ sym (are (λ c. cond (p c) (get_or c 2 0) 0)) ∙ sum_kept p (λ c. get_or c 2 0) all;
      alpha = was.alpha ∙ sym (are (λ c. cond (p c) (get_or c 3 0) 0)) ∙ sum_kept p (λ c. get_or c 3 0) all;
    }) h
