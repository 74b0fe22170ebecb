-- The sums of the seen colors of a box, of those of each value of a channel, and of those below a value.
use Rattle.std.proofs.Common.{◌≡◌, ℕ, zero, suc, ◌+◌, ◌<◌, ◌≤◌, Bool, true, false, List, [], ◌∷◌, ◌++◌, length, map, take, replicate, get_or, sum_by, set, All, arith, sym, ap, ◌∙◌, subst}
use Rattle.std.proofs.lemmas.List.{get_or_past, get_or-map, get_or-replicate, length-map, length-replicate, take-map}
use Rattle.std.proofs.lemmas.List.Elements.{All-take}
use Rattle.pix_table.specs.quantization.BestPlaces.{AreBytes, CanCutBy, is_at, is_below}
use Rattle.pix_table.specs.SeenPixels.{AreSeen, seen_numbers}
use Rattle.pix_table.specs.quantization.SeenSums.{AreFew, AreSeenByValue, AreSeenPart, AreSeenSums}
use Rattle.pix_table.specs.declared.rgba.color.SeenColor.{SeenColor}
use Rattle.pix_table.specs.declared.rgba.sums.SeenSums.{SeenSums}
use Rattle.pix_table.proofs.lemmas.quantization.PartedSums.{push_true, push_false, parted_by_more}
use Rattle.pix_table.proofs.lemmas.quantization.SumLemmas.{length_sum, rest_at_most, rest_few, sum_at_most, sum_few, sum_le, sum_next, sum_zero}

-- the numbers of a seen color are bytes
pub seen_bytes : (c : List ℕ) → AreSeen c → AreBytes c
seen_bytes c h zero = omega (arith, h.red, h.alpha)
seen_bytes c h (suc zero) = omega (arith, h.green, h.alpha)
seen_bytes c h (suc (suc zero)) = omega (arith, h.blue, h.alpha)
seen_bytes c h (suc (suc (suc zero))) = h.alpha
seen_bytes c h (suc (suc (suc (suc k)))) =
    let none : get_or c (suc (suc (suc (suc k)))) 0 ≡ 0 = get_or_past c (suc (suc (suc (suc k)))) 0 (omega (arith, h.many)) in
    omega (arith, none)

pub all_bytes : (box : List (List ℕ)) → All AreSeen box → All AreBytes box
all_bytes box h = λ j d inside. seen_bytes (get_or box j d) (h j d inside)

alphas : (box : List (List ℕ)) → All AreSeen box → All (λ c. get_or c 3 0 ≤ 255) box
alphas box h = λ j d inside. (h j d inside).alpha

-- the first colors
pub first_seen : (xs : List SeenColor) (i : ℕ) → All AreSeen (map seen_numbers xs) → All AreSeen (map seen_numbers (take i xs))
first_seen xs i h = subst (All AreSeen) (take-map seen_numbers i xs) (All-take AreSeen i (map seen_numbers xs) h)

-- the sums with a color more that passes, and with one that doesn't
pub seen_more : (p : List ℕ → Bool) (box : List (List ℕ)) (c : SeenColor) (old new : SeenSums) → p (seen_numbers c) ≡ true → AreSeenSums p box old
    → new.count ≡ old.count + 1 → new.red ≡ old.red + c.red → new.green ≡ old.green + c.green → new.blue ≡ old.blue + c.blue
    → new.alpha ≡ old.alpha + c.alpha → AreSeenSums p (box ++ seen_numbers c ∷ []) new
seen_more p box c old new e h count red green blue alpha = record {
  count = omega (arith, count, h.count, push_true p (λ x. 1) box (seen_numbers c) e);
  red = omega (arith, red, h.red, push_true p (λ x. get_or x 0 0) box (seen_numbers c) e);
  green = omega (arith, green, h.green, push_true p (λ x. get_or x 1 0) box (seen_numbers c) e);
  blue = omega (arith, blue, h.blue, push_true p (λ x. get_or x 2 0) box (seen_numbers c) e);
  alpha = omega (arith, alpha, h.alpha, push_true p (λ x. get_or x 3 0) box (seen_numbers c) e);
}

seen_same : (p : List ℕ → Bool) (box : List (List ℕ)) (c : List ℕ) (sums : SeenSums) → p c ≡ false → AreSeenSums p box sums
    → AreSeenSums p (box ++ c ∷ []) sums
seen_same p box c sums e h = record {
  count = h.count ∙ push_false p (λ x. 1) box c e;
  red = h.red ∙ push_false p (λ x. get_or x 0 0) box c e;
  green = h.green ∙ push_false p (λ x. get_or x 1 0) box c e;
  blue = h.blue ∙ push_false p (λ x. get_or x 2 0) box c e;
  alpha = h.alpha ∙ push_false p (λ x. get_or x 3 0) box c e;
}

-- the sums of each value, with one color more
pub values_more : (k v : ℕ) (box more : List (List ℕ)) (parts : List SeenSums) (c : SeenColor) (old new : SeenSums) → more ≡ box ++ seen_numbers c ∷ []
    → AreSeenByValue k box parts → v ≡ get_or (seen_numbers c) k 0 → v < 256 → old ≡ get_or parts v old
    → new.count ≡ old.count + 1 → new.red ≡ old.red + c.red → new.green ≡ old.green + c.green → new.blue ≡ old.blue + c.blue
    → new.alpha ≡ old.alpha + c.alpha → AreSeenByValue k more (set parts v new)
values_more k v box more parts c old new grown h e small read count red green blue alpha =
    parted_by_more AreSeenSums (λ x. get_or x k 0) 256 v box more parts (seen_numbers c) old new grown h e small read
    (λ p here before. seen_more p box c old new here before count red green blue alpha)
    (λ p s other before. seen_same p box (seen_numbers c) s other before)

-- those of no colors
pub values_none : (k : ℕ) (none : SeenSums) → none.count ≡ 0 → none.red ≡ 0 → none.green ≡ 0 → none.blue ≡ 0 → none.alpha ≡ 0
    → AreSeenByValue k [] (replicate 256 none)
values_none k none count red green blue alpha = record {
  many = length-replicate 256 none;
  each = λ w d inside. subst (AreSeenSums (is_at k w) []) (sym (get_or-replicate 256 w none d inside))
      (record { count = count; red = red; green = green; blue = blue; alpha = alpha });
}

-- the sums of the colors below a value
pub below_none : (k : ℕ) (box : List (List ℕ)) (none : SeenSums) → none.count ≡ 0 → none.red ≡ 0 → none.green ≡ 0 → none.blue ≡ 0
    → none.alpha ≡ 0 → AreSeenSums (is_below k 0) box none
below_none k box none count red green blue alpha = record {
  count = omega (arith, count, sum_zero k (λ x. 1) box);
  red = omega (arith, red, sum_zero k (λ x. get_or x 0 0) box);
  green = omega (arith, green, sum_zero k (λ x. get_or x 1 0) box);
  blue = omega (arith, blue, sum_zero k (λ x. get_or x 2 0) box);
  alpha = omega (arith, alpha, sum_zero k (λ x. get_or x 3 0) box);
}

pub below_more : (k v : ℕ) (box : List (List ℕ)) (low part new : SeenSums) → AreSeenSums (is_below k v) box low → AreSeenSums (is_at k v) box part
    → new.count ≡ low.count + part.count → new.red ≡ low.red + part.red → new.green ≡ low.green + part.green
    → new.blue ≡ low.blue + part.blue → new.alpha ≡ low.alpha + part.alpha → AreSeenSums (is_below k (v + 1)) box new
below_more k v box low part new h g count red green blue alpha = record {
  count = omega (arith, count, h.count, g.count, sum_next k v (λ x. 1) box);
  red = omega (arith, red, h.red, g.red, sum_next k v (λ x. get_or x 0 0) box);
  green = omega (arith, green, h.green, g.green, sum_next k v (λ x. get_or x 1 0) box);
  blue = omega (arith, blue, h.blue, g.blue, sum_next k v (λ x. get_or x 2 0) box);
  alpha = omega (arith, alpha, h.alpha, g.alpha, sum_next k v (λ x. get_or x 3 0) box);
}

-- the sums of a value, where those of each value are kept in some other form
pub value_sums : {S : Type 0} (whole : S → SeenSums) (k v j : ℕ) (box : List (List ℕ)) (parts : List S) (x : S) (part : SeenSums)
    → AreSeenByValue k box (map whole parts) → j ≡ v → v < 256 → x ≡ get_or parts j x → part ≡ whole x → AreSeenSums (is_at k v) box part
value_sums whole k v j box parts x part h e small read is =
    let same : get_or (map whole parts) v (whole x) ≡ part =
    get_or-map whole parts v x (whole x) (omega (arith, small, h.many, length-map parts whole)) ∙ ap (λ i. whole (get_or parts i x)) (sym e) ∙ ap whole (sym read)
    ∙ sym is in
    subst (AreSeenSums (is_at k v) box) same (h.each v (whole x) small)

-- sums are few
pub are_few : (p : List ℕ → Bool) (box : List (List ℕ)) (sums : SeenSums) → All AreSeen box → AreSeenSums p box sums → AreFew sums
are_few p box sums seen h = record {
  red = omega (arith, h.red, h.alpha, sum_at_most p (λ x. get_or x 0 0) (λ x. get_or x 3 0) box (λ j d inside. (seen j d inside).red));
  green = omega (arith, h.green, h.alpha, sum_at_most p (λ x. get_or x 1 0) (λ x. get_or x 3 0) box (λ j d inside. (seen j d inside).green));
  blue = omega (arith, h.blue, h.alpha, sum_at_most p (λ x. get_or x 2 0) (λ x. get_or x 3 0) box (λ j d inside. (seen j d inside).blue));
  alpha = omega (arith, h.count, h.alpha, sum_few p (λ x. get_or x 3 0) box (alphas box seen));
}

pub count_few : (p : List ℕ → Bool) (box : List (List ℕ)) (sums : SeenSums) → AreSeenSums p box sums → sums.count ≤ length box
count_few p box sums h = omega (arith, h.count, sum_le p (λ x. 1) box, length_sum box)

pub whole_count : (box : List (List ℕ)) (all : SeenSums) → AreSeenSums (λ c. true) box all → all.count ≡ length box
whole_count box all h = h.count ∙ length_sum box

-- where no color has a value, the next place has the parts of this one
pub same_below : (k v : ℕ) (box : List (List ℕ)) (low part : SeenSums) → All AreSeen box → AreSeenSums (is_below k v) box low
    → AreSeenSums (is_at k v) box part → part.count ≡ 0 → AreSeenSums (is_below k (v + 1)) box low
same_below k v box low part seen h g none =
    let few = are_few (is_at k v) box part seen g in
    below_more k v box low part low h g (omega (arith, none)) (omega (arith, none, few.red, few.alpha)) (omega (arith, none, few.green, few.alpha))
    (omega (arith, none, few.blue, few.alpha)) (omega (arith, none, few.alpha))

-- a place with some colors below it, but not all
pub some_others : (p : List ℕ → Bool) (box : List (List ℕ)) (low all : SeenSums) → AreSeenSums p box low → AreSeenSums (λ c. true) box all
    → (low.count ≡ all.count → ⊥) → low.count < all.count
some_others p box low all h whole apart = omega (arith, apart, whole_count box all whole, count_few p box low h)

pub can_cut : (k v : ℕ) (box : List (List ℕ)) (low all : SeenSums) → k < 4 → AreSeenSums (is_below k v) box low → AreSeenSums (λ c. true) box all
    → 0 < low.count → (low.count ≡ all.count → ⊥) → CanCutBy 4 box k v
can_cut k v box low all stands h whole some apart = record {
  stands = stands;
  some_below = omega (arith, h.count, some);
  some_others = omega (arith, h.count, whole_count box all whole, some_others (is_below k v) box low all h whole apart);
}

pub are_part : (p : List ℕ → Bool) (box : List (List ℕ)) (low all : SeenSums) → All AreSeen box → AreSeenSums p box low
    → AreSeenSums (λ c. true) box all → 0 < low.count → low.count < all.count → AreSeenPart low all
are_part p box low all seen h whole some others =
    let r : all.red ≡ sum_by (λ x. get_or x 0 0) box = whole.red in
    let g : all.green ≡ sum_by (λ x. get_or x 1 0) box = whole.green in
    let b : all.blue ≡ sum_by (λ x. get_or x 2 0) box = whole.blue in
    let a : all.alpha ≡ sum_by (λ x. get_or x 3 0) box = whole.alpha in
    record {
      some = some;
      others = others;
      red = omega (arith, h.red, r, sum_le p (λ x. get_or x 0 0) box);
      green = omega (arith, h.green, g, sum_le p (λ x. get_or x 1 0) box);
      blue = omega (arith, h.blue, b, sum_le p (λ x. get_or x 2 0) box);
      alpha = omega (arith, h.alpha, a, sum_le p (λ x. get_or x 3 0) box);
      low_few = are_few p box low seen h;
      high_red = omega (arith, h.red, h.alpha, r, a, rest_at_most p (λ x. get_or x 0 0) (λ x. get_or x 3 0) box (λ j d inside. (seen j d inside).red));
      high_green = omega (arith, h.green, h.alpha, g, a, rest_at_most p (λ x. get_or x 1 0) (λ x. get_or x 3 0) box (λ j d inside. (seen j d inside).green));
      high_blue = omega (arith, h.blue, h.alpha, b, a, rest_at_most p (λ x. get_or x 2 0) (λ x. get_or x 3 0) box (λ j d inside. (seen j d inside).blue));
      high_alpha = omega (arith, h.count, h.alpha, a, whole_count box all whole, rest_few p (λ x. get_or x 3 0) box (alphas box seen));
    }
