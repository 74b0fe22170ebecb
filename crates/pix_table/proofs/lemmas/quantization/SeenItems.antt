-- Items of seen colors: the sums of their colors, one item after the other.
use Rattle.std.proofs.Common.{◌≡◌, ℕ, ◌+◌, ◌*◌, ◌<◌, ◌≤◌, Bool, true, false, cond, List, [], ◌∷◌, ◌++◌, length, map, take, drop, replicate, set, get_or, sum_by, All, refl, arith, sym, ap, ◌∙◌, subst, length-append, eq-eqb, Option, Some, None, MatchOption, IsPermutation}
use Rattle.std.proofs.lemmas.List.{drop_at, get_or-map, get_or-replicate, length-map, length-replicate, length-take-le, map-set, take-append-le, take-map, take_at}
use Rattle.std.proofs.lemmas.List.Elements.{All-cons, All-drop, All-head, All-map, All-nil, All-replicate, All-tail, All-take}
use Rattle.std.proofs.lemmas.List.Sums.{sum_by-append, sum_by-cons}
use Rattle.pix_table.specs.quantization.BestPlaces.{is_at, sum_of}
use Rattle.pix_table.specs.quantization.Items.{IsItem, item_of, pair_items, spread, times_of}
use Rattle.pix_table.specs.quantization.PartSums.{AreNone}
use Rattle.pix_table.specs.SeenPixels.{AreSeen, seen_numbers}
use Rattle.pix_table.specs.quantization.SeenItems.{IsSeenItem}
use Rattle.pix_table.specs.quantization.SeenSums.{AreFew, AreSeenByValue, AreSeenSums, IsSummed}
use Rattle.pix_table.specs.declared.rgba.color.SeenColor.{SeenColor}
use Rattle.pix_table.specs.declared.rgba.sums.SeenSums.{SeenSums}
use Rattle.pix_table.proofs.lemmas.quantization.BoxSpans.{map_more}
use Rattle.pix_table.proofs.lemmas.quantization.GroupLemmas.{seen_joined}
use Rattle.pix_table.proofs.lemmas.quantization.ItemLists.{All-spread, item_channel, length-spread, some_spread, spread-append, spread-parts, sum_by-spread}
use Rattle.pix_table.proofs.lemmas.quantization.PartedSums.{parted_by_grown}
use Rattle.pix_table.proofs.lemmas.quantization.SeenSumLemmas.{are_few}

-- the items, and their colors
pub items_are : (items : List (List ℕ)) → All IsSeenItem items → All (IsItem 4) items
items_are items h = λ j d inside. (h j d inside).is

pub items_seen : (items : List (List ℕ)) → All IsSeenItem items → All AreSeen (spread 4 items)
items_seen items h = All-spread 4 AreSeen items (λ j d inside. (h j d inside).seen)

pub fit_items : (items : List (List ℕ)) → All (IsItem 4) items → All AreSeen (spread 4 items) → All IsSeenItem items
fit_items [] are seen = All-nil IsSeenItem
fit_items (x ∷ items) are seen =
    let own = replicate (times_of 4 x) (take 4 x) in
    let is = All-head (IsItem 4) x items are in
    let first : All AreSeen (replicate (times_of 4 x) (take 4 x)) =
    subst (All AreSeen) (take_at own (spread 4 items) (length own) refl) (All-take AreSeen (length own) (own ++ spread 4 items) seen) in
    let one : AreSeen (take 4 x) =
    subst AreSeen (get_or-replicate (times_of 4 x) 0 (take 4 x) [] is.some)
    (first 0 [] (omega (arith, is.some, length-replicate (times_of 4 x) (take 4 x)))) in
    All-cons IsSeenItem x items (record { is = is; seen = one })
    (fit_items items (All-tail (IsItem 4) x items are)
    (subst (All AreSeen) (drop_at own (spread 4 items) (length own) refl) (All-drop AreSeen (length own) (own ++ spread 4 items) seen)))

-- the sum of what a function makes of the colors of one item that pass a test
single_sum : (p : List ℕ → Bool) (f : List ℕ → ℕ) (item : List ℕ)
    → sum_of p f (spread 4 (item ∷ [])) ≡ times_of 4 item * cond (p (take 4 item)) (f (take 4 item)) 0
single_sum p f item =
    sum_by-spread 4 (λ c. cond (p c) (f c) 0) (item ∷ [])
    ∙ omega (arith, sum_by-cons (λ i. times_of 4 i * cond (p (take 4 i)) (f (take 4 i)) 0) item [])

sum_true : (p : List ℕ → Bool) (f : List ℕ → ℕ) (item : List ℕ) → p (take 4 item) ≡ true
    → sum_of p f (spread 4 (item ∷ [])) ≡ times_of 4 item * f (take 4 item)
sum_true p f item e = single_sum p f item ∙ ap (λ b. times_of 4 item * cond b (f (take 4 item)) 0) e

sum_false : (p : List ℕ → Bool) (f : List ℕ → ℕ) (box : List (List ℕ)) (item : List ℕ) → p (take 4 item) ≡ false
    → sum_of p f box ≡ sum_of p f (box ++ spread 4 (item ∷ []))
sum_false p f box item e =
    let none : sum_of p f (spread 4 (item ∷ [])) ≡ times_of 4 item * 0 =
    single_sum p f item ∙ ap (λ b. times_of 4 item * cond b (f (take 4 item)) 0) e in
    omega (arith, none, sum_by-append (λ c. cond (p c) (f c) 0) box (spread 4 (item ∷ [])))

-- the sums of the colors of one item, where they pass
pub sums_alone : (p : List ℕ → Bool) (item : List ℕ) (c : SeenColor) (n : ℕ) (sums : SeenSums) → item ≡ seen_numbers c ++ n ∷ [] → p (take 4 item) ≡ true
    → sums.count ≡ n → sums.red ≡ n * c.red → sums.green ≡ n * c.green → sums.blue ≡ n * c.blue → sums.alpha ≡ n * c.alpha
    → AreSeenSums p (spread 4 (item ∷ [])) sums
sums_alone p item c n sums e here count red green blue alpha =
    let times : times_of 4 item ≡ n = ap (times_of 4) e in
    let color : take 4 item ≡ seen_numbers c = ap (take 4) e in
    let sum : (f : List ℕ → ℕ) → sum_of p f (spread 4 (item ∷ [])) ≡ n * f (seen_numbers c) =
    λ f. sum_true p f item here ∙ rw (times, color) refl in
    record {
      count = omega (arith, count, sum (λ x. 1));
      red = red ∙ sym (sum (λ x. get_or x 0 0));
      green = green ∙ sym (sum (λ x. get_or x 1 0));
      blue = blue ∙ sym (sum (λ x. get_or x 2 0));
      alpha = alpha ∙ sym (sum (λ x. get_or x 3 0));
    }

-- the sums with an item more whose color doesn't pass
sums_still : (p : List ℕ → Bool) (box : List (List ℕ)) (item : List ℕ) (sums : SeenSums) → p (take 4 item) ≡ false → AreSeenSums p box sums
    → AreSeenSums p (box ++ spread 4 (item ∷ [])) sums
sums_still p box item sums e h = record {
  count = h.count ∙ sum_false p (λ x. 1) box item e;
  red = h.red ∙ sum_false p (λ x. get_or x 0 0) box item e;
  green = h.green ∙ sum_false p (λ x. get_or x 1 0) box item e;
  blue = h.blue ∙ sum_false p (λ x. get_or x 2 0) box item e;
  alpha = h.alpha ∙ sum_false p (λ x. get_or x 3 0) box item e;
}

-- the sums of one item are few
pub alone_few : (p : List ℕ → Bool) (item : List ℕ) (sums : SeenSums) → IsSeenItem item → AreSeenSums p (spread 4 (item ∷ [])) sums → AreFew sums
alone_few p item sums is h =
    are_few p (spread 4 (item ∷ [])) sums (items_seen (item ∷ []) (All-cons IsSeenItem item [] is (All-nil IsSeenItem))) h

-- the sums of each value of no items
pub no_values : {S : Type 0} (whole : S → SeenSums) (k : ℕ) (parts : List S) → length parts ≡ 256 → All (λ s. AreNone (whole s)) parts
    → AreSeenByValue k [] (map whole parts)
no_values whole k parts many none =
    let long : length (map whole parts) ≡ 256 = length-map parts whole ∙ many in
    record {
      many = long;
      each = λ w d inside.
          let h = All-map AreNone whole parts none w d (omega (arith, inside, long)) in
          record { count = h.count; red = h.red; green = h.green; blue = h.blue; alpha = h.alpha };
    }

-- the sums of each value where none is counted
pub none_of_values : {S : Type 0} (whole : S → SeenSums) (k : ℕ) (none : S) → AreNone (whole none)
    → AreSeenByValue k [] (map whole (replicate 256 none))
none_of_values whole k none h = no_values whole k (replicate 256 none) (length-replicate 256 none) (All-replicate (λ s. AreNone (whole s)) 256 none h)

-- the sums of a box of items
pub items_summed : (items : List (List ℕ)) (k : ℕ) (parts : List SeenSums) (all : SeenSums) → 0 < length items
    → sum_by (times_of 4) items < 18446744073709551616 → All IsSeenItem items → AreSeenByValue k (spread 4 items) parts
    → AreSeenSums (λ c. true) (spread 4 items) all → IsSummed k (spread 4 items) parts all
items_summed items k parts all some few are values whole = record {
  some = some_spread 4 items (items_are items are) some;
  few = omega (arith, length-spread 4 items, few);
  seen = items_seen items are;
  values = values;
  whole = whole;
}

-- the sums of a box of few items
pub few_summed : (xs : List (List SeenColor)) (all : SeenSums) → 0 < length xs → sum_by (times_of 4) (pair_items seen_numbers xs) < 16777216
    → All IsSeenItem (pair_items seen_numbers xs) → AreSeenSums (λ c. true) (spread 4 (pair_items seen_numbers xs)) all → (k : ℕ) (parts : List SeenSums)
    → AreSeenByValue k (spread 4 (pair_items seen_numbers xs)) parts → IsSummed k (spread 4 (pair_items seen_numbers xs)) parts all
few_summed xs all some few are whole k parts values =
    items_summed (pair_items seen_numbers xs) k parts all (omega (arith, some, length-map xs (λ pair. item_of (map seen_numbers pair)))) (omega (arith, few)) are
    values whole

-- the color of an item has a value in a channel where the item has
pub item_at : (k v : ℕ) (item : List ℕ) → k < 4 → v ≡ get_or item k 0 → is_at k v (take 4 item) ≡ true
item_at k v item channel e = eq-eqb (get_or (take 4 item) k 0) v (item_channel 4 k item channel ∙ sym e)

-- the first items of some pairs
pub first_items : (xs : List (List SeenColor)) (i : ℕ) → All IsSeenItem (pair_items seen_numbers xs) → All IsSeenItem (pair_items seen_numbers (take i xs))
first_items xs i h =
    subst (All IsSeenItem) (take-map (λ pair. item_of (map seen_numbers pair)) i xs) (All-take IsSeenItem i (pair_items seen_numbers xs) h)

-- one item more of some pairs
module _ (xs : List (List SeenColor)) (i : ℕ) (x : List SeenColor) (inside : i < length xs) (read : x ≡ get_or xs i x) where
  pub next_item : All IsSeenItem (pair_items seen_numbers xs) → IsSeenItem (item_of (map seen_numbers x))
  next_item h =
      subst IsSeenItem
      (get_or-map (λ pair. item_of (map seen_numbers pair)) xs i x (item_of (map seen_numbers x)) inside ∙ ap (λ pair. item_of (map seen_numbers pair)) (sym read))
      (h i (item_of (map seen_numbers x)) (omega (arith, inside, length-map xs (λ pair. item_of (map seen_numbers pair)))))

  pub spread_more : spread 4 (pair_items seen_numbers (take (i + 1) xs))
      ≡ spread 4 (pair_items seen_numbers (take i xs)) ++ spread 4 (item_of (map seen_numbers x) ∷ [])
  spread_more =
      ap (spread 4) (map_more (λ pair. item_of (map seen_numbers pair)) xs i x inside read)
      ∙ spread-append 4 (pair_items seen_numbers (take i xs)) (item_of (map seen_numbers x) ∷ [])

  -- they are no more than all
  pub next_few : (most : ℕ) → sum_by (times_of 4) (pair_items seen_numbers xs) < most
      → length (spread 4 (pair_items seen_numbers (take i xs))) + length (spread 4 (item_of (map seen_numbers x) ∷ [])) < most
  next_few most few =
      let items = pair_items seen_numbers xs in
      let first : spread 4 (take (i + 1) items) ≡ spread 4 (pair_items seen_numbers (take (i + 1) xs)) =
      ap (spread 4) (take-map (λ pair. item_of (map seen_numbers pair)) (i + 1) xs) in
      omega (
        arith,
        few,
        length-spread 4 items,
        ap length (spread-parts 4 (i + 1) items),
        length-append (spread 4 (take (i + 1) items)) (spread 4 (drop (i + 1) items)),
        ap length first,
        ap length spread_more,
        length-append (spread 4 (pair_items seen_numbers (take i xs))) (spread 4 (item_of (map seen_numbers x) ∷ [])),
      )

  -- the sums of each value of a channel, to which an item is added
  pub added_few : (k : ℕ) (parts : List SeenSums) (most : ℕ) → All IsSeenItem (pair_items seen_numbers xs)
      → sum_by (times_of 4) (pair_items seen_numbers xs) < most → AreSeenByValue k (spread 4 (pair_items seen_numbers (take i xs))) parts
      → (box : List (List ℕ)) × All AreSeen box × AreSeenByValue k box parts × (length box + length (spread 4 (item_of (map seen_numbers x) ∷ [])) < most)
  added_few k parts most fit few h = (
    spread 4 (pair_items seen_numbers (take i xs)),
    items_seen _ (first_items xs i fit),
    h,
    next_few most few,
  )

  -- the sums of each value of a channel of one item more
  pub values_next : (k : ℕ) (parts : List SeenSums)
      → AreSeenByValue k (spread 4 (pair_items seen_numbers (take i xs)) ++ spread 4 (item_of (map seen_numbers x) ∷ [])) parts
      → AreSeenByValue k (spread 4 (pair_items seen_numbers (take (i + 1) xs))) parts
  values_next k parts h = subst (λ l. AreSeenByValue k l parts) (sym spread_more) h

-- the sums of each value of a channel, with an item more
pub item_values_more : {S : Type 0} (whole : S → SeenSums) (k v : ℕ) (box : List (List ℕ)) (item : List ℕ) (parts : List S) (old part new : S) → k < 4
    → AreSeenByValue k box (map whole parts) → v ≡ get_or item k 0 → v < 256 → old ≡ get_or parts v old
    → ((p : List ℕ → Bool) → p (take 4 item) ≡ true → AreSeenSums p (spread 4 (item ∷ [])) (whole part))
    → (whole new).count ≡ (whole old).count + (whole part).count → (whole new).red ≡ (whole old).red + (whole part).red
    → (whole new).green ≡ (whole old).green + (whole part).green → (whole new).blue ≡ (whole old).blue + (whole part).blue
    → (whole new).alpha ≡ (whole old).alpha + (whole part).alpha → AreSeenByValue k (box ++ spread 4 (item ∷ [])) (map whole (set parts v new))
item_values_more whole k v box item parts old part new channel h is small there own count red green blue alpha =
    let kept : whole old ≡ get_or (map whole parts) v (whole old) =
    ap whole there ∙ sym (get_or-map whole parts v old (whole old) (omega (arith, small, h.many, length-map parts whole))) in
    rw map-set (parted_by_grown AreSeenSums (λ c. get_or c k 0) 256 v box (box ++ spread 4 (item ∷ [])) (map whole parts) (take 4 item) (whole old) (whole new) h
    (is ∙ sym (item_channel 4 k item channel)) small kept
    (λ p here before. seen_joined p box (spread 4 (item ∷ [])) (whole old) (whole part) (whole new) before (own p here) count red green blue alpha)
    (λ p s other before. sums_still p box item s other before))
