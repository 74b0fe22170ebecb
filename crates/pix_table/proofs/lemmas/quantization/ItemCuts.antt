-- Cuts of items are cuts of their colors, and the other way round.
use Rattle.std.specs.List.{filter}
use Rattle.std.specs.Prelude.{MatchOption, None, Option, Some, false, nat_lt, not, true}
use Rattle.std.proofs.Common.{◌≡◌, ℕ, ◌+◌, ◌<◌, ◌≤◌, List, ◌++◌, length, take, get_or, All, IsPermutation, refl, arith, sym, ap, ◌∙◌, subst, lt-ltb, le-ltb}
use Rattle.std.proofs.lemmas.Bool.{ltb-true, ltb-false, not-true}
use Rattle.std.proofs.lemmas.List.{drop_at, take_at}
use Rattle.std.proofs.lemmas.List.Elements.{All-drop, All-take, All-weaker, filter_agree, filter_passes}
use Rattle.std.proofs.lemmas.List.Filters.{length-filter_both}
use Rattle.std.proofs.lemmas.List.Sorted.{All-permutation, IsPermutation-filter_both, IsPermutation-refl, IsPermutation-sym, IsPermutation-trans, length_permutation}
use Rattle.std.proofs.lemmas.List.Sums.{length-filter}
use Rattle.pix_table.specs.quantization.Items.{IsItem, spread, weigh_items}
use Rattle.pix_table.specs.quantization.Places.{CannotBeCutBy, HasBestBy, IsCutBy, below}
use Rattle.pix_table.specs.declared.quantization.place.Place.{Place}
use Rattle.pix_table.proofs.lemmas.quantization.ItemLists.{All-spread, filter-spread, item_channel, some_items, some_spread, spread-append, spread-moved}
use Rattle.pix_table.proofs.lemmas.quantization.Moved.{pass_first, pass_second}

-- what holds of each of two lists, holds of each of them
pub all_left : {X : Type 0} (P : X → Type 0) (xs ys : List X) → All P (xs ++ ys) → All P xs
all_left P xs ys h = subst (All P) (take_at xs ys (length xs) refl) (All-take P (length xs) (xs ++ ys) h)

pub all_right : {X : Type 0} (P : X → Type 0) (xs ys : List X) → All P (xs ++ ys) → All P ys
all_right P xs ys h = subst (All P) (drop_at xs ys (length xs) refl) (All-drop P (length xs) (xs ++ ys) h)

-- the items, or colors, whose number in a channel is below a value, and the others
abbrev pub lows : (c v : ℕ) → List (List ℕ) → List (List ℕ)
lows c v box = filter (λ x. nat_lt (get_or x c 0) v) box

abbrev pub highs : (c v : ℕ) → List (List ℕ) → List (List ℕ)
highs c v box = filter (λ x. not (nat_lt (get_or x c 0) v)) box

module _ (channels c v : ℕ) (inside : c < channels) where
  lows-spread : (items : List (List ℕ)) → lows c v (spread channels items) ≡ spread channels (lows c v items)
  lows-spread items =
      filter-spread channels (λ x. nat_lt (get_or x c 0) v) items
      ∙ ap (spread channels)
      (filter_agree (λ x. nat_lt (get_or (take channels x) c 0) v) (λ x. nat_lt (get_or x c 0) v) (λ x. ap (λ n. nat_lt n v) (item_channel channels c x inside)) items)

  highs-spread : (items : List (List ℕ)) → highs c v (spread channels items) ≡ spread channels (highs c v items)
  highs-spread items =
      filter-spread channels (λ x. not (nat_lt (get_or x c 0) v)) items
      ∙ ap (spread channels)
      (filter_agree (λ x. not (nat_lt (get_or (take channels x) c 0) v)) (λ x. not (nat_lt (get_or x c 0) v))
      (λ x. ap (λ n. not (nat_lt n v)) (item_channel channels c x inside)) items)

  lows_below : (items : List (List ℕ)) → All (λ x. get_or x c 0 < v) (lows c v items)
  lows_below items =
      All-weaker (λ x. nat_lt (get_or x c 0) v ≡ true) (λ x. get_or x c 0 < v) (λ x e. ltb-true (get_or x c 0) v e) (lows c v items)
      (filter_passes (λ x. nat_lt (get_or x c 0) v) items)

  highs_above : (items : List (List ℕ)) → All (λ x. v ≤ get_or x c 0) (highs c v items)
  highs_above items =
      All-weaker (λ x. not (nat_lt (get_or x c 0) v) ≡ true) (λ x. v ≤ get_or x c 0)
      (λ x e. ltb-false (get_or x c 0) v (not-true (nat_lt (get_or x c 0) v) e)) (highs c v items)
      (filter_passes (λ x. not (nat_lt (get_or x c 0) v)) items)

-- a cut of items, of colors that are those of the items
pub cut_spread : (channels c v : ℕ) (items low high colors : List (List ℕ)) → All (IsItem channels) items → IsPermutation colors (spread channels items)
    → IsCutBy channels items c v low high → IsCutBy channels colors c v (spread channels low) (spread channels high)
cut_spread channels c v items low high colors are moved is =
    let both : All (IsItem channels) (low ++ high) = All-permutation (IsItem channels) items (low ++ high) is.all are in
    record {
      stands = is.stands;
      all = IsPermutation-trans colors (spread channels items) (spread channels low ++ spread channels high) moved
          (subst (IsPermutation (spread channels items)) (spread-append channels low high) (spread-moved channels items (low ++ high) is.all));
      below = All-spread channels (λ x. get_or x c 0 < v) low
          (All-weaker (λ x. get_or x c 0 < v) (λ x. get_or (take channels x) c 0 < v) (λ x h. subst (λ n. n < v) (sym (item_channel channels c x is.stands)) h)
          low is.below);
      others = All-spread channels (λ x. v ≤ get_or x c 0) high
          (All-weaker (λ x. v ≤ get_or x c 0) (λ x. v ≤ get_or (take channels x) c 0) (λ x h. subst (λ n. v ≤ n) (sym (item_channel channels c x is.stands)) h)
          high is.others);
      some_below = some_spread channels low (all_left (IsItem channels) low high both) is.some_below;
      some_others = some_spread channels high (all_right (IsItem channels) low high both) is.some_others;
    }

-- a cut of the colors: its parts are those of the items below the value, and of the others
module _ (channels c v : ℕ) (items colors low high : List (List ℕ)) (moved : IsPermutation colors (spread channels items))
    (is : IsCutBy channels colors c v low high) where
  joined : IsPermutation (low ++ high) (spread channels items)
  joined = IsPermutation-trans (low ++ high) colors (spread channels items) (IsPermutation-sym colors (low ++ high) is.all) moved

  pub low_spread : IsPermutation low (spread channels (lows c v items))
  low_spread =
      subst (IsPermutation low) (lows-spread channels c v is.stands items)
      (pass_first (λ x. nat_lt (get_or x c 0) v) low high (spread channels items)
      (All-weaker (λ x. get_or x c 0 < v) (λ x. nat_lt (get_or x c 0) v ≡ true) (λ x h. lt-ltb (get_or x c 0) v h) low is.below)
      (All-weaker (λ x. v ≤ get_or x c 0) (λ x. nat_lt (get_or x c 0) v ≡ false) (λ x h. le-ltb (get_or x c 0) v h) high is.others) joined)

  pub high_spread : IsPermutation high (spread channels (highs c v items))
  high_spread =
      subst (IsPermutation high) (highs-spread channels c v is.stands items)
      (pass_second (λ x. not (nat_lt (get_or x c 0) v)) low high (spread channels items)
      (All-weaker (λ x. get_or x c 0 < v) (λ x. not (nat_lt (get_or x c 0) v) ≡ false) (λ x h. ap not (lt-ltb (get_or x c 0) v h)) low is.below)
      (All-weaker (λ x. v ≤ get_or x c 0) (λ x. not (nat_lt (get_or x c 0) v) ≡ true) (λ x h. ap not (le-ltb (get_or x c 0) v h)) high is.others) joined)

  pub cut_items : IsCutBy channels items c v (lows c v items) (highs c v items)
  cut_items = record {
    stands = is.stands;
    all = IsPermutation-filter_both (λ x. nat_lt (get_or x c 0) v) (λ x. not (nat_lt (get_or x c 0) v)) (λ x. refl) items;
    below = lows_below channels c v is.stands items;
    others = highs_above channels c v is.stands items;
    some_below = some_items channels (lows c v items)
        (omega (arith, is.some_below, length_permutation low (spread channels (lows c v items)) low_spread));
    some_others = some_items channels (highs c v items)
        (omega (arith, is.some_others, length_permutation high (spread channels (highs c v items)) high_spread));
  }

-- how many items are below
module _ (channels c v : ℕ) (inside : c < channels) (items : List (List ℕ)) where
  lows_counted : (box : List (List ℕ)) → length (lows c v box) ≡ below c v box
  lows_counted box = length-filter (λ x. nat_lt (get_or x c 0) v) box

  both_counted : (box : List (List ℕ)) → length (lows c v box) + length (highs c v box) ≡ length box
  both_counted box = length-filter_both (λ x. nat_lt (get_or x c 0) v) (λ x. not (nat_lt (get_or x c 0) v)) (λ x. refl) box

  some_lows : 0 < below c v (spread channels items) → 0 < below c v items
  some_lows h =
      let some : 0 < length (lows c v items) =
      some_items channels (lows c v items)
      (subst (λ l. 0 < length l) (lows-spread channels c v inside items) (omega (arith, h, lows_counted (spread channels items)))) in
      omega (arith, some, lows_counted items)

  some_highs : below c v (spread channels items) < length (spread channels items) → below c v items < length items
  some_highs h =
      let some : 0 < length (highs c v items) =
      some_items channels (highs c v items)
      (subst (λ l. 0 < length l) (highs-spread channels c v inside items)
      (omega (arith, h, lows_counted (spread channels items), both_counted (spread channels items)))) in
      omega (arith, some, lows_counted items, both_counted items)

-- the best place of the colors is that of the items
pub best_of_items : (channels : ℕ) (weigh : List (List ℕ) → ℕ) (items : List (List ℕ)) (c v most : ℕ) → All (IsItem channels) items
    → HasBestBy channels weigh (spread channels items) c v most → HasBestBy channels (weigh_items channels weigh) items c v most
best_of_items channels weigh items c v most are h =
    let same : IsPermutation (spread channels items) (spread channels items) = IsPermutation-refl (spread channels items) in
    record {
      stands = h.stands;
      some_below = some_lows channels c v h.stands items h.some_below;
      some_others = some_highs channels c v h.stands items h.some_others;
      gains = λ low high is. h.gains _ _ (cut_spread channels c v items low high (spread channels items) are same is);
      place = record {
        best = λ k w low high is. h.place.best k w _ _ (cut_spread channels k w items low high (spread channels items) are same is);
        first = λ k w low high is before. h.place.first k w _ _ (cut_spread channels k w items low high (spread channels items) are same is) before;
      };
    }

-- where the colors cannot be cut, the items cannot
pub none_of_items : (channels : ℕ) (items : List (List ℕ)) → All (IsItem channels) items → CannotBeCutBy channels (spread channels items)
    → CannotBeCutBy channels items
none_of_items channels items are h = λ c v low high is.
    h c v _ _ (cut_spread channels c v items low high (spread channels items) are (IsPermutation-refl (spread channels items)) is)

-- the best place of the colors of items is that of the items
pub place_of_items : (channels : ℕ) (weigh : List (List ℕ) → ℕ) (items : List (List ℕ)) (best : Option Place) → All (IsItem channels) items
    → MatchOption best (CannotBeCutBy channels (spread channels items)) (λ p. HasBestBy channels weigh (spread channels items) p.channel p.value p.gain)
    → MatchOption best (CannotBeCutBy channels items) (λ p. HasBestBy channels (weigh_items channels weigh) items p.channel p.value p.gain)
place_of_items channels weigh items None are h = none_of_items channels items are h
place_of_items channels weigh items (Some p) are h = best_of_items channels weigh items p.channel p.value p.gain are h
