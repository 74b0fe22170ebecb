-- Words and sums of the colors of items, one item after the other.
use Rattle.std.proofs.Common.{◌≡◌, ℕ, ◌+◌, ◌-◌, ◌*◌, ◌^◌, ◌<◌, ◌≤◌, Bool, true, false, cond, List, [], ◌∷◌, ◌++◌, length, map, take, drop, replicate, get_or, set, length-append, length-drop, length-set, length-take, All, IsPermutation, nat_eq, sum_by, refl, arith, sym, ap, ◌∙◌, subst, inl, inr, eq-eqb, ne_eqb, Option, Some, None, MatchOption}
use Rattle.std.specs.List.{take-map}
use Rattle.std.proofs.Math.Seq.{take-add}
use Rattle.std.proofs.lemmas.Bool.{cases_eq}
use Rattle.std.proofs.lemmas.List.{append-nil, drop-map, length-take-le, get_or-set_same, get_or-set_other, length-map, take-append-le, take_all, take_more}
use Rattle.std.proofs.lemmas.List.Elements.{All-append, All-replicate}
use Rattle.std.proofs.lemmas.List.Folds.{sum_by-replicate}
use Rattle.std.proofs.lemmas.List.Sums.{sum_by-append, sum_by-take-le, sum_by_more}
use Rattle.std.proofs.lemmas.Nat.{mul-le}
use Rattle.pix_table.specs.matching.Nearest.{numbers}
use Rattle.pix_table.specs.quantization.Places.{CannotBeCutBy, HasBestBy, weight}
use Rattle.pix_table.specs.quantization.BestPlaces.{AreBlockWords, AreBytes, AreSums, AreWords, HasSums, IsBestUpTo, another, is_at, other, sum_of, word_of}
use Rattle.pix_table.specs.quantization.Items.{IsItem, item_of, pair_items, spread, times_of, weigh_items}
use Rattle.pix_table.specs.declared.quantization.box_sums.Sums.{Sums}
use Rattle.pix_table.specs.declared.color.Color.{Color}
use Rattle.pix_table.specs.declared.quantization.place.Place.{Place}
use Rattle.pix_table.proofs.lemmas.quantization.ItemLists.{length-spread, some_spread, spread-append}
use Rattle.pix_table.proofs.lemmas.quantization.BoxSumLemmas.{are_few}
use Rattle.pix_table.proofs.lemmas.quantization.ItemCuts.{place_of_items}
use Rattle.pix_table.proofs.lemmas.quantization.PlaceSteps.{best_of_all, one_alone}

-- the colors of the first items, with one item more
module _ (pairs : List (List Color)) (i n : ℕ) (c : Color) (inside : i < length pairs) (read : get_or (pair_items numbers pairs) i [] ≡ numbers c ++ n ∷ [])
  where
    within : i < length (pair_items numbers pairs)
    within = omega (arith, inside, length-map pairs (λ pair. item_of (map numbers pair)))

    pub spread_next : spread 3 (take (i + 1) (pair_items numbers pairs)) ≡ spread 3 (take i (pair_items numbers pairs)) ++ replicate n (numbers c)
    spread_next =
        let items = pair_items numbers pairs in
        let grown : take (i + 1) (pair_items numbers pairs) ≡ take i (pair_items numbers pairs) ++ (numbers c ++ n ∷ []) ∷ [] =
        take_more items i [] within ∙ ap (λ x. take i items ++ x ∷ []) read in
        ap (spread 3) grown ∙ spread-append 3 (take i items) ((numbers c ++ n ∷ []) ∷ [])
        ∙ ap (λ l. spread 3 (take i items) ++ l) (append-nil (replicate n (numbers c)))

    pub times_next : sum_by (times_of 3) (take (i + 1) (pair_items numbers pairs)) ≡ sum_by (times_of 3) (take i (pair_items numbers pairs)) + n
    times_next =
        let items = pair_items numbers pairs in
        sum_by_more (times_of 3) items i [] within ∙ ap (λ item. sum_by (times_of 3) (take i items) + times_of 3 item) read

    pub times_room : sum_by (times_of 3) (take i (pair_items numbers pairs)) + n ≤ sum_by (times_of 3) (pair_items numbers pairs)
    times_room = omega (arith, times_next, sum_by-take-le (times_of 3) (pair_items numbers pairs) (i + 1))

    pub spread_room : length (spread 3 (take i (pair_items numbers pairs))) + n ≤ sum_by (times_of 3) (pair_items numbers pairs)
    spread_room = omega (arith, length-spread 3 (take i (pair_items numbers pairs)), times_room)

    pub spread_bytes : All AreBytes (spread 3 (take i (pair_items numbers pairs))) → AreBytes (numbers c)
        → All AreBytes (spread 3 (take (i + 1) (pair_items numbers pairs)))
    spread_bytes before bytes =
        subst (All AreBytes) (sym spread_next)
        (All-append AreBytes (spread 3 (take i (pair_items numbers pairs))) (replicate n (numbers c)) before (All-replicate AreBytes n (numbers c) bytes))

    pub least_next : (k old new : ℕ) → new ≤ old → new ≤ get_or (numbers c) k 0 → All (λ x. old ≤ get_or x k 0) (spread 3 (take i (pair_items numbers pairs)))
        → All (λ x. new ≤ get_or x k 0) (spread 3 (take (i + 1) (pair_items numbers pairs)))
    least_next k old new less own before =
        let still : All (λ x. new ≤ get_or x k 0) (spread 3 (take i (pair_items numbers pairs))) = (λ j d inside. omega (arith, less, before j d inside)) in
        subst (All (λ x. new ≤ get_or x k 0)) (sym spread_next)
        (All-append (λ x. new ≤ get_or x k 0) (spread 3 (take i (pair_items numbers pairs))) (replicate n (numbers c)) still (All-replicate (λ x. new ≤ get_or x k 0) n (numbers c) own))

-- all items
pub items_all : (pairs : List (List Color)) (i : ℕ) → length pairs ≤ i → take i (pair_items numbers pairs) ≡ pair_items numbers pairs
items_all pairs i past = take_all i (pair_items numbers pairs) (omega (arith, past, length-map pairs (λ pair. item_of (map numbers pair))))

-- the sum of colors that pass a test, with a color that stands so often
sum_times : (p : List ℕ → Bool) (f : List ℕ → ℕ) (box : List (List ℕ)) (n : ℕ) (c : List ℕ)
    → sum_of p f (box ++ replicate n c) ≡ sum_of p f box + n * cond (p c) (f c) 0
sum_times p f box n c =
    sum_by-append (λ x. cond (p x) (f x) 0) box (replicate n c)
    ∙ ap (λ m. sum_of p f box + m) (sum_by-replicate (λ x. cond (p x) (f x) 0) n c)

times_true : (p : List ℕ → Bool) (f : List ℕ → ℕ) (box : List (List ℕ)) (n : ℕ) (c : List ℕ) → p c ≡ true
    → sum_of p f (box ++ replicate n c) ≡ sum_of p f box + n * f c
times_true p f box n c e = sum_times p f box n c ∙ ap (λ b. sum_of p f box + n * cond b (f c) 0) e

times_false : (p : List ℕ → Bool) (f : List ℕ → ℕ) (box : List (List ℕ)) (n : ℕ) (c : List ℕ) → p c ≡ false
    → sum_of p f box ≡ sum_of p f (box ++ replicate n c)
times_false p f box n c e =
    let same : sum_of p f (box ++ replicate n c) ≡ sum_of p f box + n * 0 =
    sum_times p f box n c ∙ ap (λ b. sum_of p f box + n * cond b (f c) 0) e in
    omega (arith, same)

-- the sums of colors that pass a test, with one that stands so often
pub sums_times : (p : List ℕ → Bool) (box : List (List ℕ)) (n : ℕ) (c : Color) (old new : Sums) → p (numbers c) ≡ true → AreSums p box old
    → new.count ≡ old.count + n → new.red ≡ old.red + n * c.red → new.green ≡ old.green + n * c.green → new.blue ≡ old.blue + n * c.blue
    → AreSums p (box ++ replicate n (numbers c)) new
sums_times p box n c old new e h count red green blue = record {
  count = omega (arith, count, h.count, times_true p (λ x. 1) box n (numbers c) e);
  red = red ∙ ap (λ m. m + n * c.red) h.red ∙ sym (times_true p (λ x. get_or x 0 0) box n (numbers c) e);
  green = green ∙ ap (λ m. m + n * c.green) h.green ∙ sym (times_true p (λ x. get_or x 1 0) box n (numbers c) e);
  blue = blue ∙ ap (λ m. m + n * c.blue) h.blue ∙ sym (times_true p (λ x. get_or x 2 0) box n (numbers c) e);
}

-- the words of each value, with a color that stands so often
pub words_times : (k v n : ℕ) (box : List (List ℕ)) (words : List ℕ) (c : Color) (w : ℕ) → AreWords k box words → v ≡ get_or (numbers c) k 0
    → w ≡ n * word_of k (numbers c) → AreWords k (box ++ replicate n (numbers c)) (set words v (get_or words v 0 + w))
words_times k v n box words c w h e made = record {
  many = length-set words v (get_or words v 0 + w) ∙ h.many;
  each = λ u inside. elim (cases_eq u v) [
    | inl same ↦
        let here : nat_eq (get_or (numbers c) k 0) u ≡ true = eq-eqb (get_or (numbers c) k 0) u (omega (arith, e, same)) in
        let there : get_or (set words v (get_or words v 0 + w)) u 0 ≡ get_or words v 0 + w =
        ap (λ j. get_or (set words v (get_or words v 0 + w)) j 0) same
        ∙ get_or-set_same words v (get_or words v 0 + w) 0 (omega (arith, h.many, inside, same)) in
        let before : get_or words v 0 ≡ sum_of (is_at k u) (word_of k) box = ap (λ j. get_or words j 0) (sym same) ∙ h.each u inside in
        omega (arith, there, before, made, times_true (is_at k u) (word_of k) box n (numbers c) here)
    | inr apart ↦
        let none : nat_eq (get_or (numbers c) k 0) u ≡ false = ne_eqb (get_or (numbers c) k 0) u (λ eq. apart (omega (arith, e, eq))) in
        get_or-set_other words v u (get_or words v 0 + w) 0 apart ∙ h.each u inside
        ∙ times_false (is_at k u) (word_of k) box n (numbers c) none
  ];
}

-- words of at most so many colors fit
pub word_few : (k w : ℕ) (c : List ℕ) → w ≡ word_of k c → AreBytes c → w ≤ 281479254900991
word_few k w c e bytes = omega (arith, e, bytes (other k), bytes (another k))

pub words_room : (n w m len : ℕ) → w ≤ 281479254900991 → m ≤ 281479254900991 * len → len + n ≤ 65535 → m + n * w < 2 ^ 64
words_room n w m len few less room = omega (arith, mul-le n w n 281479254900991 (omega arith) few)

-- sums and those of a color that stands so often are few
pub few_times : (p : List ℕ → Bool) (box : List (List ℕ)) (n : ℕ) (c : Color) (s t : Sums) → All AreBytes box → AreSums p box s → AreBytes (numbers c)
    → t.count ≡ n → t.red ≡ n * c.red → t.green ≡ n * c.green → t.blue ≡ n * c.blue
    → (s.red + t.red ≤ 255 * (s.count + t.count)) × (s.green + t.green ≤ 255 * (s.count + t.count)) × (s.blue + t.blue ≤ 255 * (s.count + t.count))
few_times p box n c s t bytes h own count red green blue =
    let few = are_few p box s bytes h in (
      omega (arith, count, red, few.0, mul-le n c.red n 255 (omega arith) (own 0)),
      omega (arith, count, green, few.1, mul-le n c.green n 255 (omega arith) (own 1)),
      omega (arith, count, blue, few.2, mul-le n c.blue n 255 (omega arith) (own 2)),
    )

-- the best place of the colors of items
pub best_place : (items : List (List ℕ)) (best : Option Place) → All (IsItem 3) items → IsBestUpTo (spread 3 items) 3 0 best
    → MatchOption best (CannotBeCutBy 3 items) (λ place. HasBestBy 3 (weigh_items 3 weight) items place.channel place.value place.gain)
best_place items best are h = place_of_items 3 weight items best are (best_of_all (spread 3 items) best h)

-- one item alone can't be cut
pub one_item : (pairs : List (List Color)) → length pairs < 2 → CannotBeCutBy 3 (pair_items numbers pairs)
one_item pairs few = one_alone (pair_items numbers pairs) (omega (arith, few, length-map pairs (λ pair. item_of (map numbers pair))))

-- some items have a color
pub colors_some : (pairs : List (List Color)) → 0 < length pairs → All (IsItem 3) (pair_items numbers pairs)
    → 0 < length (spread 3 (pair_items numbers pairs))
colors_some pairs some are =
    some_spread 3 (pair_items numbers pairs) are (omega (arith, some, length-map pairs (λ pair. item_of (map numbers pair))))

-- what a search for the best place of a box of items knows of their colors
module _ (pairs : List (List Color)) (some : 0 < length pairs) (are : All (IsItem 3) (pair_items numbers pairs))
    (bytes : All AreBytes (spread 3 (pair_items numbers pairs))) where
  pub known : {P : Type 0} (sums : P → ℕ → List (List ℕ) → Type 0) (parts : P) (k first : ℕ) (all : Sums)
      → All (λ x. first ≤ get_or x k 0) (spread 3 (pair_items numbers pairs)) → sums parts k (spread 3 (pair_items numbers pairs))
      → AreSums (λ color. true) (spread 3 (pair_items numbers pairs)) all → HasSums sums parts k first all (spread 3 (pair_items numbers pairs))
  known sums parts k first all least each whole = record {
    some = colors_some pairs some are;
    least = least;
    each = each;
    whole = whole;
    bytes = bytes;
  }

-- words of a block
pub block_words : (pairs : List (List Color)) (k : ℕ) (words : List ℕ) → sum_by (times_of 3) (pair_items numbers pairs) ≤ 65535
    → All AreBytes (spread 3 (pair_items numbers pairs)) → AreWords k (spread 3 (pair_items numbers pairs)) words
    → AreBlockWords words k (spread 3 (pair_items numbers pairs))
block_words pairs k words few bytes are =
    let short : length (spread 3 (pair_items numbers pairs)) ≤ 65535 = omega (arith, few, length-spread 3 (pair_items numbers pairs)) in
    (short, bytes, are)

-- a block of items behind those so far
module _ (pairs : List (List Color)) (start n : ℕ) (inside : n ≤ length (take (length pairs - start) (drop start pairs))) where
  abbrev pub block : List (List Color)
  block = take n (take (length pairs - start) (drop start pairs))

  pub block_length : length block ≡ n
  block_length = length-take-le n (take (length pairs - start) (drop start pairs)) inside

  pub block_within : start ≤ length pairs → start + length block ≤ length pairs
  block_within within =
      omega (arith, within, block_length, inside, length-take (length pairs - start) (drop start pairs), length-drop start pairs)

  pub block_few : sum_by (times_of 3) (take n (pair_items numbers (take (length pairs - start) (drop start pairs)))) ≤ 65535
      → sum_by (times_of 3) (pair_items numbers block) ≤ 65535
  block_few few =
      subst (λ l. sum_by (times_of 3) l ≤ 65535)
      (take-map (λ pair. item_of (map numbers pair)) n (take (length pairs - start) (drop start pairs))) few

  pub block_grown : spread 3 (take (start + length block) (pair_items numbers pairs))
      ≡ spread 3 (take start (pair_items numbers pairs)) ++ spread 3 (pair_items numbers block)
  block_grown =
      let items = pair_items numbers pairs in
      let all : drop start pairs ≡ take (length pairs - start) (drop start pairs) =
      sym (take_all (length pairs - start) (drop start pairs) (omega (arith, length-drop start pairs))) in
      let rest : take n (drop start (pair_items numbers pairs)) ≡ pair_items numbers block =
      ap (take n) (drop-map (λ pair. item_of (map numbers pair)) start pairs) ∙ take-map (λ pair. item_of (map numbers pair)) n (drop start pairs)
      ∙ ap (λ l. pair_items numbers (take n l)) all in
      ap (λ k. spread 3 (take (start + k) items)) block_length ∙ ap (spread 3) (take-add start n items ∙ ap (λ l. take start items ++ l) rest)
      ∙ spread-append 3 (take start items) (pair_items numbers block)

  pub block_fits : sum_by (times_of 3) (pair_items numbers pairs) < 2 ^ 64
      → length (spread 3 (take start (pair_items numbers pairs))) + length (spread 3 (pair_items numbers block)) < 2 ^ 64
  block_fits few =
      let items = pair_items numbers pairs in
      omega (
        arith,
        few,
        ap length block_grown,
        length-append (spread 3 (take start (pair_items numbers pairs))) (spread 3 (pair_items numbers block)),
        length-spread 3 (take (start + length block) items),
        sum_by-take-le (times_of 3) items (start + length block),
      )

pub colors_fit : (pairs : List (List Color)) → sum_by (times_of 3) (pair_items numbers pairs) < 2 ^ 64 → length (spread 3 (pair_items numbers pairs)) < 2 ^ 64
colors_fit pairs few = omega (arith, few, length-spread 3 (pair_items numbers pairs))
