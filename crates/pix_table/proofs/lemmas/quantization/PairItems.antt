-- Pairs of a color and its count, as items: one pair more, and the list that sums tell.
use Rattle.std.proofs.Common.{◌≡◌, ℕ, zero, suc, ◌+◌, ◌-◌, ◌*◌, ◌/◌, ◌<◌, ◌≤◌, Bool, true, false, cond, List, [], ◌∷◌, ◌++◌, length, map, take, drop, set, get_or, sum_by, nat_lt, All, IsPermutation, bytes_eq, refl, arith, sym, ap, ◌∙◌, subst, inl, inr, lt-ltb, take_all, length-append, length-take}
use Rattle.std.specs.List.{flat_map}
use Rattle.std.specs.Simd.{first_chunks}
use Rattle.std.proofs.lemmas.Bool.{cases_Bool}
use Rattle.std.proofs.lemmas.List.{map-append, length-map, take-append-le, get_or-append_right, get_or-map}
use Rattle.std.proofs.lemmas.List.Elements.{All-push}
use Rattle.std.proofs.lemmas.List.Sorted.{IsPermutation-refl, IsPermutation-cons, IsPermutation-middle, IsPermutation-sym, IsPermutation-trans, length_permutation, sum_by-IsPermutation, sum_by_popped}
use Rattle.std.proofs.lemmas.List.Sums.{sum_by-cons, sum_by_more, sum_by_push}
use Rattle.std.proofs.lemmas.Slice.Eq.{bytes_eq-Decides}
use Rattle.pix_table.specs.quantization.Items.{AreItemsOf, IsItem, count_of, item_color, item_count, item_of, item_sum, pair_items, spread, times_of}
use Rattle.pix_table.proofs.lemmas.quantization.ItemLists.{length-spread, sum_by-spread}
use Rattle.pix_table.proofs.lemmas.quantization.ItemSums.{item_next}
use Rattle.pix_table.proofs.lemmas.quantization.SumLemmas.{length_sum}

-- one pair more is written behind others
chunks_more : {X : Type 0} (n : ℕ) (xs : List X) (c m : X) → 2 * n + 2 ≤ length xs
    → first_chunks 2 (n + 1) (set (set xs (2 * n) c) (2 * n + 1) m) ≡ first_chunks 2 n xs ++ (c ∷ m ∷ []) ∷ []
chunks_more zero [] c m inside = absurd (omega arith)
chunks_more zero (a ∷ []) c m inside = absurd (omega arith)
chunks_more zero (a ∷ b ∷ xs) c m inside = refl
chunks_more (suc n) [] c m inside = absurd (omega arith)
chunks_more (suc n) (a ∷ []) c m inside = absurd (omega arith)
chunks_more (suc n) (a ∷ b ∷ xs) c m inside =
    let first : 2 * suc n ≡ suc (suc (2 * n)) = omega arith in
    let second : 2 * suc n + 1 ≡ suc (suc (2 * n + 1)) = omega arith in
    let many : suc n + 1 ≡ suc (n + 1) = omega arith in
    ap (λ i. first_chunks 2 (suc n + 1) (set (set (a ∷ b ∷ xs) i c) (2 * suc n + 1) m)) first
    ∙ ap (λ i. first_chunks 2 (suc n + 1) (set (a ∷ b ∷ set xs (2 * n) c) i m)) second
    ∙ ap (λ k. first_chunks 2 k (a ∷ b ∷ set (set xs (2 * n) c) (2 * n + 1) m)) many
    ∙ ap (λ l. (a ∷ b ∷ []) ∷ l) (chunks_more n xs c m (omega arith))

pub pairs_more : {X : Type 0} (numbers : X → List ℕ) (n : ℕ) (xs : List X) (c m : X) → 2 * n + 2 ≤ length xs
    → pair_items numbers (first_chunks 2 (n + 1) (set (set xs (2 * n) c) (2 * n + 1) m))
    ≡ pair_items numbers (first_chunks 2 n xs) ++ (numbers c ++ count_of (numbers m) ∷ []) ∷ []
pairs_more numbers n xs c m inside =
    ap (pair_items numbers) (chunks_more n xs c m inside)
    ∙ map-append (λ pair. item_of (map numbers pair)) (first_chunks 2 n xs) ((c ∷ m ∷ []) ∷ [])

-- an item as its color and its count
module _ (channels n : ℕ) (color : List ℕ) (long : length color ≡ channels) where
  pub times_same : times_of channels (color ++ n ∷ []) ≡ n
  times_same =
      let none : channels - channels ≡ 0 = omega arith in
      get_or-append_right color (n ∷ []) channels channels 0 long (omega arith) ∙ ap (λ i. get_or (n ∷ []) i 0) none

  pub color_same : take channels (color ++ n ∷ []) ≡ color
  color_same = take-append-le channels color (n ∷ []) (omega (arith, long)) ∙ take_all channels color (omega (arith, long))

  is_item : 0 < n → IsItem channels (color ++ n ∷ [])
  is_item some = record { long = omega (arith, long, length-append color (n ∷ [])); some = omega (arith, some, times_same) }

-- one item more
pub items_more : (channels n : ℕ) (items : List (List ℕ)) (color : List ℕ) → length color ≡ channels → 0 < n → All (IsItem channels) items
    → All (IsItem channels) (items ++ (color ++ n ∷ []) ∷ [])
items_more channels n items color long some are = All-push (IsItem channels) items (color ++ n ∷ []) are (is_item channels n color long some)

pub sum_more : (channels n : ℕ) (items : List (List ℕ)) (color : List ℕ) → length color ≡ channels → (f : List ℕ → ℕ)
    → sum_by f (spread channels (items ++ (color ++ n ∷ []) ∷ [])) ≡ sum_by f (spread channels items) + n * f color
sum_more channels n items color long f =
    let item = color ++ n ∷ [] in
    let one : times_of channels (color ++ n ∷ []) * f (take channels (color ++ n ∷ [])) ≡ n * f color =
    ap (λ t. t * f (take channels (color ++ n ∷ []))) (times_same channels n color long) ∙ ap (λ c. n * f c) (color_same channels n color long) in
    sum_by-spread channels f (items ++ item ∷ [])
    ∙ sum_by_push (λ i. times_of channels i * f (take channels i)) items item
    ∙ ap (λ s. s + times_of channels item * f (take channels item)) (sym (sum_by-spread channels f items))
    ∙ ap (λ t. sum_by f (spread channels items) + t) one

-- colors whose sums are the same are the same, in some order
abbrev is_one : List ℕ → List ℕ → ℕ
is_one x y = cond (bytes_eq y x) 1 0

found : (x : List ℕ) (ys : List (List ℕ)) → 0 < sum_by (is_one x) ys → (zs : List (List ℕ)) × IsPermutation ys (x ∷ zs)
found x [] some = absurd (omega arith)
found x (y ∷ ys) some = elim (cases_Bool (bytes_eq y x)) [
  | inl here ↦
      (ys, subst (λ c. IsPermutation (y ∷ ys) (c ∷ ys)) ((bytes_eq-Decides y x).0 here) (IsPermutation-refl (y ∷ ys)))
  | inr other ↦
      let none : is_one x y ≡ 0 = ap (λ b. cond b 1 0) other in
      let rest = found x ys (omega (arith, some, none, sum_by-cons (is_one x) y ys)) in (
        y ∷ rest.0,
        IsPermutation-trans (y ∷ ys) (y ∷ x ∷ rest.0) (x ∷ y ∷ rest.0) (IsPermutation-cons y ys (x ∷ rest.0) rest.1)
            (IsPermutation-middle (y ∷ []) x rest.0),
      )
]

pub same_sums : (xs ys : List (List ℕ)) → ((f : List ℕ → ℕ) → sum_by f xs ≡ sum_by f ys) → IsPermutation xs ys
same_sums [] [] same = IsPermutation-refl []
same_sums [] (y ∷ ys) same = absurd (omega (arith, same (λ c. 1), length_sum (y ∷ ys)))
same_sums (x ∷ xs) ys same =
    let one : is_one x x ≡ 1 = ap (λ b. cond b 1 0) ((bytes_eq-Decides x x).1 refl) in
    let rest = found x ys (omega (arith, same (is_one x), one, sum_by-cons (is_one x) x xs)) in
    let less : (f : List ℕ → ℕ) → sum_by f xs ≡ sum_by f rest.0 =
    (λ f. omega (arith, same f, sum_by-cons f x xs, sum_by_popped f x ys rest.0 rest.1)) in
    IsPermutation-trans (x ∷ xs) (x ∷ rest.0) ys (IsPermutation-cons x xs rest.0 (same_sums xs rest.0 less))
    (IsPermutation-sym ys (x ∷ rest.0) rest.1)

-- the first of some pairs
chunks_taken : {X : Type 0} (n k : ℕ) (xs : List X) → n ≤ k → take n (first_chunks 2 k xs) ≡ first_chunks 2 n xs
chunks_taken zero k xs few = refl
chunks_taken (suc n) zero xs few = absurd (omega arith)
chunks_taken (suc n) (suc k) xs few = ap (λ l. take 2 xs ∷ l) (chunks_taken n k (drop 2 xs) (omega arith))

pub pairs_taken : {X : Type 0} (numbers : X → List ℕ) (pairs : ℕ) (colors : List X) (chunks : List (List X))
    → chunks ≡ first_chunks 2 (length colors / 2) colors → 2 * pairs ≤ length colors
    → pair_items numbers (take pairs chunks) ≡ pair_items numbers (first_chunks 2 pairs colors)
pairs_taken numbers pairs colors chunks front inside =
    ap (pair_items numbers) (ap (take pairs) front ∙ chunks_taken pairs (length colors / 2) colors (omega (arith, inside)))

-- pairs one after the other, color by color
flat_at : {X : Type 0} (numbers : X → List ℕ) (xs : List (List X)) → ((i : ℕ) → i < length xs → length (get_or xs i []) ≡ 2) → (k j : ℕ) → k < length xs
    → j < 2 → get_or (map numbers (flat_map (λ x. x) xs)) (2 * k + j) [] ≡ get_or (map numbers (get_or xs k [])) j []
flat_at numbers [] told k j inside few = absurd (omega arith)
flat_at numbers ([] ∷ xs) told k j inside few = absurd (omega (arith, told 0 (omega arith)))
flat_at numbers ((a ∷ []) ∷ xs) told k j inside few = absurd (omega (arith, told 0 (omega arith)))
flat_at numbers ((a ∷ b ∷ c ∷ p) ∷ xs) told k j inside few = absurd (omega (arith, told 0 (omega arith)))
flat_at numbers ((a ∷ b ∷ []) ∷ xs) told zero zero inside few = refl
flat_at numbers ((a ∷ b ∷ []) ∷ xs) told zero (suc zero) inside few = refl
flat_at numbers ((a ∷ b ∷ []) ∷ xs) told zero (suc (suc j)) inside few = absurd (omega arith)
flat_at numbers ((a ∷ b ∷ []) ∷ xs) told (suc k) j inside few =
    let at : 2 * suc k + j ≡ suc (suc (2 * k + j)) = omega arith in
    ap (λ i. get_or (map numbers (a ∷ b ∷ flat_map (λ x. x) xs)) i []) at
    ∙ flat_at numbers xs (λ i h. told (suc i) (omega (arith, h))) k j (omega arith) few

-- their items are those of the colors
module _ {X : Type 0} (numbers : X → List ℕ) (channels : ℕ) (xs : List (List X)) (told : (i : ℕ) → i < length xs → length (get_or xs i []) ≡ 2)
    (are : All (IsItem channels) (pair_items numbers xs)) where
  abbrev flat : List (List ℕ)
  flat = map numbers (flat_map (λ x. x) xs)

  first_items : (f : List ℕ → ℕ) (k : ℕ) → k ≤ length xs
      → item_sum f (map numbers (flat_map (λ x. x) xs)) (length xs) k
      ≡ sum_by (λ item. times_of channels item * f (take channels item)) (take k (pair_items numbers xs))
  first_items f zero few = refl
  first_items f (suc k) few =
      let n = length xs in
      let items = pair_items numbers xs in
      let color = get_or (map numbers (get_or xs k [])) 0 [] in
      let count = count_of (get_or (map numbers (get_or xs k [])) 1 []) in
      let e : suc k ≡ k + 1 = omega arith in
      let here : nat_lt k (length xs) ≡ true = lt-ltb k n (omega arith) in
      let zeroth : 2 * k ≡ 2 * k + 0 = omega arith in
      let often : item_count (map numbers (flat_map (λ x. x) xs)) (length xs) k ≡ count_of (get_or (map numbers (get_or xs k [])) 1 []) =
      ap (λ b. cond b (count_of (get_or flat (2 * k + 1) [])) 1) here ∙ ap count_of (flat_at numbers xs told k 1 (omega arith) (omega arith)) in
      let is : item_color (map numbers (flat_map (λ x. x) xs)) (length xs) k ≡ get_or (map numbers (get_or xs k [])) 0 [] =
      ap (λ b. cond b (get_or flat (2 * k) []) (get_or flat (n + k) [])) here ∙ ap (λ i. get_or flat i []) zeroth
      ∙ flat_at numbers xs told k 0 (omega arith) (omega arith) in
      let item : get_or (pair_items numbers xs) k []
      ≡ get_or (map numbers (get_or xs k [])) 0 [] ++ count_of (get_or (map numbers (get_or xs k [])) 1 []) ∷ [] =
      get_or-map (λ pair. item_of (map numbers pair)) xs k [] [] (omega arith) in
      let long : length (get_or (map numbers (get_or xs k [])) 0 []) ≡ channels =
      omega (arith, ap length item, (are k [] (omega (arith, length-map xs (λ pair. item_of (map numbers pair))))).long, length-append color (count ∷ [])) in
      let one : times_of channels (get_or (pair_items numbers xs) k []) * f (take channels (get_or (pair_items numbers xs) k []))
      ≡ count_of (get_or (map numbers (get_or xs k [])) 1 []) * f (get_or (map numbers (get_or xs k [])) 0 []) =
      ap (λ i. times_of channels i * f (take channels i)) item
      ∙ ap (λ t. t * f (take channels (color ++ count ∷ []))) (times_same channels count color long)
      ∙ ap (λ c. count * f c) (color_same channels count color long) in
      ap (item_sum f flat n) e ∙ item_next f flat n k count color often is
      ∙ ap (λ s. s + count * f color) (first_items f k (omega arith))
      ∙ ap (λ t. sum_by (λ i. times_of channels i * f (take channels i)) (take k items) + t) (sym one)
      ∙ sym (sum_by_more (λ i. times_of channels i * f (take channels i)) items k []
      (omega (arith, length-map xs (λ pair. item_of (map numbers pair)))))
      ∙ ap (λ m. sum_by (λ i. times_of channels i * f (take channels i)) (take m items)) (sym e)

  pub items_of_pairs : (all : List (List ℕ)) → IsPermutation all (spread channels (pair_items numbers xs))
      → AreItemsOf all (map numbers (flat_map (λ x. x) xs)) (length xs) 0
  items_of_pairs all moved f =
      let n = length xs in
      let items = pair_items numbers xs in
      let none : length xs ≡ length xs + 0 = omega arith in
      sym (sum_by-IsPermutation f all (spread channels items) moved) ∙ sum_by-spread channels f items
      ∙ ap (sum_by (λ i. times_of channels i * f (take channels i)))
      (sym (take_all n items (omega (arith, length-map xs (λ pair. item_of (map numbers pair))))))
      ∙ sym (first_items f n (omega arith)) ∙ ap (item_sum f flat n) none

-- how many colors there are in all, and that there is a pair where there is one
pub times_in_all : (channels : ℕ) (colors items : List (List ℕ)) → IsPermutation colors (spread channels items) → sum_by (times_of channels) items ≡ length colors
times_in_all channels colors items moved = sym (length-spread channels items) ∙ length_permutation colors (spread channels items) moved

pub some_pairs : {X : Type 0} (numbers : X → List ℕ) (channels pairs : ℕ) (xs : List X) (colors : List (List ℕ))
    → IsPermutation colors (spread channels (pair_items numbers (first_chunks 2 pairs xs))) → 0 < length colors → 0 < pairs
some_pairs numbers channels zero xs colors moved some = absurd (omega (arith, some, length_permutation colors [] moved))
some_pairs numbers channels (suc pairs) xs colors moved some = omega arith
