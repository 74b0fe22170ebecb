-- Sums of what a function makes of items, and of colors that are counted.
use Rattle.std.proofs.Common.{◌≡◌, ◌≢◌, ℕ, zero, suc, ◌+◌, ◌*◌, ◌<◌, ◌≤◌, true, false, cond, List, [], length, take, drop, set, get_or, nat_lt, sum_by, refl, arith, sym, ap, ◌∙◌, subst, inl, inr, lt-ltb, le-ltb, length-set}
use Rattle.std.proofs.lemmas.Bool.{cases_lt, cases_eq}
use Rattle.std.proofs.lemmas.List.{get_or-set_same, get_or-set_other}
use Rattle.std.proofs.lemmas.List.Sums.{sum_by_more, sum_by-drop_more}
use Rattle.std.proofs.lemmas.Nat.{mul-le}
use Rattle.pix_table.specs.quantization.Items.{count_of, counted_sum, item_color, item_count, item_sum}
use Rattle.pix_table.specs.declared.quantization.items.ColorCount.{ColorCount}

-- one item more
pub item_next : (f : List ℕ → ℕ) (colors : List (List ℕ)) (p k n : ℕ) (c : List ℕ) → item_count colors p k ≡ n → item_color colors p k ≡ c
    → item_sum f colors p (k + 1) ≡ item_sum f colors p k + n * f c
item_next f colors p k n c often is =
    let e : k + 1 ≡ suc k = omega arith in
    ap (item_sum f colors p) e ∙ ap (λ m. item_sum f colors p k + m * f (item_color colors p k)) often
    ∙ ap (λ x. item_sum f colors p k + n * f x) is

-- a function that is nowhere greater has no greater sum, and more items have no lesser one
pub item_sum_le : (f g : List ℕ → ℕ) (colors : List (List ℕ)) (p n : ℕ) → ((c : List ℕ) → f c ≤ g c) → item_sum f colors p n ≤ item_sum g colors p n
item_sum_le f g colors p zero h = omega arith
item_sum_le f g colors p (suc n) h =
    let one : item_count colors p n * f (item_color colors p n) ≤ item_count colors p n * g (item_color colors p n) =
    mul-le (item_count colors p n) (f (item_color colors p n)) (item_count colors p n) (g (item_color colors p n)) (omega arith) (h (item_color colors p n)) in
    omega (arith, one, item_sum_le f g colors p n h)

pub item_sum_grows : (f : List ℕ → ℕ) (colors : List (List ℕ)) (p k n : ℕ) → k ≤ n → item_sum f colors p k ≤ item_sum f colors p n
item_sum_grows f colors p k zero h =
    let e : k ≡ 0 = omega arith in
    subst (λ m. item_sum f colors p m ≤ 0) (sym e) (omega arith)
item_sum_grows f colors p k (suc n) h = elim (cases_lt k (suc n)) [
  | inl l ↦
      let before : item_sum f colors p k ≤ item_sum f colors p n = item_sum_grows f colors p k n (omega arith) in
      omega (arith, before)
  | inr l ↦
      let e : k ≡ suc n = omega arith in
      subst (λ m. item_sum f colors p k ≤ item_sum f colors p m) e (omega arith)
]

-- the sums of pairs, and of colors that count one
abbrev pair_sum : (f : List ℕ → ℕ) (colors : List (List ℕ)) → ℕ → ℕ
pair_sum f colors zero = 0
pair_sum f colors (suc n) = pair_sum f colors n + count_of (get_or colors (2 * n + 1) []) * f (get_or colors (2 * n) [])

abbrev single_sum : (f : List ℕ → ℕ) (colors : List (List ℕ)) (from : ℕ) → ℕ → ℕ
single_sum f colors from zero = 0
single_sum f colors from (suc n) = single_sum f colors from n + f (get_or colors (from + n) [])

-- the first items are pairs, and the others are not
first_items : (f : List ℕ → ℕ) (colors : List (List ℕ)) (p n : ℕ) → n ≤ p → item_sum f colors p n ≡ pair_sum f colors n
first_items f colors p zero h = refl
first_items f colors p (suc n) h =
    let here : nat_lt n p ≡ true = lt-ltb n p (omega arith) in
    ap (λ b. item_sum f colors p n + cond b (count_of (get_or colors (2 * n + 1) [])) 1 * f (cond b (get_or colors (2 * n) []) (get_or colors (p + n) []))) here
    ∙ ap (λ s. s + count_of (get_or colors (2 * n + 1) []) * f (get_or colors (2 * n) [])) (first_items f colors p n (omega arith))

pub parted_items : (f : List ℕ → ℕ) (colors : List (List ℕ)) (p s : ℕ) → item_sum f colors p (p + s) ≡ pair_sum f colors p + single_sum f colors (2 * p) s
parted_items f colors p zero =
    let e : p + 0 ≡ p = omega arith in
    let none : pair_sum f colors p ≡ pair_sum f colors p + 0 = omega arith in
    ap (item_sum f colors p) e ∙ first_items f colors p p (omega arith) ∙ none
parted_items f colors p (suc s) =
    let e : p + suc s ≡ p + s + 1 = omega arith in
    let here : nat_lt (p + s) p ≡ false = le-ltb (p + s) p (omega arith) in
    let at : p + (p + s) ≡ 2 * p + s = omega arith in
    let often : item_count colors p (p + s) ≡ 1 = ap (λ b. cond b (count_of (get_or colors (2 * (p + s) + 1) [])) 1) here in
    let is : item_color colors p (p + s) ≡ get_or colors (2 * p + s) [] =
    ap (λ b. cond b (get_or colors (2 * (p + s)) []) (get_or colors (p + (p + s)) [])) here ∙ ap (λ i. get_or colors i []) at in
    let grown : item_sum f colors p (p + suc s) ≡ item_sum f colors p (p + s) + 1 * f (get_or colors (2 * p + s) []) =
    ap (item_sum f colors p) e ∙ item_next f colors p (p + s) 1 (get_or colors (2 * p + s) []) often is in
    let more : single_sum f colors (2 * p) (suc s) ≡ single_sum f colors (2 * p) s + f (get_or colors (2 * p + s) []) = refl in
    omega (arith, grown, more, parted_items f colors p s)

-- colors that count one
pub all_single : (f : List ℕ → ℕ) (colors : List (List ℕ)) (n : ℕ) → n ≤ length colors → item_sum f colors 0 n ≡ sum_by f (take n colors)
all_single f colors zero h = refl
all_single f colors (suc n) h =
    let e : suc n ≡ n + 1 = omega arith in
    let here : nat_lt n 0 ≡ false = le-ltb n 0 (omega arith) in
    let at : 0 + n ≡ n = omega arith in
    let often : item_count colors 0 n ≡ 1 = ap (λ b. cond b (count_of (get_or colors (2 * n + 1) [])) 1) here in
    let is : item_color colors 0 n ≡ get_or colors n [] =
    ap (λ b. cond b (get_or colors (2 * n) []) (get_or colors (0 + n) [])) here ∙ ap (λ i. get_or colors i []) at in
    let grown : item_sum f colors 0 (suc n) ≡ item_sum f colors 0 n + 1 * f (get_or colors n []) =
    ap (item_sum f colors 0) e ∙ item_next f colors 0 n 1 (get_or colors n []) often is in
    let more : sum_by f (take (suc n) colors) ≡ sum_by f (take n colors) + f (get_or colors n []) =
    ap (λ m. sum_by f (take m colors)) e ∙ sum_by_more f colors n [] (omega arith) in
    omega (arith, grown, more, all_single f colors n (omega arith))

-- the same colors have the same sums
pair_same : (f : List ℕ → ℕ) (xs ys : List (List ℕ)) (n : ℕ) → ((k : ℕ) → k < 2 * n → get_or xs k [] ≡ get_or ys k []) → pair_sum f xs n ≡ pair_sum f ys n
pair_same f xs ys zero h = refl
pair_same f xs ys (suc n) h =
    ap (λ s. s + count_of (get_or xs (2 * n + 1) []) * f (get_or xs (2 * n) [])) (pair_same f xs ys n (λ k b. h k (omega arith)))
    ∙ ap (λ c. pair_sum f ys n + count_of c * f (get_or xs (2 * n) [])) (h (2 * n + 1) (omega arith))
    ∙ ap (λ c. pair_sum f ys n + count_of (get_or ys (2 * n + 1) []) * f c) (h (2 * n) (omega arith))

single_same : (f : List ℕ → ℕ) (xs ys : List (List ℕ)) (from n : ℕ) → ((k : ℕ) → from ≤ k → k < from + n → get_or xs k [] ≡ get_or ys k [])
    → single_sum f xs from n ≡ single_sum f ys from n
single_same f xs ys from zero h = refl
single_same f xs ys from (suc n) h =
    ap (λ s. s + f (get_or xs (from + n) [])) (single_same f xs ys from n (λ k a b. h k a (omega arith)))
    ∙ ap (λ c. single_sum f ys from n + f c) (h (from + n) (omega arith) (omega arith))

-- the first color is behind the others
shifted : (f : List ℕ → ℕ) (xs : List (List ℕ)) (from n : ℕ)
    → single_sum f xs (from + 1) n + f (get_or xs from []) ≡ single_sum f xs from n + f (get_or xs (from + n) [])
shifted f xs from zero =
    let e : from ≡ from + 0 = omega arith in
    ap (λ i. 0 + f (get_or xs i [])) e
shifted f xs from (suc n) =
    let e : from + 1 + n ≡ from + suc n = omega arith in
    let high : single_sum f xs (from + 1) (suc n) ≡ single_sum f xs (from + 1) n + f (get_or xs (from + 1 + n) []) = refl in
    let low : single_sum f xs from (suc n) ≡ single_sum f xs from n + f (get_or xs (from + n) []) = refl in
    omega (arith, high, low, shifted f xs from n, ap (λ i. f (get_or xs i [])) e)

rolled : (f : List ℕ → ℕ) (xs ys : List (List ℕ)) (from n : ℕ) → from + n < length xs → ys ≡ set xs (from + n) (get_or xs from [])
    → single_sum f ys (from + 1) n ≡ single_sum f xs from n
rolled f xs ys from n inside e =
    let other : (k : ℕ) → k ≢ from + n → get_or ys k [] ≡ get_or xs k [] =
    (λ k apart. ap (λ l. get_or l k []) e ∙ get_or-set_other xs (from + n) k (get_or xs from []) [] apart) in
    let same : single_sum f ys from n ≡ single_sum f xs from n = single_same f ys xs from n (λ k a b. other k (λ q. omega arith)) in
    let last : get_or ys (from + n) [] ≡ get_or xs from [] =
    ap (λ l. get_or l (from + n) []) e ∙ get_or-set_same xs (from + n) (get_or xs from []) [] inside in
    let first : get_or ys from [] ≡ get_or xs from [] = elim (cases_eq from (from + n)) [
      | inl q ↦ ap (λ i. get_or ys i []) q ∙ last
      | inr apart ↦ other from apart
    ] in
    omega (arith, shifted f ys from n, same, ap f last, ap f first)

-- one color more that counts one
pub single_put : (f : List ℕ → ℕ) (xs ys : List (List ℕ)) (p s : ℕ) (c : List ℕ) → 2 * p + s < length xs → ys ≡ set xs (2 * p + s) c
    → item_sum f ys p (p + (s + 1)) ≡ item_sum f xs p (p + s) + f c
single_put f xs ys p s c inside e =
    let other : (k : ℕ) → k ≢ 2 * p + s → get_or ys k [] ≡ get_or xs k [] =
    (λ k apart. ap (λ l. get_or l k []) e ∙ get_or-set_other xs (2 * p + s) k c [] apart) in
    let pairs : pair_sum f ys p ≡ pair_sum f xs p = pair_same f ys xs p (λ k b. other k (λ q. omega arith)) in
    let before : single_sum f ys (2 * p) s ≡ single_sum f xs (2 * p) s = single_same f ys xs (2 * p) s (λ k a b. other k (λ q. omega arith)) in
    let last : get_or ys (2 * p + s) [] ≡ c = ap (λ l. get_or l (2 * p + s) []) e ∙ get_or-set_same xs (2 * p + s) c [] inside in
    let n : s + 1 ≡ suc s = omega arith in
    let more : single_sum f ys (2 * p) (s + 1) ≡ single_sum f ys (2 * p) s + f (get_or ys (2 * p + s) []) = ap (single_sum f ys (2 * p)) n in
    omega (arith, parted_items f ys p (s + 1), parted_items f xs p s, pairs, before, more, ap f last)

-- one pair more: the first two of the colors that count one stand behind the others, and the pair in their place
module _ (xs us vs ws ys : List (List ℕ)) (p s : ℕ) (c n : List ℕ) (inside : 2 * p + s + 2 ≤ length xs)
    (first : us ≡ set xs (2 * p + s) (get_or xs (2 * p) [])) (second : vs ≡ set us (2 * p + 1 + s) (get_or us (2 * p + 1) []))
    (third : ws ≡ set vs (2 * p) c) (last : ys ≡ set ws (2 * p + 1) n) where
  long_us : length us ≡ length xs
  long_us = ap length first ∙ length-set xs (2 * p + s) (get_or xs (2 * p) [])

  long_vs : length vs ≡ length xs
  long_vs = ap length second ∙ length-set us (2 * p + 1 + s) (get_or us (2 * p + 1) []) ∙ long_us

  long_ws : length ws ≡ length xs
  long_ws = ap length third ∙ length-set vs (2 * p) c ∙ long_vs

  outside : (k : ℕ) → k ≢ 2 * p → k ≢ 2 * p + 1 → get_or ys k [] ≡ get_or vs k []
  outside k low high =
      ap (λ l. get_or l k []) last ∙ get_or-set_other ws (2 * p + 1) k n [] high
      ∙ ap (λ l. get_or l k []) third ∙ get_or-set_other vs (2 * p) k c [] low

  not_moved : (k : ℕ) → k ≢ 2 * p + s → k ≢ 2 * p + 1 + s → get_or vs k [] ≡ get_or xs k []
  not_moved k low high =
      ap (λ l. get_or l k []) second ∙ get_or-set_other us (2 * p + 1 + s) k (get_or us (2 * p + 1) []) [] high
      ∙ ap (λ l. get_or l k []) first ∙ get_or-set_other xs (2 * p + s) k (get_or xs (2 * p) []) [] low

  pub pair_rest : (k : ℕ) → 2 * p + s + 2 ≤ k → get_or ys k [] ≡ get_or xs k []
  pair_rest k h = outside k (λ q. omega arith) (λ q. omega arith) ∙ not_moved k (λ q. omega arith) (λ q. omega arith)

  pub pair_put : (f : List ℕ → ℕ) → item_sum f ys (p + 1) (p + 1 + s) ≡ item_sum f xs p (p + s) + count_of n * f c
  pair_put f =
      let pairs : pair_sum f ys p ≡ pair_sum f xs p =
      pair_same f ys xs p (λ k b. outside k (λ q. omega arith) (λ q. omega arith) ∙ not_moved k (λ q. omega arith) (λ q. omega arith)) in
      let color : get_or ys (2 * p) [] ≡ c =
      ap (λ l. get_or l (2 * p) []) last ∙ get_or-set_other ws (2 * p + 1) (2 * p) n [] (λ q. omega arith)
      ∙ ap (λ l. get_or l (2 * p) []) third ∙ get_or-set_same vs (2 * p) c [] (omega (arith, long_vs)) in
      let often : get_or ys (2 * p + 1) [] ≡ n =
      ap (λ l. get_or l (2 * p + 1) []) last ∙ get_or-set_same ws (2 * p + 1) n [] (omega (arith, long_ws)) in
      let e : p + 1 ≡ suc p = omega arith in
      let more : pair_sum f ys (p + 1) ≡ pair_sum f ys p + count_of n * f c =
      ap (pair_sum f ys) e ∙ ap (λ x. pair_sum f ys p + count_of x * f (get_or ys (2 * p) [])) often
      ∙ ap (λ x. pair_sum f ys p + count_of n * f x) color in
      let q : 2 * (p + 1) ≡ 2 * p + 1 + 1 = omega arith in
      let singles : single_sum f ys (2 * (p + 1)) s ≡ single_sum f xs (2 * p) s =
      ap (λ from. single_sum f ys from s) q
      ∙ single_same f ys vs (2 * p + 1 + 1) s (λ k a b. outside k (λ z. omega arith) (λ z. omega arith))
      ∙ rolled f us vs (2 * p + 1) s (omega (arith, long_us)) second ∙ rolled f xs us (2 * p) s (omega arith) first in
      omega (arith, parted_items f ys (p + 1) s, parted_items f xs p s, pairs, more, singles)

-- the color that the next place counts, and the others
pub counted_next : (key_color : ℕ → List ℕ) (f : List ℕ → ℕ) (counts : List ColorCount) (i : ℕ) (d : ColorCount) → i < length counts
    → counted_sum key_color f (drop i counts)
    ≡ (get_or counts i d).count * f (key_color (get_or counts i d).key) + counted_sum key_color f (drop (i + 1) counts)
counted_next key_color f counts i d inside = sum_by-drop_more (λ q. q.count * f (key_color q.key)) counts i d inside
