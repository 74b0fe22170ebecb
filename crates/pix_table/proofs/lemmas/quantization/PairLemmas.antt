-- Pairs of boxes that cost least, and what becomes of them where two boxes become one.
use Rattle.std.proofs.Common.{◌≡◌, ◌⊎◌, inl, inr, ℕ, zero, suc, ◌+◌, ◌-◌, ◌<◌, ◌≤◌, List, [], ◌∷◌, ◌++◌, cond, length, nat_lt, get_or, take, drop, set, sum_by, refl, append_assoc, arith, sym, ap, ap₂, ◌∙◌, subst, lt-ltb, le-ltb, length-append, length-drop, length-take, take-append-drop, IsPermutation}
use Rattle.std.specs.List.{flat_map}
use Rattle.std.proofs.lemmas.Bool.{cases_eq, cases_lt}
use Rattle.std.proofs.lemmas.List.{drop-drop, drop_more, get_or_append_left, get_or-append-add, get_or-set_same, get_or-set_other, get_or-take, length-set}
use Rattle.std.proofs.lemmas.List.Sums.{sum_by-cons, sum_by-append}
use Rattle.std.proofs.lemmas.List.Sorted.{IsPermutation-refl, IsPermutation-trans, IsPermutation-append_left, IsPermutation-append_right, IsPermutation-append_comm}
use Rattle.std.proofs.lemmas.Grind.{flat_map-append}
use Rattle.pix_table.specs.quantization.Places.{IsBefore}
use Rattle.pix_table.specs.quantization.Joins.{AreJoinedBy, IsNextPairBy, cost_at, cost_by, none, join}
use Rattle.pix_table.specs.quantization.Pairs.{AreGroupsOf, ArePairs, ArePairsWithout, IsBetter, IsEarlier, IsJoinOf, IsLeastAfter, IsPairOf, all_colors, join_at, skip}
use Rattle.pix_table.specs.declared.quantization.joins.Pair.{Pair}

-- the first place of a row behind another, and one place more
pub begun : (row : ℕ → ℕ) (from cost with : ℕ) → with ≡ from + 1 → row with ≡ cost → IsLeastAfter row from (from + 2) cost with
begun row from cost with e is = record {
  after = omega (arith, e);
  before = omega (arith, e);
  is = is;
  least = λ k a b. let here : row k ≡ row with = ap row (let same : k ≡ with = omega (arith, e) in same) in omega (arith, here, is);
  first = λ k a b. absurd (omega (arith, e));
}

pub grown : (row : ℕ → ℕ) (from to : ℕ) (best new : Pair) → IsLeastAfter row from to best.cost best.with → IsBetter best (row to) to new
    → IsLeastAfter row from (to + 1) new.cost new.with
grown row from to best new old (inl h) =
    subst (λ (p : Pair). IsLeastAfter row from (to + 1) p.cost p.with) (sym h.1) (record {
      after = old.after;
      before = omega (arith, old.before);
      is = old.is;
      least = λ k a b. elim (cases_eq k to) [
        | inl e ↦ omega (arith, ap row e, h.0)
        | inr n ↦ old.least k a (omega arith)
      ];
      first = old.first;
    })
grown row from to best new old (inr h) = record {
  after = omega (arith, h.2, old.after, old.before);
  before = omega (arith, h.2);
  is = ap row h.2 ∙ sym h.1;
  least = λ k a b. elim (cases_eq k to) [
    | inl e ↦ omega (arith, ap row e, h.1)
    | inr n ↦ omega (arith, h.1, h.0, old.least k a (omega arith))
  ];
  first = λ k a b. omega (arith, h.1, h.0, old.least k a (omega (arith, h.2)));
}

-- where a place was before one was taken away
pub skip_cases : (gone k : ℕ) → ((k < gone) × (skip gone k ≡ k)) ⊎ ((gone ≤ k) × (skip gone k ≡ k + 1))
skip_cases gone k = elim (cases_lt k gone) [
  | inl b ↦ inl (b, ap (λ t. cond t k (k + 1)) (lt-ltb k gone b))
  | inr b ↦ inr (b, ap (λ t. cond t k (k + 1)) (le-ltb k gone b))
]

pub skip_below : (gone k : ℕ) → k < gone → skip gone k ≡ k
skip_below gone k b = ap (λ t. cond t k (k + 1)) (lt-ltb k gone b)

pub skip_above : (gone k : ℕ) → gone ≤ k → skip gone k ≡ k + 1
skip_above gone k b = ap (λ t. cond t k (k + 1)) (le-ltb k gone b)

pub skip_less : (gone k l : ℕ) → k < l → skip gone k < skip gone l
skip_less gone k l h = elim (skip_cases gone k) [
  | inl a ↦ elim (skip_cases gone l) [
    | inl b ↦ omega (arith, a.1, b.1)
    | inr b ↦ omega (arith, a.1, b.1)
  ]
  | inr a ↦ elim (skip_cases gone l) [
    | inl b ↦ absurd (omega (arith, a.0, b.0))
    | inr b ↦ omega (arith, a.1, b.1)
  ]
]

pub skip_order : (gone k l : ℕ) → skip gone k < skip gone l → k < l
skip_order gone k l h = elim (cases_lt k l) [
  | inl b ↦ b
  | inr b ↦ elim (cases_eq l k) [
    | inl e ↦ absurd (let same : skip gone l ≡ skip gone k = ap (λ n. skip gone n) e in omega (arith, same, h))
    | inr n ↦ absurd (omega (arith, h, skip_less gone l k (omega arith)))
  ]
]

-- a place is not far from where it was
pub skip_near : (gone k : ℕ) → (k ≤ skip gone k) × (skip gone k ≤ k + 1)
skip_near gone k = elim (skip_cases gone k) [
  | inl a ↦ (omega (arith, a.1), omega (arith, a.1))
  | inr a ↦ (omega (arith, a.1), omega (arith, a.1))
]

-- the pair of a box after two others became one
module _ (weigh : List (List ℕ) → ℕ) (old new : List (List (List ℕ))) (i j k cost with w : ℕ) (joined : IsJoinOf old new i j) (apart : k ≡ i → ⊥)
    (pair : IsLeastAfter (cost_at weigh old (skip j k)) (skip j k) (length old) cost with) (is : skip j w ≡ with) (not_first : with ≡ i → ⊥) where
  same_cost : (l : ℕ) → (l ≡ i → ⊥) → cost_at weigh new k l ≡ cost_at weigh old (skip j k) (skip j l)
  same_cost l n = ap₂ (λ p q. cost_by weigh p q) (joined.others k apart) (joined.others l n)

  w_after : k < w
  w_after = skip_order j k w (omega (arith, pair.after, is))

  w_before : w < length new
  w_before = elim (skip_cases j w) [
    | inl a ↦ omega (arith, a.0, joined.within, joined.many)
    | inr a ↦ omega (arith, a.1, is, pair.before, joined.many)
  ]

  w_apart : w ≡ i → ⊥
  w_apart e = not_first (sym is ∙ ap (λ n. skip j n) e ∙ skip_below j i joined.order)

  w_cost : cost_at weigh new k w ≡ cost
  w_cost = same_cost w w_apart ∙ ap (λ n. cost_at weigh old (skip j k) n) is ∙ pair.is

  others_least : (l : ℕ) → (l ≡ i → ⊥) → k < l → l < length new → cost ≤ cost_at weigh new k l
  others_least l n a b =
      let near = skip_near j l in
      omega (arith, same_cost l n, pair.least (skip j l) (skip_less j k l a) (omega (arith, near.1, joined.many)))

  others_first : (l : ℕ) → (l ≡ i → ⊥) → k < l → l < w → cost < cost_at weigh new k l
  others_first l n a b =
      let less : skip j l < with = (let d = skip_less j l w b in omega (arith, d, is)) in
      omega (arith, same_cost l n, pair.first (skip j l) (skip_less j k l a) less)

  pair_stays : (k < i → (cost < cost_at weigh new k i) ⊎ ((cost ≡ cost_at weigh new k i) × (w ≤ i))) → IsLeastAfter (cost_at weigh new k) k (length new) cost w
  pair_stays h = record {
    after = w_after;
    before = w_before;
    is = w_cost;
    least = λ l a b. elim (cases_eq l i) [
      | inl e ↦
          let here : cost_at weigh new k l ≡ cost_at weigh new k i = ap (λ n. cost_at weigh new k n) e in
          elim (h (omega arith)) [
            | inl m ↦ omega (arith, here, m)
            | inr m ↦ omega (arith, here, m.0)
          ]
      | inr n ↦ others_least l n a b
    ];
    first = λ l a b. elim (cases_eq l i) [
      | inl e ↦
          let here : cost_at weigh new k l ≡ cost_at weigh new k i = ap (λ n. cost_at weigh new k n) e in
          elim (h (omega arith)) [
            | inl m ↦ omega (arith, here, m)
            | inr m ↦ absurd (omega (arith, b, m.1, e))
          ]
      | inr n ↦ others_first l n a b
    ];
  }

  pair_taken : (least : ℕ) → k < i → cost_at weigh new k i ≡ least → (least < cost) ⊎ ((least ≡ cost) × (i < w)) → IsLeastAfter (cost_at weigh new k) k (length new) least i
  pair_taken least order here h =
      let at_most : least ≤ cost = elim h [
        | inl m ↦ omega (arith, m)
        | inr m ↦ omega (arith, m.0)
      ] in
      record {
        after = order;
        before = omega (arith, joined.order, joined.within, joined.many);
        is = here;
        least = λ l a b. elim (cases_eq l i) [
          | inl e ↦ let same : cost_at weigh new k l ≡ cost_at weigh new k i = ap (λ n. cost_at weigh new k n) e in omega (arith, same, here)
          | inr n ↦ omega (arith, at_most, others_least l n a b)
        ];
        first = λ l a b. elim h [
          | inl m ↦
              omega (
                arith,
                m,
                others_least l (λ e. omega arith) a (omega (arith, b, joined.order, joined.within, joined.many)),
              )
          | inr m ↦ omega (arith, m.0, others_first l (λ e. omega arith) a (omega (arith, b, m.1)))
        ];
      }

  -- the better of the pair and one with the joined box
  pub pair_found : (found : Pair) → k < i → IsEarlier (record { cost = cost; with = w }) (cost_at weigh new k i) i found
      → IsLeastAfter (cost_at weigh new k) k (length new) found.cost found.with
  pair_found found order (inl h) = subst (λ (p : Pair). IsLeastAfter (cost_at weigh new k) k (length new) p.cost p.with) (sym h.1) (pair_stays (λ o. h.0))
  pair_found found order (inr h) = rw (h.1, h.2) (pair_taken (cost_at weigh new k i) order refl h.0)

  pub pair_kept : i < k → IsLeastAfter (cost_at weigh new k) k (length new) cost w
  pair_kept order = pair_stays (λ o. absurd (omega arith))

-- the pair that costs least of all is joined next
pub next_found : (weigh : List (List ℕ) → ℕ) (boxes : List (List (List ℕ))) (pairs : List Pair) (i : ℕ) (d : Pair) → ArePairs weigh boxes pairs
    → i + 1 < length boxes → ((k : ℕ) → k + 1 < length boxes → (get_or pairs i d).cost ≤ (get_or pairs k d).cost)
    → ((k : ℕ) → k < i → (get_or pairs i d).cost < (get_or pairs k d).cost) → IsNextPairBy weigh boxes i (get_or pairs i d).with
next_found weigh boxes pairs i d are inside least first =
    let own : IsPairOf weigh boxes i (get_or pairs i d) = are.each i d inside in
    record {
      order = own.after;
      within = own.before;
      least = λ k l a b.
          let other : IsPairOf weigh boxes k (get_or pairs k d) = are.each k d (omega (arith, a, b)) in
          omega (arith, own.is, least k (omega (arith, a, b)), other.least l a b);
      first = λ k l a b before. elim before [
        | inl h ↦
            let other : IsPairOf weigh boxes k (get_or pairs k d) = are.each k d (omega (arith, a, b)) in
            omega (arith, own.is, first k h, other.least l a b)
        | inr h ↦
            let here : cost_at weigh boxes k l ≡ cost_at weigh boxes i l = ap (λ n. cost_at weigh boxes n l) h.0 in
            omega (arith, here, own.is, own.first l (omega (arith, a, h.0)) h.1)
      ];
    }

-- a list in which two elements stand apart
module _ (before between after : List (List (List ℕ))) (p q : List (List ℕ)) where
  abbrev both_at : List (List (List ℕ))
  both_at = before ++ p ∷ (between ++ q ∷ after)

  abbrev one_at : List (List (List ℕ))
  one_at = before ++ (p ++ q) ∷ (between ++ after)

  abbrev second : ℕ
  second = length before + 1 + length between

  first_is : (y : List (List ℕ)) (ys : List (List (List ℕ))) → get_or (before ++ y ∷ ys) (length before) [] ≡ y
  first_is y ys =
      let e : get_or (before ++ y ∷ ys) (length before + 0) [] ≡ y = get_or-append-add before (y ∷ ys) 0 [] in
      ap (λ n. get_or (before ++ y ∷ ys) n []) (let z : length before ≡ length before + 0 = omega arith in z) ∙ e

  rest_is : (y : List (List ℕ)) (ys : List (List (List ℕ))) (m k : ℕ) → k ≡ length before + 1 + m → get_or (before ++ y ∷ ys) k [] ≡ get_or ys m []
  rest_is y ys m k e =
      ap (λ n. get_or (before ++ y ∷ ys) n []) (let z : k ≡ length before + suc m = omega (arith, e) in z) ∙ get_or-append-add before (y ∷ ys) (suc m) []

  second_is : get_or (before ++ p ∷ (between ++ q ∷ after)) (length before + 1 + length between) [] ≡ q
  second_is =
      rest_is p (between ++ q ∷ after) (length between) (length before + 1 + length between) refl
      ∙ ap (λ n. get_or (between ++ q ∷ after) n []) (let z : length between ≡ length between + 0 = omega arith in z) ∙ get_or-append-add between (q ∷ after) 0 []

  both_long : length (before ++ p ∷ (between ++ q ∷ after)) ≡ length before + 1 + length between + 1 + length after
  both_long =
      omega (arith, length-append before (p ∷ (between ++ q ∷ after)), length-append between (q ∷ after))

  one_long : length (before ++ (p ++ q) ∷ (between ++ after)) ≡ length before + 1 + length between + length after
  one_long = omega (arith, length-append before ((p ++ q) ∷ (between ++ after)), length-append between after)

  tail_is : (m : ℕ) → (length between ≤ m) → get_or (between ++ after) m [] ≡ get_or (between ++ q ∷ after) (m + 1) []
  tail_is m h =
      let r : ℕ = m - length between in
      let one : get_or (between ++ after) (length between + r) [] ≡ get_or after r [] = get_or-append-add between after (m - length between) [] in
      let two : get_or (between ++ q ∷ after) (length between + suc r) [] ≡ get_or after r [] = get_or-append-add between (q ∷ after) (suc (m - length between)) [] in
      ap (λ n. get_or (between ++ after) n []) (let z : m ≡ length between + (m - length between) = omega (arith, h) in z) ∙ one ∙ sym two
      ∙ ap (λ n. get_or (between ++ q ∷ after) n []) (let z : length between + suc (m - length between) ≡ m + 1 = omega (arith, h) in z)

  others_are : (k : ℕ) → (k ≡ length before → ⊥)
      → get_or (before ++ (p ++ q) ∷ (between ++ after)) k [] ≡ get_or (before ++ p ∷ (between ++ q ∷ after)) (skip (length before + 1 + length between) k) []
  others_are k apart = elim (cases_lt k (length before)) [
    | inl b ↦
        get_or_append_left before ((p ++ q) ∷ (between ++ after)) [] k b ∙ sym (get_or_append_left before (p ∷ (between ++ q ∷ after)) [] k b)
        ∙ ap (λ n. get_or (before ++ p ∷ (between ++ q ∷ after)) n []) (sym (skip_below (length before + 1 + length between) k (omega arith)))
    | inr b ↦
        let m : ℕ = k - (length before + 1) in
        let e : k ≡ length before + 1 + (k - (length before + 1)) = omega (arith, apart, b) in
        rest_is (p ++ q) (between ++ after) (k - (length before + 1)) k e ∙ elim (cases_lt (k - (length before + 1)) (length between)) [
          | inl c ↦
              get_or_append_left between after [] (k - (length before + 1)) c ∙ sym (get_or_append_left between (q ∷ after) [] (k - (length before + 1)) c)
              ∙ sym (rest_is p (between ++ q ∷ after) (k - (length before + 1)) (skip (length before + 1 + length between) k)
              (skip_below (length before + 1 + length between) k (omega (arith, e, c)) ∙ e))
          | inr c ↦
              tail_is (k - (length before + 1)) c ∙ sym (rest_is p (between ++ q ∷ after) (k - (length before + 1) + 1) (skip (length before + 1 + length between) k)
              (skip_above (length before + 1 + length between) k (omega (arith, e, c)) ∙ (let z : k + 1 ≡ length before + 1 + (k - (length before + 1) + 1) = omega (arith, e) in z)))
        ]
  ]

  pub joined_apart : IsJoinOf (before ++ p ∷ (between ++ q ∷ after)) (before ++ (p ++ q) ∷ (between ++ after)) (length before) (length before + 1 + length between)
  joined_apart = record {
    order = omega arith;
    within = omega (arith, both_long);
    many = omega (arith, both_long, one_long);
    both = first_is (p ++ q) (between ++ after) ∙ ap₂ (λ (a b : List (List ℕ)). a ++ b) (sym (first_is p (between ++ q ∷ after))) (sym second_is);
    others = others_are;
  }

  -- how often the colors stand, of which a function says how often each does
  pub colors_apart : all_colors (before ++ (p ++ q) ∷ (between ++ after)) ≡ all_colors (before ++ p ∷ (between ++ q ∷ after))
  colors_apart =
      omega (
        arith,
        sum_by-append (λ (b : List (List ℕ)). length b) before ((p ++ q) ∷ (between ++ after)),
        sum_by-cons (λ (b : List (List ℕ)). length b) (p ++ q) (between ++ after),
        sum_by-append (λ (b : List (List ℕ)). length b) between after,
        sum_by-append (λ (b : List (List ℕ)). length b) before (p ∷ (between ++ q ∷ after)),
        sum_by-cons (λ (b : List (List ℕ)). length b) p (between ++ q ∷ after),
        sum_by-append (λ (b : List (List ℕ)). length b) between (q ∷ after),
        sum_by-cons (λ (b : List (List ℕ)). length b) q after,
        length-append p q,
      )

  pub two_apart : length p + length q ≤ all_colors (before ++ p ∷ (between ++ q ∷ after))
  two_apart =
      omega (
        arith,
        sum_by-append (λ (b : List (List ℕ)). length b) before (p ∷ (between ++ q ∷ after)),
        sum_by-cons (λ (b : List (List ℕ)). length b) p (between ++ q ∷ after),
        sum_by-append (λ (b : List (List ℕ)). length b) between (q ∷ after),
        sum_by-cons (λ (b : List (List ℕ)). length b) q after,
      )

-- any two places of a list
module _ (boxes : List (List (List ℕ))) (i j : ℕ) (order : i < j) (within : j < length boxes) where
  abbrev here : List (List ℕ)
  here = get_or boxes i []

  abbrev there : List (List ℕ)
  there = get_or boxes j []

  abbrev ls : List (List (List ℕ))
  ls = take i boxes

  abbrev ms : List (List (List ℕ))
  ms = take (j - (i + 1)) (drop (i + 1) boxes)

  abbrev rs : List (List (List ℕ))
  rs = drop (j + 1) boxes

  ls_long : length (take i boxes) ≡ i
  ls_long = omega (arith, length-take i boxes, order, within)

  ms_long : length (take (j - (i + 1)) (drop (i + 1) boxes)) ≡ j - (i + 1)
  ms_long = omega (arith, length-take (j - (i + 1)) (drop (i + 1) boxes), length-drop (i + 1) boxes, order, within)

  place_is : length (take i boxes) + 1 + length (take (j - (i + 1)) (drop (i + 1) boxes)) ≡ j
  place_is = omega (arith, ls_long, ms_long, order)

  pub parts_are : take i boxes ++ get_or boxes i [] ∷ (take (j - (i + 1)) (drop (i + 1) boxes) ++ get_or boxes j [] ∷ drop (j + 1) boxes) ≡ boxes
  parts_are =
      let end : drop (j - (i + 1)) (drop (i + 1) boxes) ≡ get_or boxes j [] ∷ drop (j + 1) boxes =
      drop-drop (j - (i + 1)) (i + 1) boxes ∙ ap (λ n. drop n boxes) (let z : i + 1 + (j - (i + 1)) ≡ j = omega (arith, order) in z) ∙ drop_more boxes j [] within in
      let rest : take (j - (i + 1)) (drop (i + 1) boxes) ++ get_or boxes j [] ∷ drop (j + 1) boxes ≡ drop (i + 1) boxes =
      ap (λ l. take (j - (i + 1)) (drop (i + 1) boxes) ++ l) (sym end) ∙ take-append-drop (j - (i + 1)) (drop (i + 1) boxes) in
      ap (λ l. take i boxes ++ get_or boxes i [] ∷ l) rest ∙ ap (λ l. take i boxes ++ l) (sym (drop_more boxes i [] (omega (arith, order, within))))
      ∙ take-append-drop i boxes

  pub join_is : IsJoinOf boxes (join_at boxes i j) i j
  join_is =
      subst (λ b. IsJoinOf b (join_at boxes i j) i j) parts_are
      (subst (λ n. IsJoinOf (ls ++ here ∷ (ms ++ there ∷ rs)) (join_at boxes i j) n j) ls_long
      (subst (λ n. IsJoinOf (ls ++ here ∷ (ms ++ there ∷ rs)) (join_at boxes i j) (length (take i boxes)) n) place_is (joined_apart ls ms rs here there)))

  pub join_colors : all_colors (join_at boxes i j) ≡ all_colors boxes
  join_colors = colors_apart ls ms rs here there ∙ ap (λ b. all_colors b) parts_are

  pub two_few : length (get_or boxes i []) + length (get_or boxes j []) ≤ all_colors boxes
  two_few =
      subst (λ b. length (get_or boxes i []) + length (get_or boxes j []) ≤ all_colors b) parts_are (two_apart ls ms rs here there)

  pub join_more : (weigh : List (List ℕ) → ℕ) (start : List (List (List ℕ))) → AreJoinedBy weigh start boxes → IsNextPairBy weigh boxes i j
      → AreJoinedBy weigh start (join_at boxes i j)
  join_more weigh start are next =
      join start ls ms rs here there (subst (AreJoinedBy weigh start) (sym parts_are) are)
      (subst (λ b. IsNextPairBy weigh b (length (take i boxes)) (length (take i boxes) + 1 + length (take (j - (i + 1)) (drop (i + 1) boxes)))) (sym parts_are)
      (subst (λ n. IsNextPairBy weigh boxes (length (take i boxes)) n) (sym place_is) (subst (λ n. IsNextPairBy weigh boxes n j) (sym ls_long) next)))

-- what is kept of the boxes, after two of them became one
pub groups_joined : {G : Type 0} (is_group : List (List ℕ) → G → Type 0) (old new : List (List (List ℕ))) (groups after : List G) (i j count : ℕ) (one : G)
    → IsJoinOf old new i j → AreGroupsOf is_group old groups count → is_group (get_or old i [] ++ get_or old j []) one → length after ≡ length groups
    → ((k : ℕ) (d : G) → k + 1 < count → get_or after k d ≡ get_or (set groups i one) (skip j k) d) → AreGroupsOf is_group new after (count - 1)
groups_joined {G} is_group old new groups after i j count one joined are fits long moved = record {
  many = omega (arith, joined.many, are.many);
  within = omega (arith, long, are.within);
  each = λ k d inside.
      let there : get_or after k d ≡ get_or (set groups i one) (skip j k) d = moved k d (omega (arith, inside)) in
      elim (cases_eq k i) [
        | inl e ↦
            let place : skip j k ≡ i = skip_below j k (omega (arith, e, joined.order)) ∙ e in
            let now : get_or after k d ≡ one =
            there ∙ ap (λ n. get_or (set groups i one) n d) place
            ∙ get_or-set_same groups i one d (omega (arith, joined.order, joined.within, are.many, are.within)) in
            subst (λ g. is_group (get_or new k []) g) (sym now)
            (subst (λ b. is_group b one) (sym (ap (λ n. get_or new n []) e ∙ joined.both)) fits)
        | inr n ↦
            let far : skip j k ≡ i → ⊥ = (λ e. elim (skip_cases j k) [
              | inl a ↦ n (sym a.1 ∙ e)
              | inr a ↦ omega (arith, a.0, a.1, e, joined.order)
            ]) in
            let now : get_or after k d ≡ get_or groups (skip j k) d = there ∙ get_or-set_other groups i (skip j k) one d far in
            let near = skip_near j k in
            subst (λ g. is_group (get_or new k []) g) (sym now)
            (subst (λ b. is_group b (get_or groups (skip j k) d)) (sym (joined.others k n)) (are.each (skip j k) d (omega (arith, near.1, inside))))
      ];
}

-- the pairs of the boxes, after the pair of one was taken away
pub pairs_without : (weigh : List (List ℕ) → ℕ) (boxes : List (List (List ℕ))) (pairs after : List Pair) (gone count : ℕ) → length boxes ≡ count
    → ArePairs weigh boxes pairs → ((k : ℕ) (d : Pair) → k + 1 < count → get_or after k d ≡ get_or pairs (skip gone k) d)
    → ArePairsWithout weigh boxes gone after
pairs_without weigh boxes pairs after gone count many are moved = record {
  each = λ k d inside.
      let near = skip_near gone k in
      subst (λ p. IsPairOf weigh boxes (skip gone k) p) (sym (moved k d (omega (arith, near.0, inside, many)))) (are.each (skip gone k) d inside);
}

-- joined boxes have the colors of all
one_moved : (before between after : List (List (List ℕ))) (p q : List (List ℕ))
    → IsPermutation (flat_map (λ box. box) (before ++ p ∷ (between ++ q ∷ after))) (flat_map (λ box. box) (before ++ (p ++ q) ∷ (between ++ after)))
one_moved before between after p q =
    let fs : List (List ℕ) = flat_map (λ box. box) before in
    let ms : List (List ℕ) = flat_map (λ box. box) between in
    let rs : List (List ℕ) = flat_map (λ box. box) after in
    let old : flat_map (λ box. box) (before ++ p ∷ (between ++ q ∷ after)) ≡ fs ++ (p ++ (ms ++ (q ++ rs))) =
    flat_map-append (λ b. b) before (p ∷ (between ++ q ∷ after)) ∙ ap (λ l. flat_map (λ box. box) before ++ (p ++ l)) (flat_map-append (λ b. b) between (q ∷ after)) in
    let new : flat_map (λ box. box) (before ++ (p ++ q) ∷ (between ++ after)) ≡ fs ++ ((p ++ q) ++ (ms ++ rs)) =
    flat_map-append (λ b. b) before ((p ++ q) ∷ (between ++ after)) ∙ ap (λ l. flat_map (λ box. box) before ++ ((p ++ q) ++ l)) (flat_map-append (λ b. b) between after) in
    let swapped : IsPermutation (ms ++ (q ++ rs)) (q ++ (ms ++ rs)) =
    subst (λ l. IsPermutation l (q ++ (ms ++ rs))) (append_assoc ms q rs)
    (subst (IsPermutation ((ms ++ q) ++ rs)) (append_assoc q ms rs)
    (IsPermutation-append_left rs (ms ++ q) (q ++ ms) (IsPermutation-append_comm ms q))) in
    let inner : IsPermutation (p ++ (ms ++ (q ++ rs))) ((p ++ q) ++ (ms ++ rs)) =
    subst (IsPermutation (p ++ (ms ++ (q ++ rs)))) (sym (append_assoc p q (ms ++ rs)))
    (IsPermutation-append_right p (ms ++ (q ++ rs)) (q ++ (ms ++ rs)) swapped) in
    rw (old, new) (IsPermutation-append_right fs (p ++ (ms ++ (q ++ rs))) ((p ++ q) ++ (ms ++ rs)) inner)

pub joined_moved : {weigh : List (List ℕ) → ℕ} (boxes groups : List (List (List ℕ))) → AreJoinedBy weigh boxes groups
    → IsPermutation (flat_map (λ box. box) boxes) (flat_map (λ box. box) groups)
joined_moved _ _ (none boxes) = IsPermutation-refl (flat_map (λ box. box) boxes)
joined_moved _ _ (join boxes before between after p q are next) =
    IsPermutation-trans (flat_map (λ box. box) boxes) (flat_map (λ box. box) (before ++ p ∷ (between ++ q ∷ after)))
    (flat_map (λ box. box) (before ++ (p ++ q) ∷ (between ++ after))) (joined_moved boxes (before ++ p ∷ (between ++ q ∷ after)) are)
    (one_moved before between after p q)

-- two boxes that stand apart may be joined
pub may_join : {G : Type 0} (is_group : List (List ℕ) → G → Type 0) (boxes : List (List (List ℕ))) (groups : List G) (count k l : ℕ) (p q : G)
    → AreGroupsOf is_group boxes groups count → all_colors boxes < 18446744073709551616 → k < l → l < count → p ≡ get_or groups k p → q ≡ get_or groups l q
    → (a : List (List ℕ)) × (b : List (List ℕ)) × is_group a p × is_group b q × (length a + length b < 18446744073709551616)
may_join is_group boxes groups count k l p q are few order inside read other = (
  get_or boxes k [],
  get_or boxes l [],
  subst (is_group (get_or boxes k [])) (sym read) (are.each k p (omega (arith, order, inside))),
  subst (is_group (get_or boxes l [])) (sym other) (are.each l q inside),
  omega (arith, two_few boxes k l order (omega (arith, are.many, inside)), few),
)

pub group_is : {G : Type 0} (is_group : List (List ℕ) → G → Type 0) (boxes : List (List (List ℕ))) (groups : List G) (count k : ℕ) (p : G)
    → AreGroupsOf is_group boxes groups count → k < count → p ≡ get_or groups k p → is_group (get_or boxes k []) p
group_is is_group boxes groups count k p are inside read = subst (is_group (get_or boxes k [])) (sym read) (are.each k p inside)

-- what holds of the first of some places, holds of one more where it is set
pub set_each : {X : Type 0} (P : ℕ → X → Type 0) (xs : List X) (k : ℕ) (x : X) → k < length xs → ((m : ℕ) (d : X) → m < k → P m (get_or xs m d)) → P k x
    → (m : ℕ) (d : X) → m < k + 1 → P m (get_or (set xs k x) m d)
set_each {X} P xs k x inside before now m d h = elim (cases_eq m k) [
  | inl e ↦
      subst (λ (n : ℕ). P n (get_or (set xs k x) n d)) (sym e) (subst (P k) (sym (get_or-set_same xs k x d inside)) now)
  | inr n ↦ subst (P m) (sym (get_or-set_other xs k m x d n)) (before m d (omega (arith, n, h)))
]

-- the first of the pairs that cost least, of all but the last, is the next one
front : (pairs : List Pair) (n k : ℕ) (d : Pair) → k < n → (get_or (take n pairs) k d).cost ≡ (get_or pairs k d).cost
front pairs n k d h = ap (λ (p : Pair). p.cost) (get_or-take n pairs k d h)

pub next_in : (weigh : List (List ℕ) → ℕ) (boxes : List (List (List ℕ))) (pairs : List Pair) (i count : ℕ) (d : Pair) → 1 < count → count ≤ length pairs
    → length boxes ≡ count → ArePairs weigh boxes pairs → i < length (take (count - 1) pairs)
    → ((k : ℕ) (e : Pair) → k < length (take (count - 1) pairs) → (get_or (take (count - 1) pairs) i e).cost ≤ (get_or (take (count - 1) pairs) k e).cost)
    → ((k : ℕ) (e : Pair) → k < i → (get_or (take (count - 1) pairs) i e).cost < (get_or (take (count - 1) pairs) k e).cost)
    → IsNextPairBy weigh boxes i (get_or pairs i d).with
next_in weigh boxes pairs i count d two room many are within least first =
    let long = length-take (count - 1) pairs in
    let here = front pairs (count - 1) i d (omega (arith, within, long)) in
    next_found weigh boxes pairs i d are (omega (arith, within, long, many, two))
    (λ k h.
    omega (arith, here, front pairs (count - 1) k d (omega (arith, h, many)), least k d (omega (arith, long, h, many, room))))
    (λ k h. omega (arith, here, front pairs (count - 1) k d (omega (arith, h, within, long)), first k d h))

-- what is kept of the boxes after the next two are joined
pub groups_after : {G : Type 0} (is_group : List (List ℕ) → G → Type 0) (weigh : List (List ℕ) → ℕ) (boxes : List (List (List ℕ))) (groups after : List G)
    (i j count : ℕ) (p q one : G) → IsNextPairBy weigh boxes i j → AreGroupsOf is_group boxes groups count → p ≡ get_or groups i p → q ≡ get_or groups j q
    → ((a b : List (List ℕ)) → is_group a p → is_group b q → is_group (a ++ b) one) → length after ≡ length (set groups i one)
    → ((k : ℕ) (d : G) → k + 1 < count → get_or after k d ≡ get_or (set groups i one) (skip j k) d) → AreGroupsOf is_group (join_at boxes i j) after (count - 1)
groups_after is_group weigh boxes groups after i j count p q one next are read other made long moved =
    groups_joined is_group boxes (join_at boxes i j) groups after i j count one (join_is boxes i j next.order next.within) are
    (made (get_or boxes i []) (get_or boxes j []) (group_is is_group boxes groups count i p are (omega (arith, next.order, next.within, are.many)) read)
    (group_is is_group boxes groups count j q are (omega (arith, next.within, are.many)) other))
    (omega (arith, long, length-set groups i one)) moved
