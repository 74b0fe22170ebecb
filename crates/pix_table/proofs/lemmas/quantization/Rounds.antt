-- The colors of each entry, their sums, and the round that the sums make.
use Rattle.std.specs.List.{flat_map}
use Rattle.std.proofs.Common.{◌≡◌, ◌≢◌, ℕ, zero, suc, ◌+◌, ◌-◌, ◌<◌, ◌≤◌, Bool, true, false, not, ◌&&◌, ◌||◌, cond, List, [], ◌∷◌, ◌++◌, length, map, take, set, get_or, nat_eq, nat_lt, filter, sum_by, All, IsPermutation, refl, arith, sym, ap, ◌∙◌, subst, inl, inr, lt-ltb, le-ltb, eq-eqb, ne_eqb, length-append, length-set}
use Rattle.std.proofs.Math.Seq.{map-set_same}
use Rattle.std.proofs.lemmas.Bool.{cases_lt, cases_order, cases_Bool, eqb-true, true≢false, and_parts}
use Rattle.std.proofs.lemmas.List.{append-nil, get_or_append_left, get_or-append-add, get_or-take, get_or-set_other, length-map, map-set}
use Rattle.std.proofs.lemmas.Grind.{flat_map-append, get_or-set_at}
use Rattle.std.proofs.lemmas.List.Elements.{All-cons, All-nil}
use Rattle.std.proofs.lemmas.List.Sums.{length-filter, sum_by-cons}
use Rattle.std.proofs.lemmas.List.Sorted.{IsPermutation-refl, IsPermutation-sym, IsPermutation-trans, IsPermutation-cons, IsPermutation-middle, IsPermutation-append_left}
use Rattle.pix_table.specs.matching.Nearest.{distance, IsNearest, IsNearestBy, numbers}
use Rattle.pix_table.specs.quantization.Quantization.{same_color}
use Rattle.pix_table.specs.quantization.Places.{sum_in}
use Rattle.pix_table.specs.quantization.BestPlaces.{AreSums, sum_of}
use Rattle.pix_table.specs.quantization.Refine.{AreGroupsBy, IsRound, refined}
use Rattle.pix_table.specs.quantization.Groups.{AreItemGroups, AreItemSums, AreOfBytes, mean_by, settled}
use Rattle.pix_table.specs.quantization.Items.{AreItemsOf}
use Rattle.pix_table.specs.declared.quantization.box_sums.Sums.{Sums}
use Rattle.pix_table.specs.declared.color.Color.{Color}

-- by any measure of how far two colors are apart
module _ (apart : List ℕ → List ℕ → ℕ) where
  -- a color has a nearest entry
  nearest_up_to : (entries : List (List ℕ)) (color : List ℕ) (n : ℕ)
      → (at : ℕ) × (at ≤ n) × ((k : ℕ) → k ≤ n → apart (get_or entries at []) color ≤ apart (get_or entries k []) color)
      × ((k : ℕ) → k < at → apart (get_or entries at []) color < apart (get_or entries k []) color)
  nearest_up_to entries color zero = (
    0,
    omega arith,
    λ k b. (let same : 0 ≡ k = omega arith in
        subst (λ j. apart (get_or entries 0 []) color ≤ apart (get_or entries j []) color) same (omega arith)),
    λ k b. absurd (omega arith),
  )
  nearest_up_to entries color (suc n) =
      let before = nearest_up_to entries color n in
      elim (cases_lt (apart (get_or entries (suc n) []) color) (apart (get_or entries before.0 []) color)) [
        | inl nearer ↦ (
          suc n,
          omega arith,
          λ k b. elim (cases_lt k (suc n)) [
            | inl l ↦ omega (arith, nearer, before.2 k (omega arith))
            | inr l ↦
                let same : suc n ≡ k = omega arith in
                subst (λ j. apart (get_or entries (suc n) []) color ≤ apart (get_or entries j []) color) same (omega arith)
          ],
          λ k b. omega (arith, nearer, before.2 k (omega arith)),
        )
        | inr farther ↦ (
          before.0,
          omega (arith, before.1),
          λ k b. elim (cases_lt k (suc n)) [
            | inl l ↦ before.2 k (omega arith)
            | inr l ↦
                let same : suc n ≡ k = omega arith in
                subst (λ j. apart (get_or entries before.0 []) color ≤ apart (get_or entries j []) color) same farther
          ],
          before.3,
        )
      ]

  pub nearest_at : (entries : List (List ℕ)) → 0 < length entries → (color : List ℕ) → (at : ℕ) × IsNearestBy apart entries color at
  nearest_at entries some color =
      let h = nearest_up_to entries color (length entries - 1) in
      (h.0, record { stands = omega (arith, h.1); least = λ k b. h.2 k (omega arith); first = h.3 })

  -- the nearest is one
  pub nearest_is_one : (entries : List (List ℕ)) (color : List ℕ) (i j : ℕ) → IsNearestBy apart entries color i → IsNearestBy apart entries color j → i ≡ j
  nearest_is_one entries color i j h g = elim (cases_order i j) [
    | inl e ↦ e
    | inr o ↦ elim o [
      | inl b ↦ absurd (omega (arith, g.first i b, h.least j g.stands))
      | inr b ↦ absurd (omega (arith, h.first j b, g.least i h.stands))
    ]
  ]

-- the colors of each part, where a function says in which of so many parts a color is
module _ (at : List ℕ → ℕ) where
  abbrev pub part : ℕ → List (List ℕ) → List (List ℕ)
  part n colors = filter (λ c. nat_eq (at c) n) colors

  abbrev below : ℕ → List (List ℕ) → List (List ℕ)
  below n colors = filter (λ c. nat_lt (at c) n) colors

  pub parts : ℕ → List (List ℕ) → List (List (List ℕ))
  parts zero colors = []
  parts (suc n) colors = parts n colors ++ part n colors ∷ []

  length-parts : (n : ℕ) (colors : List (List ℕ)) → length (parts n colors) ≡ n
  unfolding parts
  length-parts zero colors = refl
  length-parts (suc n) colors = omega (arith, length-append (parts n colors) (part n colors ∷ []), length-parts n colors)

  pub part_of : (n k : ℕ) (colors : List (List ℕ)) → k < n → get_or (parts n colors) k [] ≡ part k colors
  unfolding parts
  part_of zero k colors h = absurd (omega arith)
  part_of (suc n) k colors h = elim (cases_lt k n) [
    | inl b ↦
        get_or_append_left (parts n colors) (part n colors ∷ []) [] k (omega (arith, length-parts n colors)) ∙ part_of n k colors b
    | inr b ↦
        let e : k ≡ length (parts n colors) + 0 = omega (arith, length-parts n colors) in
        let last : n ≡ k = omega arith in
        ap (λ i. get_or (parts n colors ++ part n colors ∷ []) i []) e
        ∙ get_or-append-add (parts n colors) (part n colors ∷ []) 0 [] ∙ ap (λ i. part i colors) last
  ]

  -- the colors of one part more
  one_more : (n : ℕ) (colors : List (List ℕ)) → IsPermutation (below (suc n) colors) (below n colors ++ part n colors)
  one_more n [] = IsPermutation-refl []
  one_more n (c ∷ colors) = elim (cases_order (at c) n) [
    | inl e ↦
        rw (lt-ltb (at c) (suc n) (omega arith), le-ltb (at c) n (omega arith), eq-eqb (at c) n e)
        (IsPermutation-trans (c ∷ below (suc n) colors) (c ∷ (below n colors ++ part n colors)) (below n colors ++ c ∷ part n colors)
        (IsPermutation-cons c (below (suc n) colors) (below n colors ++ part n colors) (one_more n colors))
        (IsPermutation-sym (below n colors ++ c ∷ part n colors) (c ∷ (below n colors ++ part n colors))
        (IsPermutation-middle (below n colors) c (part n colors))))
    | inr o ↦ elim o [
      | inl b ↦
          rw (lt-ltb (at c) (suc n) (omega arith), lt-ltb (at c) n b, ne_eqb (at c) n (λ e. omega arith))
          (IsPermutation-cons c (below (suc n) colors) (below n colors ++ part n colors) (one_more n colors))
      | inr b ↦
          rw (le-ltb (at c) (suc n) (omega arith), le-ltb (at c) n (omega arith), ne_eqb (at c) n (λ e. omega arith)) (one_more n colors)
    ]
  ]

  none_below : (colors : List (List ℕ)) → below 0 colors ≡ []
  none_below [] = refl
  none_below (c ∷ colors) = ap (λ b. cond b (c ∷ below 0 colors) (below 0 colors)) (le-ltb (at c) 0 (omega arith)) ∙ none_below colors

  all_below : (n : ℕ) (colors : List (List ℕ)) → ((c : List ℕ) → at c < n) → below n colors ≡ colors
  all_below n [] h = refl
  all_below n (c ∷ colors) h =
      ap (λ b. cond b (c ∷ below n colors) (below n colors)) (lt-ltb (at c) n (h c)) ∙ ap (λ l. c ∷ l) (all_below n colors h)

  joined : (n : ℕ) (colors : List (List ℕ)) → IsPermutation (below n colors) (flat_map (λ g. g) (parts n colors))
  unfolding parts
  joined zero colors = subst (λ l. IsPermutation l []) (sym (none_below colors)) (IsPermutation-refl [])
  joined (suc n) colors =
      let last : flat_map (λ g. g) (part n colors ∷ []) ≡ part n colors = append-nil (part n colors) in
      subst (IsPermutation (below (suc n) colors))
      (sym (flat_map-append (λ g. g) (parts n colors) (part n colors ∷ []) ∙ ap (λ l. flat_map (λ g. g) (parts n colors) ++ l) last))
      (IsPermutation-trans (below (suc n) colors) (below n colors ++ part n colors) (flat_map (λ g. g) (parts n colors) ++ part n colors)
      (one_more n colors) (IsPermutation-append_left (part n colors) (below n colors) (flat_map (λ g. g) (parts n colors)) (joined n colors)))

-- the parts of the nearest entries are the groups of a round
passed : (p : List ℕ → Bool) (P : List ℕ → Type 0) (xs : List (List ℕ)) → ((x : List ℕ) → p x ≡ true → P x) → All P (filter p xs)
passed p P [] h = All-nil P
passed p P (x ∷ xs) h = elim (cases_Bool (p x)) [
  | inl e ↦ subst (All P) (sym (ap (λ b. cond b (x ∷ filter p xs) (filter p xs)) e)) (All-cons P x (filter p xs) (h x e) (passed p P xs h))
  | inr e ↦ subst (All P) (sym (ap (λ b. cond b (x ∷ filter p xs) (filter p xs)) e)) (passed p P xs h)
]

pub groups_are : (apart : List ℕ → List ℕ → ℕ) (entries colors : List (List ℕ)) (at : List ℕ → ℕ) → ((color : List ℕ) → IsNearestBy apart entries color (at color))
    → AreGroupsBy apart entries colors (parts at (length entries) colors)
groups_are apart entries colors at h = record {
  many = length-parts at (length entries) colors;
  all = subst (λ l. IsPermutation l (flat_map (λ g. g) (parts at (length entries) colors)))
      (all_below at (length entries) colors (λ c. (h c).stands)) (joined at (length entries) colors);
  nearest = λ i inside. subst (All (λ c. IsNearestBy apart entries c i)) (sym (part_of at (length entries) i colors inside))
      (passed (λ c. nat_eq (at c) i) (λ c. IsNearestBy apart entries c i) colors (λ c e. subst (IsNearestBy apart entries c) (eqb-true (at c) i e) (h c)));
}

-- an entry by the sums of its colors
pub sum_kept : (p : List ℕ → Bool) (f : List ℕ → ℕ) (xs : List (List ℕ)) → sum_of p f xs ≡ sum_by f (filter p xs)
sum_kept p f [] = refl
sum_kept p f (x ∷ xs) = elim (cases_Bool (p x)) [
  | inl e ↦
      sum_by-cons (λ c. cond (p c) (f c) 0) x xs ∙ ap (λ b. cond b (f x) 0 + sum_of p f xs) e ∙ ap (λ n. f x + n) (sum_kept p f xs)
      ∙ sym (sum_by-cons f x (filter p xs)) ∙ sym (ap (λ b. sum_by f (cond b (x ∷ filter p xs) (filter p xs))) e)
  | inr e ↦
      sum_by-cons (λ c. cond (p c) (f c) 0) x xs ∙ ap (λ b. cond b (f x) 0 + sum_of p f xs) e
      ∙ (let none : 0 + sum_of p f xs ≡ sum_of p f xs = omega arith in none) ∙ sum_kept p f xs
      ∙ sym (ap (λ b. sum_by f (cond b (x ∷ filter p xs) (filter p xs))) e)
]

settled_is : (sums : Sums) (entry : List ℕ) (group : List (List ℕ)) → sums.count ≡ length group → sums.red ≡ sum_in 0 group → sums.green ≡ sum_in 1 group
    → sums.blue ≡ sum_in 2 group → settled sums entry ≡ refined entry group
settled_is sums entry [] count red green blue = ap (λ b. cond b entry (mean_by sums)) (eq-eqb sums.count 0 count)
settled_is sums entry (c ∷ group) count red green blue =
    ap (λ b. cond b entry (mean_by sums)) (ne_eqb sums.count 0 (λ e. omega (arith, count, e))) ∙ rw (count, red, green, blue) refl

-- the sums of an entry are those of bytes
pub sums_few : (entries items : List (List ℕ)) (pairs n m : ℕ) (sums : List Sums) (d : Sums) → m ≡ length entries
    → AreItemGroups entries items pairs n (take m sums) → (k : ℕ) → k < m → AreOfBytes (get_or sums k d)
sums_few entries items pairs n m sums d e grouped k inside =
    subst AreOfBytes (get_or-take m sums k d inside) (grouped.bytes k d (omega (arith, e, inside)))

-- the first i entries have moved by their sums, and the others stand
pub record AreMoved (old new : List (List ℕ)) (sums : List Sums) (d : Sums) (i : ℕ) : Type 0 where
  pub many : length new ≡ length old
  pub moved : (k : ℕ) → k < i → get_or new k [] ≡ settled (get_or sums k d) (get_or old k [])
  pub stand : (k : ℕ) → i ≤ k → get_or new k [] ≡ get_or old k []

pub none_moved : (old : List (List ℕ)) (sums : List Sums) (d : Sums) → AreMoved old old sums d 0
none_moved old sums d = record { many = refl; moved = λ k b. absurd (omega arith); stand = λ k b. refl }

-- one more moves, or has no color
pub one_moves : (old : List (List ℕ)) (es : List Color) (sums : List Sums) (d : Sums) (i : ℕ) (x : Color) → i < length es → 0 < (get_or sums i d).count
    → numbers x ≡ mean_by (get_or sums i d) → AreMoved old (map numbers es) sums d i → AreMoved old (map numbers (set es i x)) sums d (i + 1)
one_moves old es sums d i x inside some e h =
    let written : map numbers (set es i x) ≡ set (map numbers es) i (numbers x) = map-set numbers es i x in
    let here : (k : ℕ) → k ≡ i → get_or (map numbers (set es i x)) k [] ≡ numbers x =
    (λ k same. ap (λ l. get_or l k []) written ∙ get_or-set_at (map numbers es) i k (numbers x) [] same (omega (arith, length-map es numbers))) in
    let there : (k : ℕ) → k ≢ i → get_or (map numbers (set es i x)) k [] ≡ get_or (map numbers es) k [] =
    (λ k apart. ap (λ l. get_or l k []) written ∙ get_or-set_other (map numbers es) i k (numbers x) [] apart) in
    record {
      many = ap length written ∙ length-set (map numbers es) i (numbers x) ∙ h.many;
      moved = λ k b. elim (cases_lt k i) [
        | inl l ↦ (let apart : k ≢ i = (λ q. omega arith) in there k apart ∙ h.moved k l)
        | inr l ↦
            let same : k ≡ i = omega arith in
            here k same ∙ e ∙ ap (λ j. mean_by (get_or sums j d)) (sym same)
            ∙ sym (ap (λ b. cond b (get_or old k []) (mean_by (get_or sums k d)))
            (ne_eqb (get_or sums k d).count 0 (subst (λ j. (get_or sums j d).count ≡ 0 → ⊥) (sym same) (λ z. omega arith))))
      ];
      stand = λ k b. let apart : k ≢ i = (λ q. omega arith) in there k apart ∙ h.stand k (omega arith);
    }

pub one_stays : (old new : List (List ℕ)) (sums : List Sums) (d : Sums) (i : ℕ) → (get_or sums i d).count ≡ 0 → AreMoved old new sums d i
    → AreMoved old new sums d (i + 1)
one_stays old new sums d i none h = record {
  many = h.many;
  moved = λ k b. elim (cases_lt k i) [
    | inl l ↦ h.moved k l
    | inr l ↦
        let same : i ≡ k = omega arith in
        h.stand k l
        ∙ sym (ap (λ b. cond b (get_or old k []) (mean_by (get_or sums k d)))
        (eq-eqb (get_or sums k d).count 0 (subst (λ j. (get_or sums j d).count ≡ 0) same none)))
  ];
  stand = λ k b. h.stand k (omega arith);
}

-- colors that are the same have the same numbers
same_numbers : (p q : Color) → same_color (numbers p) (numbers q) ≡ true → numbers p ≡ numbers q
same_numbers p q e =
    let outer = and_parts (nat_eq p.red q.red && nat_eq p.green q.green) (nat_eq p.blue q.blue) e in
    let inner = and_parts (nat_eq p.red q.red) (nat_eq p.green q.green) outer.0 in
    rw (eqb-true p.red q.red inner.0, eqb-true p.green q.green inner.1, eqb-true p.blue q.blue outer.1) refl

-- no entry has moved, where none had and the next one does not
pub same_more_by : {X : Type 0} (f : X → List ℕ) (start : List (List ℕ)) (es : List X) (i : ℕ) (x d : X) (moved same new : Bool)
    → (same ≡ true → f x ≡ f (get_or es i d)) → new ≡ (moved || not same) → (moved ≡ false → map f es ≡ start) → new ≡ false → map f (set es i x) ≡ start
same_more_by f start es i x d true same new e is h g = absurd (true≢false (sym is ∙ g))
same_more_by f start es i x d false false new e is h g = absurd (true≢false (sym is ∙ g))
same_more_by f start es i x d false true new e is h g = map-set_same f es i x d (e refl) ∙ h refl

pub same_more : (start : List (List ℕ)) (es : List Color) (i : ℕ) (x d : Color) (moved same new : Bool) → same ≡ same_color (numbers x) (numbers (get_or es i d))
    → new ≡ (moved || not same) → (moved ≡ false → map numbers es ≡ start) → new ≡ false → map numbers (set es i x) ≡ start
same_more start es i x d moved same new e is h g =
    same_more_by numbers start es i x d moved same new (λ t. same_numbers x (get_or es i d) (sym e ∙ t)) is h g

-- the sums of the items are those of the colors
sums_of_items : (p : List ℕ → Bool) (colors items : List (List ℕ)) (pairs singles : ℕ) (sums : Sums) → AreItemsOf colors items pairs singles
    → AreItemSums p items pairs (pairs + singles) sums → AreSums p colors sums
sums_of_items p colors items pairs singles sums are h = record {
  count = h.count ∙ sym (are (λ c. cond (p c) 1 0));
  red = h.red ∙ sym (are (λ c. cond (p c) (get_or c 0 0) 0));
  green = h.green ∙ sym (are (λ c. cond (p c) (get_or c 1 0) 0));
  blue = h.blue ∙ sym (are (λ c. cond (p c) (get_or c 2 0) 0));
}

-- the round
pub round_made : (old colors items new : List (List ℕ)) (pairs singles n i : ℕ) (sums : List Sums) (d : Sums) → 0 < n → n ≡ length old → n ≤ i
    → AreItemsOf colors items pairs singles → AreItemGroups old items pairs (pairs + singles) (take n sums) → AreMoved old new sums d i → IsRound colors old new
round_made old colors items new pairs singles n i sums d some e all of_items grouped h =
    let at : List ℕ → ℕ = (λ c. (nearest_at distance old (omega (arith, e, some)) c).0) in
    let nearest : (c : List ℕ) → IsNearest old c (at c) = (λ c. (nearest_at distance old (omega (arith, e, some)) c).1) in
    record {
      groups = parts at (length old) colors;
      are = groups_are distance old colors at nearest;
      many = h.many;
      each = λ k inside.
          let taken : AreItemSums (λ c. nat_eq (at c) k) items pairs (pairs + singles) (get_or sums k d) =
          subst (AreItemSums (λ c. nat_eq (at c) k) items pairs (pairs + singles)) (get_or-take n sums k d (omega (arith, e, inside)))
          (grouped.parts at nearest k d inside) in
          let s : AreSums (λ c. nat_eq (at c) k) colors (get_or sums k d) =
          sums_of_items (λ c. nat_eq (at c) k) colors items pairs singles (get_or sums k d) of_items taken in
          h.moved k (omega (arith, e, inside, all))
          ∙ settled_is (get_or sums k d) (get_or old k []) (part at k colors) (s.count ∙ sym (length-filter (λ c. nat_eq (at c) k) colors))
          (s.red ∙ sum_kept (λ c. nat_eq (at c) k) (λ c. get_or c 0 0) colors)
          (s.green ∙ sum_kept (λ c. nat_eq (at c) k) (λ c. get_or c 1 0) colors)
          (s.blue ∙ sum_kept (λ c. nat_eq (at c) k) (λ c. get_or c 2 0) colors)
          ∙ ap (refined (get_or old k [])) (sym (part_of at (length old) k colors inside));
    }
