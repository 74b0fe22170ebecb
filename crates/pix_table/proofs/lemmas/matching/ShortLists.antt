-- The entries of a cell, one after the other, and the nearest of those of its list.
use Rattle.std.specs.Prelude.{min}
use Rattle.std.proofs.Common.{◌≡◌, ◌≢◌, ◌⊎◌, ℕ, zero, suc, ◌+◌, ◌*◌, ◌%◌, ◌<◌, ◌≤◌, List, [], length, map, get_or, set, length-set, refl, sym, ap, ◌∙◌, subst, arith, inl, inr}
use Rattle.std.proofs.lemmas.Bool.{cases_lt, cases_order}
use Rattle.std.proofs.lemmas.List.{get_or-set_other, get_or-map}
use Rattle.std.proofs.lemmas.Grind.{get_or-set_at}
use Rattle.std.proofs.Math.Nat.{min-eq_left, min-eq_right}
use Rattle.pix_table.specs.matching.Nearest.{distance, distance_to, IsNearest, numbers}
use Rattle.pix_table.specs.matching.EntryLanes.{AreChosen}
use Rattle.pix_table.specs.matching.InverseMap.{IsInside, IsInList, IsBeaten, IsPlaced, IsFirst, IsListFor, IsInverseMap, HasLists, AreEnough, AreShortListed, IsKnown, low_at, reach_at}
use Rattle.pix_table.specs.declared.matching.inverse_map.InverseMap.{InverseMap}
use Rattle.pix_table.specs.declared.matching.inverse_map.ShortList.{ShortList}
use Rattle.pix_table.specs.declared.color.Color.{Color}
use Rattle.pix_table.proofs.lemmas.matching.NearestEntries.{IsNearestBelow, nearest_at_first, nearest_changes, nearest_stays, nearest_of_all}

-- one entry is nearer than another to each color of a cell
abbrev pub IsFarther : List (List ℕ) → (reach : ℕ) → (low : List ℕ) → (near k : ℕ) → Type 0
IsFarther entries reach low near k = (color : List ℕ) → IsInside reach low color → distance_to entries color near < distance_to entries color k

-- the first i entries of a list are sifted: each is on the new list, or `near` is nearer to each
-- color of the cell
pub record AreSifted (entries : List (List ℕ)) (reach : ℕ) (low : List ℕ) (near : ℕ) (from : ℕ → ℕ) (i : ℕ) (short_list : ℕ → ℕ) (count : ℕ) : Type 0 where
  pub below : (p : ℕ) → p < count → short_list p < length entries
  pub each : (q : ℕ) → q < i → IsInList short_list count (from q) ⊎ IsFarther entries reach low near (from q)

pub none_sifted : (entries : List (List ℕ)) (reach : ℕ) (low : List ℕ) (near : ℕ) (from short_list : ℕ → ℕ) → AreSifted entries reach low near from 0 short_list 0
none_sifted entries reach low near from short_list = record {
  below = λ p h. absurd (omega arith);
  each = λ k h. absurd (omega arith);
}

-- a list that is as it was before its end
listed_before : (lists : List ℕ) (start count i p : ℕ) → p < count → get_or (set lists (start + count) i) (start + p) 0 ≡ get_or lists (start + p) 0
listed_before lists start count i p b =
    let apart : start + p ≢ start + count = (λ e. omega arith) in get_or-set_other lists (start + count) (start + p) i 0 apart

listed_still : (f g : ℕ → ℕ) (count more k : ℕ) → count ≤ more → ((p : ℕ) → p < count → g p ≡ f p) → IsInList f count k → IsInList g more k
listed_still f g count more k grows same l = record {
  at = l.at;
  below = (let b : l.at < count = l.below in omega arith);
  same = same l.at l.below ∙ l.same;
}

-- one more that is farther, also where it was written behind the list
pub sifted_out : (entries : List (List ℕ)) (reach : ℕ) (low : List ℕ) (near : ℕ) (from : ℕ → ℕ) (i x : ℕ) (lists : List ℕ) (start count : ℕ)
    → AreSifted entries reach low near from i (λ p. get_or lists (start + p) 0) count → IsFarther entries reach low near (from i)
    → AreSifted entries reach low near from (i + 1) (λ p. get_or (set lists (start + count) x) (start + p) 0) count
sifted_out entries reach low near from i x lists start count h farther =
    let before = listed_before lists start count x in
    record {
      below = λ p b. omega (arith, before p b, h.below p b);
      each = λ q b. elim (cases_lt q i) [
        | inl c ↦ elim (h.each q c) [
          | inl l ↦ inl (listed_still _ _ count count (from q) (omega arith) before l)
          | inr f ↦ inr f
        ]
        | inr c ↦ let e : i ≡ q = omega arith in inr (subst (λ j. IsFarther entries reach low near (from j)) e farther)
      ];
    }

-- one more that is on the new list
pub sifted_in : (entries : List (List ℕ)) (reach : ℕ) (low : List ℕ) (near : ℕ) (from : ℕ → ℕ) (i x : ℕ) (lists : List ℕ) (start count : ℕ)
    → start + count < length lists → x ≡ from i → x < length entries
    → AreSifted entries reach low near from i (λ p. get_or lists (start + p) 0) count
    → AreSifted entries reach low near from (i + 1) (λ p. get_or (set lists (start + count) x) (start + p) 0) (count + 1)
sifted_in entries reach low near from i x lists start count room is stands h =
    let before = listed_before lists start count x in
    let here : (p : ℕ) → p ≡ count → get_or (set lists (start + count) x) (start + p) 0 ≡ x =
    (λ p e. let same : start + p ≡ start + count = omega arith in get_or-set_at lists (start + count) (start + p) x 0 same room) in
    record {
      below = λ p b. elim (cases_lt p count) [
        | inl c ↦ omega (arith, before p c, h.below p c)
        | inr c ↦ omega (arith, here p (omega arith), stands)
      ];
      each = λ q b. elim (cases_lt q i) [
        | inl c ↦ elim (h.each q c) [
          | inl l ↦ inl (listed_still _ _ count (count + 1) (from q) (omega arith) before l)
          | inr f ↦ inr f
        ]
        | inr c ↦ let e : i ≡ q = omega arith in inl (record { at = count; below = omega arith; same = here count refl ∙ is ∙ ap from e })
      ];
    }

-- there is a nearest among the first i entries, and so among all
pub record HasNearestBelow (entries : List (List ℕ)) (color : List ℕ) (i : ℕ) : Type 0 where
  pub at : ℕ
  pub far : ℕ
  pub nearest : IsNearestBelow entries color i at far

some_nearest_below : (entries : List (List ℕ)) (color : List ℕ) (i : ℕ) → 0 < length entries → i ≤ length entries → HasNearestBelow entries color i
some_nearest_below entries color zero some within = record { at = 0; far = distance_to entries color 0; nearest = nearest_at_first entries color _ some refl }
some_nearest_below entries color (suc i) some within =
    let h = some_nearest_below entries color i some (omega arith) in
    let one : i + 1 ≡ suc i = omega arith in
    let next : HasNearestBelow entries color (i + 1) = elim (cases_lt (distance_to entries color i) h.far) [
      | inl b ↦ record { at = i; far = distance_to entries color i; nearest = nearest_changes entries color i h.at h.far _ h.nearest (omega arith) refl b }
      | inr b ↦ record { at = h.at; far = h.far; nearest = nearest_stays entries color i h.at h.far (distance_to entries color i) h.nearest refl b }
    ] in
    subst (HasNearestBelow entries color) one next

-- the nearest entry is not beaten
not_beaten : (entries : List (List ℕ)) (color : List ℕ) (near : ℕ) → length entries ≤ 256 → IsNearest entries color near → IsBeaten entries color near → ⊥
not_beaten entries color near few n f = elim (cases_lt f.at near) [
  | inl b ↦ omega (arith, n.first f.at b, f.less, n.stands)
  | inr b ↦ omega (arith, n.least f.at f.stands, f.less)
]

pub some_listed : (entries : List (List ℕ)) (color : List ℕ) (short_list : ℕ → ℕ) (count : ℕ) → 0 < length entries → length entries ≤ 256
    → ((k : ℕ) → k < length entries → IsInList short_list count k ⊎ IsBeaten entries color k) → 0 < count
some_listed entries color short_list count some few all =
    let has = some_nearest_below entries color (length entries) some (omega arith) in
    let n : IsNearest entries color has.at = nearest_of_all entries color (length entries) has.at has.far refl has.nearest in
    elim (all has.at n.stands) [
      | inl l ↦ (let b : l.at < count = l.below in omega arith)
      | inr f ↦ absurd (not_beaten entries color has.at few n f)
    ]

-- a whole list is sifted: what is on the new list is enough where the old one was
pub all_sifted : (entries : List (List ℕ)) (reach : ℕ) (low : List ℕ) (near : ℕ) (from : ℕ → ℕ) (i : ℕ) (short_list : ℕ → ℕ) (count : ℕ)
    → near < length entries → length entries ≤ 256 → AreShortListed entries reach low from i → AreSifted entries reach low near from i short_list count
    → AreShortListed entries reach low short_list count
all_sifted entries reach low near from i short_list count stands few enough h = λ color within.
    let old : AreEnough entries color from i = enough color within in
    let all : (k : ℕ) → k < length entries → IsInList short_list count k ⊎ IsBeaten entries color k =
    (λ k b. elim (old.all k b) [
      | inl l ↦ subst (λ j. IsInList short_list count j ⊎ IsBeaten entries color j) l.same (elim (h.each l.at l.below) [
        | inl m ↦ inl m
        | inr f ↦ inr (record { at = near; stands = stands; less = omega (arith, f color within) })
      ])
      | inr f ↦ inr f
    ]) in
    record {
      some = some_listed entries color short_list count (omega arith) few all;
      inside = h.below;
      all = all;
    }

-- the entries that are chosen for lanes are enough for any color
pub chosen_listed : (entries colors : List (List ℕ)) (indices : List ℕ) (color : List ℕ) (short_list : ℕ → ℕ) (count : ℕ) → 0 < length entries → length entries ≤ 256
    → AreChosen entries (length entries) colors indices count → ((p : ℕ) → p < count → short_list p ≡ get_or indices p 0) → AreEnough entries color short_list count
chosen_listed entries colors indices color short_list count some few h same =
    let all : (k : ℕ) → k < length entries → IsInList short_list count k ⊎ IsBeaten entries color k =
    (λ k b.
    let l = h.whole k b in
    let below : l.at < count = l.below in
    let is : short_list l.at ≡ get_or indices l.at 0 = same l.at below in
    elim (cases_lt (get_or indices l.at 0) k) [
      | inl c ↦
          let stands : get_or indices l.at 0 < length entries = h.stands l.at below in
          let far : distance_to entries color (get_or indices l.at 0) ≡ distance_to entries color k =
          ap (λ c. distance c color) (sym (h.same l.at below) ∙ l.same) in
          inr (record { at = get_or indices l.at 0; stands = stands; less = omega (arith, far, c) })
      | inr c ↦ inl (record { at = l.at; below = below; same = is ∙ omega (arith, c, l.before) })
    ]) in
    record {
      some = some_listed entries color short_list count some few all;
      inside = λ p b. omega (arith, same p b, h.stands p b);
      all = all;
    }

-- the least key of the first i of a list: how far one of them is, 256 times, and its index
pub record IsLeastKey (entries : List (List ℕ)) (color : List ℕ) (short_list : ℕ → ℕ) (count i key : ℕ) : Type 0 where
  pub place : ℕ
  pub below : place < count
  pub is : key ≡ distance_to entries color (short_list place) * 256 + short_list place
  pub least : (p : ℕ) → p < i → key ≤ distance_to entries color (short_list p) * 256 + short_list p

pub key_at_first : (entries : List (List ℕ)) (color : List ℕ) (short_list : ℕ → ℕ) (count at key : ℕ) → 0 < count → at ≡ short_list 0
    → key ≡ distance_to entries color at * 256 + at → IsLeastKey entries color short_list count 1 key
key_at_first entries color short_list count at key some is e =
    let first : key ≡ distance_to entries color (short_list 0) * 256 + short_list 0 = e ∙ ap (λ j. distance_to entries color j * 256 + j) is in
    record {
      place = 0;
      below = some;
      is = first;
      least = λ p b. let z : 0 ≡ p = omega arith in subst (λ j. key ≤ distance_to entries color (short_list j) * 256 + short_list j) z (omega (arith, first));
    }

pub key_next : (entries : List (List ℕ)) (color : List ℕ) (short_list : ℕ → ℕ) (count i key next new : ℕ)
    → IsLeastKey entries color short_list count i key → i < count → next ≡ short_list i
    → new ≡ min key (distance_to entries color next * 256 + next) → IsLeastKey entries color short_list count (i + 1) new
key_next entries color short_list count i key next new h inside is e =
    let here : ℕ = distance_to entries color (short_list i) * 256 + short_list i in
    let other : new ≡ min key here = e ∙ ap (λ j. min key (distance_to entries color j * 256 + j)) is in
    elim (cases_lt here key) [
      | inl b ↦
          let same : new ≡ here = other ∙ min-eq_right {n = here} {m = key} (omega (arith, b)) in
          record {
            place = i;
            below = inside;
            is = same;
            least = λ p c. elim (cases_lt p i) [
              | inl d ↦ omega (arith, same, b, h.least p d)
              | inr d ↦ let z : i ≡ p = omega arith in subst (λ j. new ≤ distance_to entries color (short_list j) * 256 + short_list j) z (omega (arith, same))
            ];
          }
      | inr b ↦
          let same : new ≡ key = other ∙ min-eq_left {n = key} {m = here} (omega (arith, b)) in
          record {
            place = h.place;
            below = h.below;
            is = same ∙ h.is;
            least = λ p c. elim (cases_lt p i) [
              | inl d ↦ omega (arith, same, h.least p d)
              | inr d ↦ let z : i ≡ p = omega arith in subst (λ j. new ≤ distance_to entries color (short_list j) * 256 + short_list j) z (omega (arith, same, b))
            ];
          }
    ]

-- of two keys the lesser one is that of the nearer entry, or of the one before
key_order : (far apart at near : ℕ) → at < 256 → near < 256 → far * 256 + at ≤ apart * 256 + near → apart ≤ far → (far ≡ apart) × (at ≤ near)
key_order far apart at near small less h farther = (omega (arith, small, less, h, farther), omega (arith, small, less, h, farther))

-- the entry of the least key is the nearest of all
nearest_is_listed : (entries : List (List ℕ)) (color : List ℕ) (short_list : ℕ → ℕ) (count i key near : ℕ) → length entries ≤ 256 → count ≤ i
    → AreEnough entries color short_list count → ((p : ℕ) → short_list p < 256) → (h : IsLeastKey entries color short_list count i key) → IsNearest entries color near → near ≡ short_list h.place
nearest_is_listed entries color short_list count i key near few end enough small h n =
    let found : IsInList short_list count near = elim (enough.all near n.stands) [
      | inl l ↦ l
      | inr f ↦ absurd (not_beaten entries color near few n f)
    ] in
    let there : found.at < count = found.below in
    let stands : short_list h.place < length entries = enough.inside h.place h.below in
    let least : key ≤ distance_to entries color near * 256 + near =
    subst (λ j. key ≤ distance_to entries color j * 256 + j) found.same (h.least found.at (omega arith)) in
    let near_small : near < 256 = omega (arith, small found.at, found.same) in
    let keys : distance_to entries color (short_list h.place) * 256 + short_list h.place ≤ distance_to entries color near * 256 + near = omega (arith, least, h.is) in
    let order = key_order (distance_to entries color (short_list h.place)) (distance_to entries color near) (short_list h.place) near (small h.place) near_small keys
    (n.least (short_list h.place) stands) in
    elim (cases_order near (short_list h.place)) [
      | inl e ↦ e
      | inr o ↦ elim o [
        | inl b ↦ absurd (omega (arith, b, order.1))
        | inr b ↦ absurd (omega (arith, n.first (short_list h.place) b, order.0))
      ]
    ]

pub nearest_of_keys : (entries : List (List ℕ)) (color : List ℕ) (short_list : ℕ → ℕ) (count i key : ℕ) → length entries ≤ 256 → count ≤ i
    → AreEnough entries color short_list count → ((p : ℕ) → short_list p < 256) → IsLeastKey entries color short_list count i key → IsNearest entries color (key % 256)
nearest_of_keys entries color short_list count i key few end enough small h =
    let stands : short_list h.place < length entries = enough.inside h.place h.below in
    let some = some_nearest_below entries color (length entries) (omega arith) (omega arith) in
    let nearest : IsNearest entries color some.at = nearest_of_all entries color (length entries) some.at some.far refl some.nearest in
    let same : some.at ≡ short_list h.place = nearest_is_listed entries color short_list count i key some.at few end enough small h nearest in
    let at : key % 256 ≡ short_list h.place = ap (λ k. k % 256) h.is ∙ omega (arith, small h.place) in
    subst (λ j. IsNearest entries color j) (same ∙ sym at) nearest

-- how far an entry is
pub entry_distance : (entries : List Color) (color : List ℕ) (i : ℕ) (d : Color) → i < length entries
    → distance (numbers (get_or entries i d)) color ≡ distance_to (map numbers entries) color i
entry_distance entries color i d below = ap (λ p. distance p color) (sym (get_or-map numbers entries i d [] below))

-- what stands in a list stays there where the lists before it stay
listed_same : (entries : List (List ℕ)) (reach : ℕ) (low : List ℕ) (f g : ℕ → ℕ) (count : ℕ) → ((p : ℕ) → p < count → g p ≡ f p)
    → AreShortListed entries reach low f count → AreShortListed entries reach low g count
listed_same entries reach low f g count same h = λ color within.
    let e = h color within in
    record {
      some = e.some;
      inside = λ p b. omega (arith, e.inside p b, same p b);
      all = λ k b. elim (e.all k b) [
        | inl l ↦ inl (listed_still f g count count k (omega arith) same l)
        | inr f ↦ inr f
      ];
    }

-- a cell stays known where the lists grow
pub known_stays : (entries : List (List ℕ)) (old new : List ℕ) (used more k : ℕ) (known : ShortList) → used ≤ more → ((k : ℕ) → k < used → get_or new k 0 ≡ get_or old k 0)
    → IsKnown entries old used k known → IsKnown entries new more k known
known_stays entries old new used more k known grows same h = λ some.
    let placed : IsPlaced used known = (h some).0 in
    let inside : known.start + known.count ≤ used = placed.before in (
      record { few = placed.few; before = omega arith },
      listed_same entries _ _ (λ p. get_or old (known.start + p) 0) (λ p. get_or new (known.start + p) 0) known.count
          (λ p b. same (known.start + p) (omega arith)) (h some).1,
    )

-- with one cell more
pub known_more : (entries : List (List ℕ)) (old new : List ℕ) (used more at : ℕ) (places : List ShortList) (known : ShortList) → used ≤ more
    → ((k : ℕ) → k < used → get_or new k 0 ≡ get_or old k 0)
    → ((k : ℕ) (d : ShortList) → k < length places → IsKnown entries old used k (get_or places k d)) → IsKnown entries new more at known
    → (k : ℕ) (d : ShortList) → k < length (set places at known) → IsKnown entries new more k (get_or (set places at known) k d)
known_more entries old new used more at places known grows same h here k d below =
    let inside : k < length places = omega (arith, below, length-set places at known) in
    elim (cases_order k at) [
      | inl e ↦
          let put : get_or (set places at known) k d ≡ known = get_or-set_at places at k known d e (omega arith) in
          subst (λ n. IsKnown entries new more k n) (sym put) (subst (λ j. IsKnown entries new more j known) (sym e) here)
      | inr o ↦
          let apart : k ≢ at = (λ e. elim o [ inl b ↦ omega arith | inr b ↦ omega arith ]) in
          subst (λ n. IsKnown entries new more k n) (sym (get_or-set_other places at k known d apart))
          (known_stays entries old new used more k (get_or places k d) grows same (h k d inside))
    ]

-- cells of which none has a list
pub empty_cells : (entries : List (List ℕ)) (cells : InverseMap) → length cells.known ≡ 37440 → length cells.lists ≡ 65539 → cells.used ≤ 65536
    → (0 < cells.first → IsFirst entries cells) → ((k : ℕ) (d : ShortList) → k < length cells.known → (get_or cells.known k d).count ≡ 0) → IsInverseMap entries cells
empty_cells entries cells places lists used first none = record {
  places = places;
  lists = lists;
  used = used;
  first = first;
  none = λ e. none;
  known = λ k d b some. absurd (omega (arith, none k d b));
}

-- entries that are enough are so on a list that is the same as far as it goes
enough_same : (entries : List (List ℕ)) (color : List ℕ) (f g : ℕ → ℕ) (count : ℕ) → ((p : ℕ) → p < count → g p ≡ f p) → AreEnough entries color f count
    → AreEnough entries color g count
enough_same entries color f g count same e = record {
  some = e.some;
  inside = λ p b. omega (arith, e.inside p b, same p b);
  all = λ k b. elim (e.all k b) [
    | inl l ↦ inl (listed_still f g count count k (omega arith) same l)
    | inr f ↦ inr f
  ];
}

-- a list for a cell is its list
pub known_as : (entries : List (List ℕ)) (cells : InverseMap) (place : ℕ) (known : ShortList) → IsListFor entries cells place known
    → IsKnown entries cells.lists cells.used place known
known_as entries cells place known h = λ some. (h.placed, h.short_list)

-- the list that a cell has is one for it
pub list_of : (entries : List (List ℕ)) (cells : InverseMap) (place : ℕ) (d : ShortList) → IsInverseMap entries cells → place < 37440 → 0 < (get_or cells.known place d).count
    → IsListFor entries cells place (get_or cells.known place d)
list_of entries cells place d h below some =
    let known = h.known place d (omega (arith, h.places)) some in
    record { some = some; placed = known.0; short_list = known.1 }

-- the first list is one for any cell
pub first_for : (entries : List (List ℕ)) (cells : InverseMap) (place : ℕ) → IsInverseMap entries cells → 0 < cells.first
    → IsListFor entries cells place (record { start = 0; count = cells.first })
first_for entries cells place h some =
    let first = h.first some in
    let few : cells.first ≤ 256 = first.few in
    let begun : 256 ≤ cells.used = first.begun in
    record { some = some; placed = record { few = few; before = omega arith }; short_list = λ color inside. first.enough color }

-- a list for a cell is one for a cell inside it
pub list_inside : (entries : List (List ℕ)) (cells : InverseMap) (around place : ℕ) (known : ShortList) → IsListFor entries cells around known
    → ((color : List ℕ) → IsInside (reach_at place) (low_at place) color → IsInside (reach_at around) (low_at around) color)
    → IsListFor entries cells place known
list_inside entries cells around place known h inside =
    record { some = h.some; placed = h.placed; short_list = λ color b. h.short_list color (inside color b) }

-- cells with a list for one of them more, behind the others or among them
pub cells_more : (entries : List (List ℕ)) (old new : InverseMap) (place : ℕ) (known : ShortList) → IsInverseMap entries old → 0 < old.first
    → new.known ≡ set old.known place known → new.first ≡ old.first → length new.lists ≡ 65539 → old.used ≤ new.used → new.used ≤ 65536
    → ((k : ℕ) → k < old.used → get_or new.lists k 0 ≡ get_or old.lists k 0) → IsKnown entries new.lists new.used place known → IsInverseMap entries new
cells_more entries old new place known h begun e f long more room same here =
    let first = h.first begun in
    let few : old.first ≤ 256 = first.few in
    let used : 256 ≤ old.used = first.begun in
    record {
      places = ap length e ∙ length-set old.known place known ∙ h.places;
      lists = long;
      used = room;
      first = λ some. record {
        few = omega (arith, f);
        begun = omega arith;
        enough = λ color.
            subst (λ n. AreEnough entries color (λ p. get_or new.lists (0 + p) 0) n) (sym f)
            (enough_same entries color (λ p. get_or old.lists (0 + p) 0) (λ p. get_or new.lists (0 + p) 0) old.first
            (λ p b. same (0 + p) (omega arith)) (first.enough color));
      };
      none = λ z. absurd (omega (arith, f, z, begun));
      known = λ k d b.
          let inside : k < length (set old.known place known) = omega (arith, ap length e, b) in
          subst (λ (ks : List ShortList). IsKnown entries new.lists new.used k (get_or ks k d)) (sym e)
          (known_more entries old.lists new.lists old.used new.used place old.known known more same h.known here k d inside);
    }

-- cells with the same lists
pub cells_same : (entries : List (List ℕ)) (old new : InverseMap) → HasLists old new → IsInverseMap entries old → IsInverseMap entries new
cells_same entries old new s h = record {
  places = ap length s.known ∙ h.places;
  lists = ap length s.lists ∙ h.lists;
  used = omega (arith, s.used, h.used);
  first = λ some.
      let first = h.first (omega (arith, s.first, some)) in
      record {
        few = omega (arith, s.first, first.few);
        begun = omega (arith, s.used, first.begun);
        enough = λ color.
            subst (λ n. AreEnough entries color (λ p. get_or new.lists (0 + p) 0) n) (sym s.first)
            (enough_same entries color (λ p. get_or old.lists (0 + p) 0) (λ p. get_or new.lists (0 + p) 0) old.first
            (λ p b. ap (λ ls. get_or ls (0 + p) 0) s.lists) (first.enough color));
      };
  none = λ z k d b. ap (λ (ks : List ShortList). (get_or ks k d).count) s.known ∙ h.none (omega (arith, s.first, z)) k d (omega (arith, ap length s.known, b));
  known = λ k d b.
      subst (λ (ks : List ShortList). IsKnown entries new.lists new.used k (get_or ks k d)) (sym s.known)
      (known_stays entries old.lists new.lists old.used new.used k (get_or old.known k d) (omega (arith, s.used))
      (λ j c. ap (λ ls. get_or ls j 0) s.lists) (h.known k d (omega (arith, ap length s.known, b))));
}

pub list_same : (entries : List (List ℕ)) (old new : InverseMap) (place : ℕ) (known : ShortList) → HasLists old new → IsListFor entries old place known
    → IsListFor entries new place known
list_same entries old new place known s h =
    let placed : IsPlaced old.used known = h.placed in
    let before : known.start + known.count ≤ old.used = placed.before in
    record {
      some = h.some;
      placed = record { few = placed.few; before = omega (arith, s.used) };
      short_list = listed_same entries (reach_at place) (low_at place) (λ p. get_or old.lists (known.start + p) 0) (λ p. get_or new.lists (known.start + p) 0) known.count
          (λ p b. ap (λ ls. get_or ls (known.start + p) 0) s.lists) h.short_list;
    }
