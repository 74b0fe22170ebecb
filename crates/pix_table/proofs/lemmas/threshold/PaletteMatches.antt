-- The candidates of a color, one entry after the other.
use Rattle.std.specs.Prelude.{slice_index_or, ◌&&◌, not}
use Rattle.pix_table.specs.quantization.Quantization.{same_color}
use Rattle.std.proofs.Common.{◌≡◌, ◌≢◌, ℕ, zero, suc, ◌+◌, ◌<◌, ◌≤◌, true, false, List, [], ◌∷◌, ◌++◌, length, refl, arith, sym, ap, ◌∙◌, subst, ◌⊎◌, inl, inr}
use Rattle.std.proofs.lemmas.Bool.{cases_lt, cases_order, true≢false, false_from_ne_true}
use Rattle.std.proofs.lemmas.Bool.Decides.{nat_tests}
use Rattle.pix_table.specs.threshold.ColorBlocks.{IsBest}
use Rattle.pix_table.specs.threshold.PaletteMatch.{difference_to, is_within, is_closer, IsNext, AreCandidates, IsMatch, IsMinimal, IsFirstOf}

-- the next candidate stays the next with one entry more
next_stays : (d : ℕ → List ℕ) (n i j : ℕ) → IsNext d n i j → IsNext d (n + 1) i j
next_stays d n i j next = record { later = next.later; stands = (let s : j < n = next.stands in omega arith); closer = next.closer; first = next.first }

-- an entry that is closer than the last candidate is the next one
pub candidates_closer : (d : ℕ → List ℕ) (n i : ℕ) (candidates : List ℕ) (m : ℕ) → i < n → AreCandidates d n i candidates m
    → is_closer (d n) (d m) ≡ true → AreCandidates d (n + 1) i (candidates ++ n ∷ []) n
candidates_closer d n i [] m below h closer = (
  record { later = below; stands = omega arith; closer = subst (λ k. is_closer (d n) (d k) ≡ true) h.0 closer; first = h.1 },
  (refl, λ k after before. absurd (omega arith)),
)
candidates_closer d n i (j ∷ candidates) m below h closer =
    (next_stays d n i j h.0, candidates_closer d n j candidates m h.0.stands h.1 closer)

-- one that is not leaves the candidates as they are
pub candidates_stay : (d : ℕ → List ℕ) (n i : ℕ) (candidates : List ℕ) (m : ℕ) → AreCandidates d n i candidates m
    → is_closer (d n) (d m) ≡ false → AreCandidates d (n + 1) i candidates m
candidates_stay d n i [] m h not_closer = (
  h.0,
  λ k after before. elim (cases_lt k n) [
    | inl b ↦ h.1 k after b
    | inr b ↦ let e : n ≡ k = omega arith in
        subst (λ l. is_closer (d k) (d l) ≡ false) h.0 (subst (λ l. is_closer (d l) (d m) ≡ false) e not_closer)
  ],
)
candidates_stay d n i (j ∷ candidates) m h not_closer = (next_stays d n i j h.0, candidates_stay d n j candidates m h.1 not_closer)

-- what being closer means of three channels
record Less (x y z a b c : ℕ) : Type 0 where
  pub red : x ≤ a
  pub green : y ≤ b
  pub blue : z ≤ c
  pub sum : x + y + z < a + b + c

less_of_closer : (x y z a b c : ℕ) → is_closer (x ∷ y ∷ z ∷ []) (a ∷ b ∷ c ∷ []) ≡ true → Less x y z a b c
less_of_closer x y z a b c h = record { red = grind (arith, nat_tests); green = grind (arith, nat_tests); blue = grind (arith, nat_tests); sum = grind (arith, nat_tests) }

closer_of_less : (x y z a b c : ℕ) → Less x y z a b c → is_closer (x ∷ y ∷ z ∷ []) (a ∷ b ∷ c ∷ []) ≡ true
closer_of_less x y z a b c h =
    let red : x ≤ a = h.red in
    let green : y ≤ b = h.green in
    let blue : z ≤ c = h.blue in
    let sum : x + y + z < a + b + c = h.sum in
    grind (arith, nat_tests)

-- the channels of a difference
abbrev three : List ℕ → List ℕ
three p = slice_index_or p 0 0 ∷ slice_index_or p 1 0 ∷ slice_index_or p 2 0 ∷ []

abbrev LessThan : List ℕ → List ℕ → Type 0
LessThan p q = Less (slice_index_or p 0 0) (slice_index_or p 1 0) (slice_index_or p 2 0) (slice_index_or q 0 0) (slice_index_or q 1 0) (slice_index_or q 2 0)

closer_trans : (p q r : List ℕ) → is_closer (three p) (three q) ≡ true → is_closer (three q) (three r) ≡ true → is_closer (three p) (three r) ≡ true
closer_trans p q r h k =
    let one : LessThan p q = less_of_closer _ _ _ _ _ _ h in
    let two : LessThan q r = less_of_closer _ _ _ _ _ _ k in
    let both : LessThan p r = record {
      red = omega (arith, one.red, two.red);
      green = omega (arith, one.green, two.green);
      blue = omega (arith, one.blue, two.blue);
      sum = omega (arith, one.sum, two.sum);
    } in
    closer_of_less _ _ _ _ _ _ both

closer_irreflexive : (p : List ℕ) → is_closer (three p) (three p) ≡ false
closer_irreflexive p = grind (arith, nat_tests)

-- being closer is a strict order among the differences
record IsOrdered (d : ℕ → List ℕ) : Type 0 where
  pub transitive : (a b c : ℕ) → is_closer (d a) (d b) ≡ true → is_closer (d b) (d c) ≡ true → is_closer (d a) (d c) ≡ true
  pub irreflexive : (a : ℕ) → is_closer (d a) (d a) ≡ false

differences_ordered : (entries : List (List ℕ)) (color : List ℕ) → IsOrdered (difference_to entries color)
differences_ordered entries color = record {
  transitive = λ a b c h k. closer_trans (difference_to entries color a) (difference_to entries color b) (difference_to entries color c) h k;
  irreflexive = λ a. closer_irreflexive (difference_to entries color a);
}

-- the last candidate is the first one or closer than it
last_closer : (d : ℕ → List ℕ) → IsOrdered d → (n i : ℕ) (candidates : List ℕ) (m : ℕ) → AreCandidates d n i candidates m
    → (m ≡ i) ⊎ (is_closer (d m) (d i) ≡ true)
last_closer d o n i [] m h = inl h.0
last_closer d o n i (j ∷ candidates) m h = inr (elim (last_closer d o n j candidates m h.1) [
  | inl e ↦ subst (λ k. is_closer (d k) (d i) ≡ true) (sym e) h.0.closer
  | inr closer ↦ o.transitive m j i closer h.0.closer
])

-- no entry before the next candidate is closer
none_before : (d : ℕ → List ℕ) → IsOrdered d → (n i j : ℕ) → IsNext d n i j → (k : ℕ) → i ≤ k → k < j → is_closer (d k) (d i) ≡ false
none_before d o n i j next k from below = elim (cases_lt i k) [
  | inl b ↦ next.first k b below
  | inr b ↦ let e : i ≡ k = omega arith in subst (λ l. is_closer (d l) (d i) ≡ false) e (o.irreflexive i)
]

-- no entry is closer than the last candidate
none_closer : (d : ℕ → List ℕ) → IsOrdered d → (n i : ℕ) (candidates : List ℕ) (m : ℕ) → AreCandidates d n i candidates m
    → (k : ℕ) → i ≤ k → k < n → is_closer (d k) (d m) ≡ false
none_closer d o n i [] m h k from below =
    subst (λ l. is_closer (d k) (d l) ≡ false) (sym h.0) (elim (cases_lt i k) [
      | inl b ↦ h.1 k b below
      | inr b ↦ let e : i ≡ k = omega arith in subst (λ l. is_closer (d l) (d i) ≡ false) e (o.irreflexive i)
    ])
none_closer d o n i (j ∷ candidates) m h k from below = elim (cases_lt k j) [
  | inl b ↦ false_from_ne_true _ (λ closer. true≢false (elim (last_closer d o n i (j ∷ candidates) m h) [
    | inl e ↦ sym (subst (λ l. is_closer (d k) (d l) ≡ true) e closer) ∙ none_before d o n i j h.0 k from b
    | inr c ↦ sym (o.transitive k m i closer c) ∙ none_before d o n i j h.0 k from b
  ]))
  | inr b ↦ none_closer d o n j candidates m h.1 k b below
]

-- no entry before the last candidate has its difference
none_equal : (d : ℕ → List ℕ) → IsOrdered d → (n i : ℕ) (candidates : List ℕ) (m : ℕ) → AreCandidates d n i candidates m
    → (k : ℕ) → i ≤ k → k < m → d k ≢ d m
none_equal d o n i [] m h k from below = λ e. absurd (let is : m ≡ i = h.0 in omega arith)
none_equal d o n i (j ∷ candidates) m h k from below = elim (cases_lt k j) [
  | inl b ↦ λ e. absurd (true≢false (elim (last_closer d o n j candidates m h.1) [
    | inl same ↦ sym (subst (λ l. is_closer l (d i) ≡ true) (ap d (sym same) ∙ sym e) h.0.closer) ∙ none_before d o n i j h.0 k from b
    | inr c ↦ sym (subst (λ l. is_closer l (d i) ≡ true) (sym e) (o.transitive m j i c h.0.closer)) ∙ none_before d o n i j h.0 k from b
  ]))
  | inr b ↦ none_equal d o n j candidates m h.1 k b below
]

within_of_closer : (p q : List ℕ) → is_closer (three p) (three q) ≡ true → is_within (three p) (three q) ≡ true
within_of_closer p q h = grind (arith, nat_tests)

within_itself : (p : List ℕ) → is_within (three p) (three p) ≡ true
within_itself p = grind (arith, nat_tests)

-- the match is minimal
pub match_minimal : (entries : List (List ℕ)) (color : List ℕ) (m : ℕ) → IsMatch entries color m → IsMinimal entries color m
match_minimal entries color m h =
    let o : IsOrdered (difference_to entries color) = differences_ordered entries color in
    record {
      none_closer = λ k below. none_closer (difference_to entries color) o (length entries) 0 h.candidates m h.last k (omega arith) below;
      first = λ k below. none_equal (difference_to entries color) o (length entries) 0 h.candidates m h.last k (omega arith) below;
      no_worse = elim (last_closer (difference_to entries color) o (length entries) 0 h.candidates m h.last) [
        | inl e ↦ subst (λ k. is_within (difference_to entries color m) (difference_to entries color k) ≡ true) e (within_itself (difference_to entries color m))
        | inr closer ↦ within_of_closer (difference_to entries color m) (difference_to entries color 0) closer
      ];
    }

-- a difference that is not farther than 0 is 0
pub zero_least : (p : List ℕ) → is_closer (0 ∷ 0 ∷ 0 ∷ []) (three p) ≡ false → three p ≡ 0 ∷ 0 ∷ 0 ∷ []
zero_least p h =
    let red : slice_index_or p 0 0 ≡ 0 = grind (arith, nat_tests) in
    let green : slice_index_or p 1 0 ≡ 0 = grind (arith, nat_tests) in
    let blue : slice_index_or p 2 0 ≡ 0 = grind (arith, nat_tests) in
    rw (red, green, blue) refl

-- the match of a color that stands is its first entry
pub match_of_standing : (entries : List (List ℕ)) (color : List ℕ) (m i : ℕ) → IsMatch entries color m → IsFirstOf entries color i → m ≡ i
match_of_standing entries color m i h f =
    let near : IsMinimal entries color m = match_minimal entries color m h in
    let none : is_closer (0 ∷ 0 ∷ 0 ∷ []) (difference_to entries color m) ≡ false =
    subst (λ p. is_closer p (difference_to entries color m) ≡ false) f.same (near.none_closer i f.stands) in
    let zero_too : difference_to entries color m ≡ 0 ∷ 0 ∷ 0 ∷ [] = zero_least (difference_to entries color m) none in
    elim (cases_order m i) [
      | inl e ↦ e
      | inr o ↦ elim o [
        | inl b ↦ absurd (f.first m b zero_too)
        | inr b ↦ absurd (near.first i b (f.same ∙ sym zero_too))
      ]
    ]

-- of one entry it is that
pub best_first : (entries : List (List ℕ)) (color least : List ℕ) → least ≡ difference_to entries color 0 → IsBest entries color 1 0 least
best_first entries color least e = record { below = omega arith; candidates = []; last = (refl, λ k after before. absurd (omega arith)); same = e }

-- with one entry more it is that entry if it is closer, and else stays
pub best_closer : (entries : List (List ℕ)) (color : List ℕ) (n at : ℕ) (least next : List ℕ) → IsBest entries color n at least
    → next ≡ difference_to entries color n → is_closer next least ≡ true → IsBest entries color (n + 1) n next
best_closer entries color n at least next h e closer = record {
  below = omega arith;
  candidates = h.candidates ++ n ∷ [];
  last = candidates_closer (difference_to entries color) n 0 h.candidates at (let b : at < n = h.below in omega arith) h.last
      (subst (λ p. is_closer p (difference_to entries color at) ≡ true) e (subst (λ p. is_closer next p ≡ true) h.same closer));
  same = e;
}

pub best_stays : (entries : List (List ℕ)) (color : List ℕ) (n at : ℕ) (least next : List ℕ) → IsBest entries color n at least
    → next ≡ difference_to entries color n → is_closer next least ≡ false → IsBest entries color (n + 1) at least
best_stays entries color n at least next h e farther = record {
  below = (let b : at < n = h.below in omega arith);
  candidates = h.candidates;
  last = candidates_stay (difference_to entries color) n 0 h.candidates at h.last
      (subst (λ p. is_closer p (difference_to entries color at) ≡ false) e (subst (λ p. is_closer next p ≡ false) h.same farther));
  same = h.same;
}

-- among all entries it is the match
pub best_match : (entries : List (List ℕ)) (color : List ℕ) (n at : ℕ) (least : List ℕ) → n ≡ length entries → IsBest entries color n at least
    → IsMatch entries color at
best_match entries color n at least e h = record {
  some = (let b : at < n = h.below in omega arith);
  candidates = h.candidates;
  last = subst (λ k. AreCandidates (difference_to entries color) k 0 h.candidates at) e h.last;
}

-- entries that are too far in a channel leave it as it is
pub far_stays : (entries : List (List ℕ)) (color : List ℕ) (n at : ℕ) (least : List ℕ) → IsBest entries color n at least
    → is_within (difference_to entries color n) least ≡ false → IsBest entries color (n + 1) at least
far_stays entries color n at least h far =
    best_stays entries color n at least (difference_to entries color n) h refl (ap (λ w. w && not (same_color (difference_to entries color n) least)) far)

pub all_far : (entries : List (List ℕ)) (color : List ℕ) (n count at : ℕ) (least : List ℕ) → IsBest entries color n at least
    → ((i : ℕ) → n ≤ i → i < n + count → is_within (difference_to entries color i) least ≡ false) → IsBest entries color (n + count) at least
all_far entries color n zero at least h far = (let e : n ≡ n + 0 = omega arith in subst (λ k. IsBest entries color k at least) e h)
all_far entries color n (suc count) at least h far =
    let before : IsBest entries color (n + count) at least = all_far entries color n count at least h (λ i from below. far i from (omega arith)) in
    let next : IsBest entries color (n + count + 1) at least = far_stays entries color (n + count) at least before (far (n + count) (omega arith) (omega arith)) in
    (let e : n + count + 1 ≡ n + suc count = omega arith in subst (λ k. IsBest entries color k at least) e next)
