-- Rounds of nearest entries that settle: none makes the squared error greater, and the order of the
-- colors doesn't matter.
use Rattle.std.specs.List.{flat_map}
use Rattle.std.proofs.Common.{◌≡◌, ℕ, zero, suc, ◌<◌, ◌≤◌, List, [], ◌∷◌, length, get_or, fold, min, sum_by, All, IsPermutation, refl, arith, sym, ap, ◌∙◌}
use Rattle.std.proofs.lemmas.List.Sums.{sum_by-cons, sum_by-append}
use Rattle.std.proofs.lemmas.List.Sorted.{sum_by-IsPermutation, IsPermutation-sym, IsPermutation-trans}
use Rattle.std.proofs.lemmas.List.Elements.{All-head, All-tail, All-from_get_or}
use Rattle.pix_table.specs.matching.Nearest.{IsNearestBy}
use Rattle.pix_table.specs.quantization.Refine.{IsRoundBy, AreRoundsBy}
use Rattle.pix_table.specs.quantization.SquaredErrors.{least_distance_by, squared_error_by}

-- the sum of lists that are joined, and sums that are compared term by term
sum_joined : (f : List ℕ → ℕ) (groups : List (List (List ℕ))) → sum_by f (flat_map (λ group. group) groups) ≡ sum_by (λ group. sum_by f group) groups
sum_joined f [] = refl
sum_joined f (group ∷ groups) =
    omega (
      arith,
      sum_by-append f group (flat_map (λ g. g) groups),
      sum_by-cons (λ g. sum_by f g) group groups,
      sum_joined f groups,
    )

pub sum_le : {X : Type 0} (f g : X → ℕ) (xs : List X) → All (λ x. f x ≤ g x) xs → sum_by f xs ≤ sum_by g xs
sum_le f g [] h = omega arith
sum_le f g (x ∷ xs) h =
    omega (
      arith,
      sum_by-cons f x xs,
      sum_by-cons g x xs,
      All-head (λ y. f y ≤ g y) x xs h,
      sum_le f g xs (All-tail (λ y. f y ≤ g y) x xs h),
    )

-- by any measure of how far two colors are apart
module _ (apart : List ℕ → List ℕ → ℕ) where
  -- how far an entry is from a color
  abbrev apart_to : List (List ℕ) → List ℕ → ℕ → ℕ
  apart_to entries color i = apart (get_or entries i []) color

  -- the least distance, from some distance on
  least_from : ℕ → List ℕ → List (List ℕ) → ℕ
  least_from far color entries = fold (λ least e. min least (apart e color)) far entries

  no_more : (far : ℕ) (color : List ℕ) (entries : List (List ℕ)) → least_from far color entries ≤ far
  unfolding least_from
  no_more far color [] = omega arith
  no_more far color (e ∷ entries) = omega (arith, no_more (min far (apart e color)) color entries)

  at_most_each : (far : ℕ) (color : List ℕ) (entries : List (List ℕ)) (i : ℕ) → i < length entries → least_from far color entries ≤ apart_to entries color i
  unfolding least_from
  at_most_each far color [] i h = omega arith
  at_most_each far color (e ∷ entries) zero h = omega (arith, no_more (min far (apart e color)) color entries)
  at_most_each far color (e ∷ entries) (suc i) h = at_most_each (min far (apart e color)) color entries i (omega arith)

  no_less : (k far : ℕ) (color : List ℕ) (entries : List (List ℕ)) → k ≤ far → All (λ e. k ≤ apart e color) entries → k ≤ least_from far color entries
  unfolding least_from
  no_less k far color [] h all = h
  no_less k far color (e ∷ entries) h all =
      let now : k ≤ apart e color = All-head (λ x. k ≤ apart x color) e entries all in
      no_less k (min far (apart e color)) color entries (omega arith) (All-tail (λ x. k ≤ apart x color) e entries all)

  -- it is not more than that of any entry, and that of the nearest is not more
  pub least_le : (entries : List (List ℕ)) (color : List ℕ) (i : ℕ) → i < length entries → least_distance_by apart entries color ≤ apart_to entries color i
  unfolding least_from
  least_le [] color i h = omega arith
  least_le (e ∷ entries) color zero h = no_more (apart e color) color entries
  least_le (e ∷ entries) color (suc i) h = at_most_each (apart e color) color entries i (omega arith)

  -- what is at most the distance of each entry is at most the least
  pub least_ge : (k : ℕ) (e : List ℕ) (entries : List (List ℕ)) (color : List ℕ) → All (λ x. k ≤ apart x color) (e ∷ entries)
      → k ≤ least_distance_by apart (e ∷ entries) color
  unfolding least_from
  least_ge k e entries color all =
      no_less k (apart e color) color entries (All-head (λ x. k ≤ apart x color) e entries all) (All-tail (λ x. k ≤ apart x color) e entries all)

  nearest_le : (entries : List (List ℕ)) (color : List ℕ) (i : ℕ) → IsNearestBy apart entries color i
      → apart_to entries color i ≤ least_distance_by apart entries color
  unfolding least_from
  nearest_le [] color i h = let none : i < 0 = h.stands in omega arith
  nearest_le (e ∷ entries) color i h =
      let all : All (λ x. apart_to (e ∷ entries) color i ≤ apart x color) (e ∷ entries) =
      All-from_get_or (λ x. apart_to (e ∷ entries) color i ≤ apart x color) (e ∷ entries) [] h.least in
      no_less (apart_to (e ∷ entries) color i) (apart e color) color entries
      (All-head (λ x. apart_to (e ∷ entries) color i ≤ apart x color) e entries all)
      (All-tail (λ x. apart_to (e ∷ entries) color i ≤ apart x color) e entries all)

  -- the colors of an entry, before a round and after it
  before : (old group : List (List ℕ)) (i : ℕ) → All (λ color. IsNearestBy apart old color i) group
      → sum_by (λ color. apart (get_or old i []) color) group ≤ sum_by (λ color. least_distance_by apart old color) group
  before old [] i h = omega arith
  before old (color ∷ group) i h =
      omega (
        arith,
        sum_by-cons (λ c. apart (get_or old i []) c) color group,
        sum_by-cons (λ c. least_distance_by apart old c) color group,
        nearest_le old color i (All-head (λ c. IsNearestBy apart old c i) color group h),
        before old group i (All-tail (λ c. IsNearestBy apart old c i) color group h),
      )

  after : (new group : List (List ℕ)) (i : ℕ) → i < length new
      → sum_by (λ color. least_distance_by apart new color) group ≤ sum_by (λ color. apart (get_or new i []) color) group
  after new [] i h = omega arith
  after new (color ∷ group) i h =
      omega (
        arith,
        sum_by-cons (λ c. least_distance_by apart new c) color group,
        sum_by-cons (λ c. apart (get_or new i []) c) color group,
        least_le new color i h,
        after new group i h,
      )

  -- the squared error of colors by their groups
  by_groups : (entries colors : List (List ℕ)) (groups : List (List (List ℕ))) → IsPermutation colors (flat_map (λ group. group) groups)
      → squared_error_by apart entries colors ≡ sum_by (λ group. squared_error_by apart entries group) groups
  by_groups entries colors groups moved =
      sym (sum_by-IsPermutation (λ c. least_distance_by apart entries c) colors (flat_map (λ group. group) groups) moved)
      ∙ sum_joined (λ c. least_distance_by apart entries c) groups

  -- the same colors in another order have the same squared error
  pub error_moved : (entries xs ys : List (List ℕ)) → IsPermutation xs ys → squared_error_by apart entries ys ≡ squared_error_by apart entries xs
  error_moved entries xs ys moved = sum_by-IsPermutation (λ color. least_distance_by apart entries color) xs ys moved

-- and where an entry settles so that it is no farther from its colors, in all
module _ (apart : List ℕ → List ℕ → ℕ) (settle : List ℕ → List (List ℕ) → List ℕ)
    (settled_least : (entry : List ℕ) (group : List (List ℕ)) → sum_by (λ c. apart (settle entry group) c) group ≤ sum_by (λ c. apart entry c) group) where
  group_falls : (colors old new : List (List ℕ)) (round : IsRoundBy apart settle colors old new) (i : ℕ) → i < length old
      → sum_by (λ color. least_distance_by apart new color) (get_or round.groups i [])
      ≤ sum_by (λ color. least_distance_by apart old color) (get_or round.groups i [])
  group_falls colors old new round i h =
      let group : List (List ℕ) = get_or round.groups i [] in
      let moved : sum_by (λ c. apart (get_or new i []) c) group ≡ sum_by (λ c. apart (settle (get_or old i []) group) c) group =
      ap (λ entry. sum_by (λ c. apart entry c) group) (round.each i h) in
      let within : i < length new = omega (arith, round.many) in
      omega (
        arith,
        after apart new group i within,
        moved,
        settled_least (get_or old i []) group,
        before apart old group i (round.are.nearest i h),
      )

  -- no round makes the squared error greater, and so no rounds do
  pub round_falls : (colors old new : List (List ℕ)) → IsRoundBy apart settle colors old new → squared_error_by apart new colors ≤ squared_error_by apart old colors
  round_falls colors old new round =
      let each : All (λ group. squared_error_by apart new group ≤ squared_error_by apart old group) round.groups =
      All-from_get_or (λ group. squared_error_by apart new group ≤ squared_error_by apart old group) round.groups []
      (λ i h. group_falls colors old new round i (omega (arith, h, round.are.many))) in
      omega (
        arith,
        by_groups apart new colors round.groups round.are.all,
        by_groups apart old colors round.groups round.are.all,
        sum_le (λ group. squared_error_by apart new group) (λ group. squared_error_by apart old group) round.groups each,
      )

  pub rounds_fall : (n : ℕ) (colors old new : List (List ℕ)) → AreRoundsBy apart settle n colors old new
      → squared_error_by apart new colors ≤ squared_error_by apart old colors
  rounds_fall zero colors old new h = rw h (let same : squared_error_by apart old colors ≤ squared_error_by apart old colors = omega arith in same)
  rounds_fall (suc n) colors old new h = omega (arith, round_falls colors old h.0 h.1, rounds_fall n colors h.0 new h.2)

module _ (apart : List ℕ → List ℕ → ℕ) (settle : List ℕ → List (List ℕ) → List ℕ) where
  -- a round keeps the number of entries
  pub rounds_keep : (n : ℕ) (colors old new : List (List ℕ)) → AreRoundsBy apart settle n colors old new → length new ≡ length old
  rounds_keep zero colors old new h = ap length h
  rounds_keep (suc n) colors old new h = rounds_keep n colors h.0 new h.2 ∙ h.1.many

  -- the same colors in another order have the same rounds
  pub round_moved : (xs ys old new : List (List ℕ)) → IsPermutation xs ys → IsRoundBy apart settle xs old new → IsRoundBy apart settle ys old new
  round_moved xs ys old new moved round =
      let all : IsPermutation ys (flat_map (λ group. group) round.groups) =
      IsPermutation-trans ys xs (flat_map (λ group. group) round.groups) (IsPermutation-sym xs ys moved) round.are.all in record {
        groups = round.groups;
        are = record { many = round.are.many; all = all; nearest = round.are.nearest };
        many = round.many;
        each = round.each;
      }

  pub rounds_moved : (n : ℕ) (xs ys old new : List (List ℕ)) → IsPermutation xs ys → AreRoundsBy apart settle n xs old new → AreRoundsBy apart settle n ys old new
  rounds_moved zero xs ys old new moved h = h
  rounds_moved (suc n) xs ys old new moved h = (h.0, round_moved xs ys old h.0 moved h.1, rounds_moved n xs ys h.0 new moved h.2)
