-- A box that is cut in two.
use Rattle.std.proofs.Common.{◌≡◌, ℕ, ◌<◌, ◌≤◌, List, length, map, take, drop, get_or, All, IsPermutation, arith, sym, ap, ◌∙◌, subst, inl, inr, take-append-drop, length-drop, length-take, take_all, rules, sum_by, ◌+◌}
use Rattle.std.proofs.lemmas.Bool.{cases_lt}
use Rattle.std.specs.List.{drop-map}
use Rattle.std.proofs.lemmas.List.{map-append, length-map, take-map}
use Rattle.std.proofs.lemmas.List.Elements.{All-map, All-take, All-drop}
use Rattle.std.proofs.lemmas.List.Sorted.{All-permutation, IsPermutation-map, IsPermutation-refl, sum_by-IsPermutation, length_permutation}
use Rattle.std.proofs.lemmas.List.Sums.{sum_by-take-le, sum_by-take-drop}
use Rattle.std.specs.Prelude.{cond, nat_lt}
use Rattle.pix_table.specs.quantization.Places.{below, IsCutBy}
use Rattle.pix_table.proofs.lemmas.quantization.BoxSpans.{none_below, each_below_value}

-- colors of some kind
module _ {X : Type 0} (numbers : X → List ℕ) where
  -- so many of the box as are below came first
  pub parted_below : (xs ys : List X) (k value : ℕ) → IsPermutation xs ys → below k value (map numbers ys) ≡ below k value (map numbers xs)
  parted_below xs ys k value moved =
      sum_by-IsPermutation (λ c. cond (nat_lt (get_or c k 0) value) 1 0) (map numbers xs) (map numbers ys) (IsPermutation-map numbers xs ys moved)

  module _ (xs ys : List X) (k value at : ℕ) (moved : IsPermutation xs ys)
      (front : All (λ c. get_or (numbers c) k 0 < value) (take at ys)) (back : All (λ c. value ≤ get_or (numbers c) k 0) (drop at ys)) where
    low : All (λ c. get_or c k 0 < value) (map numbers (take at ys))
    low = All-map (λ c. get_or c k 0 < value) numbers (take at ys) front

    high : All (λ c. value ≤ get_or c k 0) (map numbers (drop at ys))
    high = All-map (λ c. value ≤ get_or c k 0) numbers (drop at ys) back

    -- neither part is empty
    pub some_front : 0 < below k value (map numbers xs) → 0 < at
    some_front h = elim (cases_lt 0 at) [
      | inl b ↦ b
      | inr b ↦
          let e : at ≡ 0 = omega arith in
          let all : All (λ c. value ≤ get_or c k 0) (map numbers (drop 0 ys)) = subst (λ j. All (λ c. value ≤ get_or c k 0) (map numbers (drop j ys))) e high in
          absurd (omega (arith, none_below k value (map numbers ys) all, parted_below xs ys k value moved))
    ]

    pub some_back : at ≤ length ys → below k value (map numbers xs) < length (map numbers xs) → at < length ys
    some_back within h = elim (cases_lt at (length ys)) [
      | inl b ↦ b
      | inr b ↦
          let e : take at ys ≡ ys = search (rules, take_all) in
          let all : All (λ c. get_or c k 0 < value) (map numbers ys) = subst (λ l. All (λ c. get_or c k 0 < value) (map numbers l)) e low in
          absurd (omega (
            arith,
            each_below_value k value (map numbers ys) all,
            parted_below xs ys k value moved,
            length_permutation xs ys moved,
            length-map xs numbers,
            length-map ys numbers,
          ))
    ]

    pub cut_stands : (channels : ℕ) → k < channels → at ≤ length ys → 0 < below k value (map numbers xs) → below k value (map numbers xs) < length (map numbers xs)
        → IsCutBy channels (map numbers xs) k value (map numbers (take at ys)) (map numbers (drop at ys))
    cut_stands channels stands within below_some below_others =
        let some : 0 < at = some_front below_some in
        let others : at < length ys = some_back within below_others in record {
          stands = stands;
          all = subst (IsPermutation (map numbers xs)) (ap (map numbers) (sym (take-append-drop at ys)) ∙ map-append numbers (take at ys) (drop at ys))
              (IsPermutation-map numbers xs ys moved);
          below = low;
          others = high;
          some_below = omega (arith, length-map (take at ys) numbers, length-take at ys);
          some_others = omega (arith, length-map (drop at ys) numbers, length-drop at ys);
        }

  -- what holds of each color of a box, holds of each of a part of them
  pub fit_front : (P : List ℕ → Type 0) (xs ys : List X) (at : ℕ) → IsPermutation xs ys → All P (map numbers xs) → All P (map numbers (take at ys))
  fit_front P xs ys at moved h =
      subst (All P) (take-map numbers at ys)
      (All-take P at (map numbers ys) (All-permutation P (map numbers xs) (map numbers ys) (IsPermutation-map numbers xs ys moved) h))

  pub fit_back : (P : List ℕ → Type 0) (xs ys : List X) (at : ℕ) → IsPermutation xs ys → All P (map numbers xs) → All P (map numbers (drop at ys))
  fit_back P xs ys at moved h =
      subst (All P) (drop-map numbers at ys)
      (All-drop P at (map numbers ys) (All-permutation P (map numbers xs) (map numbers ys) (IsPermutation-map numbers xs ys moved) h))

  -- of a piece of them
  pub fit_piece : (P : List ℕ → Type 0) (xs : List X) (start n : ℕ) → All P (map numbers xs) → All P (map numbers (take n (drop start xs)))
  fit_piece P xs start n h =
      subst (All P) (take-map numbers n (drop start xs))
      (All-take P n (map numbers (drop start xs)) (subst (All P) (drop-map numbers start xs) (All-drop P start (map numbers xs) h)))

  -- the colors of a part stand no more often than all
  pub few_front : (times : List ℕ → ℕ) (xs ys : List X) (at most : ℕ) → IsPermutation xs ys → sum_by times (map numbers xs) < most
      → sum_by times (map numbers (take at ys)) < most
  few_front times xs ys at most moved h =
      let same : sum_by times (map numbers ys) ≡ sum_by times (map numbers xs) =
      sum_by-IsPermutation times (map numbers xs) (map numbers ys) (IsPermutation-map numbers xs ys moved) in
      let part : sum_by times (map numbers (take at ys)) ≤ sum_by times (map numbers ys) =
      subst (λ l. sum_by times l ≤ sum_by times (map numbers ys)) (take-map numbers at ys) (sum_by-take-le times (map numbers ys) at) in
      omega (arith, same, part, h)

  pub few_back : (times : List ℕ → ℕ) (xs ys : List X) (at most : ℕ) → IsPermutation xs ys → sum_by times (map numbers xs) < most
      → sum_by times (map numbers (drop at ys)) < most
  few_back times xs ys at most moved h =
      let same : sum_by times (map numbers ys) ≡ sum_by times (map numbers xs) =
      sum_by-IsPermutation times (map numbers xs) (map numbers ys) (IsPermutation-map numbers xs ys moved) in
      let parts : sum_by times (take at (map numbers ys)) + sum_by times (drop at (map numbers ys)) ≡ sum_by times (map numbers ys) =
      sum_by-take-drop times (map numbers ys) at in
      subst (λ l. sum_by times l < most) (drop-map numbers at ys) (omega (arith, same, parts, h))

  pub few_piece : (times : List ℕ → ℕ) (xs : List X) (start n most : ℕ) → sum_by times (map numbers xs) < most
      → sum_by times (map numbers (take n (drop start xs))) < most
  few_piece times xs start n most h =
      few_front times (drop start xs) (drop start xs) n most (IsPermutation-refl (drop start xs))
      (few_back times xs xs start most (IsPermutation-refl xs) h)
