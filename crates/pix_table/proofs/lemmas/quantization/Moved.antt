-- Lists in another order: what is made of each element, and those that pass a test.
use Rattle.std.specs.List.{filter, flat_map}
use Rattle.std.specs.Prelude.{Bool, cond, false, true}
use Rattle.std.proofs.Common.{◌≡◌, ℕ, zero, suc, ◌<◌, List, [], ◌∷◌, ◌++◌, length, set, get_or, All, IsPermutation, refl, append-nil, append_assoc, arith, ap, ap₂, ◌∙◌, subst}
use Rattle.std.proofs.lemmas.List.Edits.{swap_is}
use Rattle.std.proofs.lemmas.List.Elements.{All-head, All-tail, filter-append}
use Rattle.std.proofs.lemmas.List.Sorted.{IsPermutation-append_comm, IsPermutation-append_left, IsPermutation-append_right, IsPermutation-keeps, IsPermutation-refl, IsPermutation-trans}

-- the first two of three parts in each other's place
parts_swapped : {Y : Type 0} (p q r : List Y) → IsPermutation (p ++ (q ++ r)) (q ++ (p ++ r))
parts_swapped p q r =
    subst (λ l. IsPermutation l (q ++ (p ++ r))) (append_assoc p q r)
    (subst (IsPermutation ((p ++ q) ++ r)) (append_assoc q p r) (IsPermutation-append_left r (p ++ q) (q ++ p) (IsPermutation-append_comm p q)))

module _ {X Y : Type 0} (f : X → List Y) where
  -- one element in the place of another, which stands before them
  head_swapped : (xs : List X) (j : ℕ) (a d : X) → j < length xs
      → IsPermutation (f a ++ flat_map f xs) (f (get_or xs j d) ++ flat_map f (set xs j a))
  head_swapped [] j a d inside = absurd (omega arith)
  head_swapped (x ∷ xs) zero a d inside = parts_swapped (f a) (f x) (flat_map f xs)
  head_swapped (x ∷ xs) (suc j) a d inside =
      IsPermutation-trans (f a ++ (f x ++ flat_map f xs)) (f x ++ (f a ++ flat_map f xs)) (f (get_or xs j d) ++ (f x ++ flat_map f (set xs j a)))
      (parts_swapped (f a) (f x) (flat_map f xs))
      (IsPermutation-trans (f x ++ (f a ++ flat_map f xs)) (f x ++ (f (get_or xs j d) ++ flat_map f (set xs j a)))
      (f (get_or xs j d) ++ (f x ++ flat_map f (set xs j a)))
      (IsPermutation-append_right (f x) (f a ++ flat_map f xs) (f (get_or xs j d) ++ flat_map f (set xs j a)) (head_swapped xs j a d (omega arith)))
      (parts_swapped (f x) (f (get_or xs j d)) (flat_map f (set xs j a))))

  two_swapped : (xs : List X) (i j : ℕ) (d : X) → i < length xs → j < length xs
      → IsPermutation (flat_map f xs) (flat_map f (set (set xs i (get_or xs j d)) j (get_or xs i d)))
  two_swapped [] i j d inside other = absurd (omega arith)
  two_swapped (x ∷ xs) zero zero d inside other = IsPermutation-refl (f x ++ flat_map f xs)
  two_swapped (x ∷ xs) zero (suc j) d inside other = head_swapped xs j x d (omega arith)
  two_swapped (x ∷ xs) (suc i) zero d inside other = head_swapped xs i x d (omega arith)
  two_swapped (x ∷ xs) (suc i) (suc j) d inside other =
      IsPermutation-append_right (f x) (flat_map f xs) (flat_map f (set (set xs i (get_or xs j d)) j (get_or xs i d)))
      (two_swapped xs i j d (omega arith) (omega arith))

  -- the same where the exchange has a name
  swap_moved : (l swapped : List X) (i j : ℕ) → i < length l → j < length l → ((d : X) → set (set l i (get_or l j d)) j (get_or l i d) ≡ swapped)
      → IsPermutation (flat_map f l) (flat_map f swapped)
  swap_moved [] swapped i j inside other is = absurd (omega arith)
  swap_moved (x ∷ l) swapped i j inside other is = subst (λ s. IsPermutation (flat_map f (x ∷ l)) (flat_map f s)) (is x) (two_swapped (x ∷ l) i j x inside other)

  -- what is made of each element
  pub flat_map_moved : (xs ys : List X) → IsPermutation xs ys → IsPermutation (flat_map f xs) (flat_map f ys)
  flat_map_moved xs ys moved =
      IsPermutation-keeps xs (λ l. IsPermutation (flat_map f xs) (flat_map f l)) (IsPermutation-refl (flat_map f xs)) (λ l i j inside other h.
      IsPermutation-trans (flat_map f xs) (flat_map f l) _ h (swap_moved l _ i j inside other (λ d. swap_is l i j d inside other))) ys moved

-- the elements that pass a test
module _ {X : Type 0} (p : X → Bool) where
  one_or_none : (b : Bool) (x : X) (l : List X) → cond b (x ∷ []) [] ++ l ≡ cond b (x ∷ l) l
  one_or_none true x l = refl
  one_or_none false x l = refl

  as_flat_map : (xs : List X) → flat_map (λ x. cond (p x) (x ∷ []) []) xs ≡ filter p xs
  as_flat_map [] = refl
  as_flat_map (x ∷ xs) = ap (λ l. cond (p x) (x ∷ []) [] ++ l) (as_flat_map xs) ∙ one_or_none (p x) x (filter p xs)

  pub filter_moved : (xs ys : List X) → IsPermutation xs ys → IsPermutation (filter p xs) (filter p ys)
  filter_moved xs ys moved =
      subst (λ l. IsPermutation l (filter p ys)) (as_flat_map xs)
      (subst (IsPermutation (flat_map (λ x. cond (p x) (x ∷ []) []) xs)) (as_flat_map ys) (flat_map_moved (λ x. cond (p x) (x ∷ []) []) xs ys moved))

  -- where all pass, or none
  all_pass : (xs : List X) → All (λ x. p x ≡ true) xs → filter p xs ≡ xs
  all_pass [] h = refl
  all_pass (x ∷ xs) h =
      ap (λ b. cond b (x ∷ filter p xs) (filter p xs)) (All-head (λ x. p x ≡ true) x xs h) ∙ ap (λ l. x ∷ l) (all_pass xs (All-tail (λ x. p x ≡ true) x xs h))

  none_pass : (xs : List X) → All (λ x. p x ≡ false) xs → filter p xs ≡ []
  none_pass [] h = refl
  none_pass (x ∷ xs) h =
      ap (λ b. cond b (x ∷ filter p xs) (filter p xs)) (All-head (λ x. p x ≡ false) x xs h) ∙ none_pass xs (All-tail (λ x. p x ≡ false) x xs h)

  -- those of two lists of which the one has all that pass
  pub pass_first : (xs ys all : List X) → All (λ x. p x ≡ true) xs → All (λ x. p x ≡ false) ys → IsPermutation (xs ++ ys) all → IsPermutation xs (filter p all)
  pass_first xs ys all pass fail moved =
      let first : filter p (xs ++ ys) ≡ xs =
      filter-append p xs ys ∙ ap₂ (λ (l m : List X). l ++ m) (all_pass xs pass) (none_pass ys fail) ∙ append-nil xs in
      subst (λ l. IsPermutation l (filter p all)) first (filter_moved (xs ++ ys) all moved)

  pub pass_second : (xs ys all : List X) → All (λ x. p x ≡ false) xs → All (λ x. p x ≡ true) ys → IsPermutation (xs ++ ys) all → IsPermutation ys (filter p all)
  pass_second xs ys all fail pass moved =
      let second : filter p (xs ++ ys) ≡ ys =
      filter-append p xs ys ∙ ap₂ (λ (l m : List X). l ++ m) (none_pass xs fail) (all_pass ys pass) in
      subst (λ l. IsPermutation l (filter p all)) second (filter_moved (xs ++ ys) all moved)
