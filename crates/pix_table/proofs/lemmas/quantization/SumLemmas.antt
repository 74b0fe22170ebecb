-- Sums of the colors of a box that pass a test.
use Rattle.std.proofs.Common.{◌≡◌, ℕ, ◌+◌, ◌*◌, ◌≤◌, Bool, true, false, cond, List, [], ◌∷◌, ◌++◌, length, get_or, count_by, nat_lt, nat_eq, sum_by, All, refl, arith, sym, ap, ◌∙◌, inl, inr, lt-ltb, le-ltb, eq-eqb, ne_eqb, IsPermutation}
use Rattle.std.proofs.lemmas.Bool.{cases_lt, cases_eq, cases_order}
use Rattle.std.proofs.lemmas.List.Sums.{sum_by-cons, sum_by-append}
use Rattle.std.proofs.lemmas.List.Sorted.{sum_by-IsPermutation}
use Rattle.std.proofs.lemmas.List.Elements.{All-head, All-tail}
use Rattle.pix_table.specs.quantization.BestPlaces.{sum_of, is_at, is_below}

-- one color more before the others
sum_of_first : (p : List ℕ → Bool) (f : List ℕ → ℕ) (c : List ℕ) (box : List (List ℕ)) → sum_of p f (c ∷ box) ≡ cond (p c) (f c) 0 + sum_of p f box
sum_of_first p f c box = sum_by-cons (λ x. cond (p x) (f x) 0) c box

-- one value more: those below it, and those that have it
less_next : (x v y : ℕ) → cond (nat_lt x (v + 1)) y 0 ≡ cond (nat_lt x v) y 0 + cond (nat_eq x v) y 0
less_next x v y = elim (cases_order x v) [
  | inl e ↦ rw (lt-ltb x (v + 1) (omega arith), le-ltb x v (omega arith), eq-eqb x v e) (let same : y ≡ 0 + y = omega arith in same)
  | inr o ↦ elim o [
    | inl b ↦ rw (lt-ltb x (v + 1) (omega arith), lt-ltb x v b, ne_eqb x v (λ e. omega arith)) (let same : y ≡ y + 0 = omega arith in same)
    | inr b ↦ rw (le-ltb x (v + 1) (omega arith), le-ltb x v (omega arith), ne_eqb x v (λ e. omega arith)) refl
  ]
]

pub sum_next : (k v : ℕ) (f : List ℕ → ℕ) (box : List (List ℕ)) → sum_of (is_below k (v + 1)) f box ≡ sum_of (is_below k v) f box + sum_of (is_at k v) f box
sum_next k v f [] = refl
sum_next k v f (c ∷ box) =
    omega (
      arith,
      sum_of_first (is_below k (v + 1)) f c box,
      sum_of_first (is_below k v) f c box,
      sum_of_first (is_at k v) f c box,
      less_next (get_or c k 0) v (f c),
      sum_next k v f box,
    )

-- below a greater value there are no fewer
less_grows : (x v w y : ℕ) → v ≤ w → cond (nat_lt x v) y 0 ≤ cond (nat_lt x w) y 0
less_grows x v w y h = elim (cases_lt x v) [
  | inl b ↦ rw (lt-ltb x v b, lt-ltb x w (omega arith)) (let same : y ≤ y = omega arith in same)
  | inr b ↦ rw (le-ltb x v b) (let least : 0 ≤ cond (nat_lt x w) y 0 = omega arith in least)
]

pub sum_grows : (k v w : ℕ) (f : List ℕ → ℕ) (box : List (List ℕ)) → v ≤ w → sum_of (is_below k v) f box ≤ sum_of (is_below k w) f box
sum_grows k v w f [] h = omega arith
sum_grows k v w f (c ∷ box) h =
    omega (
      arith,
      sum_of_first (is_below k v) f c box,
      sum_of_first (is_below k w) f c box,
      less_grows (get_or c k 0) v w (f c) h,
      sum_grows k v w f box h,
    )

-- no color is below 0
pub sum_zero : (k : ℕ) (f : List ℕ → ℕ) (box : List (List ℕ)) → sum_of (is_below k 0) f box ≡ 0
sum_zero k f [] = refl
sum_zero k f (c ∷ box) =
    let none : cond (nat_lt (get_or c k 0) 0) (f c) 0 ≡ 0 = ap (λ b. cond b (f c) 0) (le-ltb (get_or c k 0) 0 (omega arith)) in
    omega (arith, sum_of_first (is_below k 0) f c box, none, sum_zero k f box)

-- a sum of bytes
part_few : (b : Bool) (x : ℕ) → x ≤ 255 → cond b x 0 ≤ 255 * cond b 1 0
part_few true x h = omega arith
part_few false x h = omega arith

pub sum_few : (p : List ℕ → Bool) (f : List ℕ → ℕ) (box : List (List ℕ)) → All (λ c. f c ≤ 255) box → sum_of p f box ≤ 255 * count_by p box
sum_few p f [] h = omega arith
sum_few p f (c ∷ box) h =
    omega (
      arith,
      sum_of_first p f c box,
      sum_of_first p (λ x. 1) c box,
      part_few (p c) (f c) (All-head (λ x. f x ≤ 255) c box h),
      sum_few p f box (All-tail (λ x. f x ≤ 255) c box h),
    )

-- a sum of those that don't pass
others_few : (b : Bool) (x : ℕ) → x ≤ 255 → x + 255 * cond b 1 0 ≤ cond b x 0 + 255
others_few true x h = omega arith
others_few false x h = omega arith

pub rest_few : (p : List ℕ → Bool) (f : List ℕ → ℕ) (box : List (List ℕ)) → All (λ c. f c ≤ 255) box
    → sum_by f box + 255 * count_by p box ≤ sum_of p f box + 255 * length box
rest_few p f [] h = omega arith
rest_few p f (c ∷ box) h =
    omega (
      arith,
      sum_by-cons f c box,
      sum_of_first p f c box,
      sum_of_first p (λ x. 1) c box,
      others_few (p c) (f c) (All-head (λ x. f x ≤ 255) c box h),
      rest_few p f box (All-tail (λ x. f x ≤ 255) c box h),
    )

-- a part is not more than all
part_le : (b : Bool) (x : ℕ) → cond b x 0 ≤ x
part_le true x = omega arith
part_le false x = omega arith

pub sum_le : (p : List ℕ → Bool) (f : List ℕ → ℕ) (box : List (List ℕ)) → sum_of p f box ≤ sum_by f box
sum_le p f [] = omega arith
sum_le p f (c ∷ box) = omega (arith, sum_by-cons f c box, sum_of_first p f c box, part_le (p c) (f c), sum_le p f box)

-- where one number of each color is at most another, so are their sums, and those of the colors that don't pass
part_at_most : (b : Bool) (x y : ℕ) → x ≤ y → cond b x 0 ≤ cond b y 0
part_at_most true x y h = h
part_at_most false x y h = omega arith

pub sum_at_most : (p : List ℕ → Bool) (f g : List ℕ → ℕ) (box : List (List ℕ)) → All (λ c. f c ≤ g c) box → sum_of p f box ≤ sum_of p g box
sum_at_most p f g [] h = omega arith
sum_at_most p f g (c ∷ box) h =
    omega (
      arith,
      sum_of_first p f c box,
      sum_of_first p g c box,
      part_at_most (p c) (f c) (g c) (All-head (λ x. f x ≤ g x) c box h),
      sum_at_most p f g box (All-tail (λ x. f x ≤ g x) c box h),
    )

others_at_most : (b : Bool) (x y : ℕ) → x ≤ y → x + cond b y 0 ≤ cond b x 0 + y
others_at_most true x y h = omega arith
others_at_most false x y h = omega (arith, h)

pub rest_at_most : (p : List ℕ → Bool) (f g : List ℕ → ℕ) (box : List (List ℕ)) → All (λ c. f c ≤ g c) box
    → sum_by f box + sum_of p g box ≤ sum_of p f box + sum_by g box
rest_at_most p f g [] h = omega arith
rest_at_most p f g (c ∷ box) h =
    omega (
      arith,
      sum_by-cons f c box,
      sum_by-cons g c box,
      sum_of_first p f c box,
      sum_of_first p g c box,
      others_at_most (p c) (f c) (g c) (All-head (λ x. f x ≤ g x) c box h),
      rest_at_most p f g box (All-tail (λ x. f x ≤ g x) c box h),
    )

-- of colors of a value, the sum of the channel is as many times the value
one_own : (x v : ℕ) → cond (nat_eq x v) x 0 ≡ v * cond (nat_eq x v) 1 0
one_own x v = elim (cases_eq x v) [
  | inl e ↦ rw (eq-eqb x v e) (let same : x ≡ v * 1 = omega (arith, e) in same)
  | inr n ↦ rw (ne_eqb x v n) (let same : 0 ≡ v * 0 = omega arith in same)
]

pub sum_own : (k v : ℕ) (box : List (List ℕ)) → sum_of (is_at k v) (λ c. get_or c k 0) box ≡ v * count_by (is_at k v) box
sum_own k v [] = omega arith
sum_own k v (c ∷ box) =
    omega (
      arith,
      sum_of_first (is_at k v) (λ x. get_or x k 0) c box,
      ap (λ n. v * n) (sum_of_first (is_at k v) (λ x. 1) c box),
      one_own (get_or c k 0) v,
      sum_own k v box,
    )

-- where all colors pass, their sum is that of the list; where none does, it is 0
pub sum_all : (p : List ℕ → Bool) (f : List ℕ → ℕ) (box : List (List ℕ)) → All (λ c. p c ≡ true) box → sum_of p f box ≡ sum_by f box
sum_all p f [] h = refl
sum_all p f (c ∷ box) h =
    let now : cond (p c) (f c) 0 ≡ f c = ap (λ b. cond b (f c) 0) (All-head (λ x. p x ≡ true) c box h) in
    omega (arith, sum_by-cons f c box, sum_of_first p f c box, now, sum_all p f box (All-tail (λ x. p x ≡ true) c box h))

pub sum_none : (p : List ℕ → Bool) (f : List ℕ → ℕ) (box : List (List ℕ)) → All (λ c. p c ≡ false) box → sum_of p f box ≡ 0
sum_none p f [] h = refl
sum_none p f (c ∷ box) h =
    let now : cond (p c) (f c) 0 ≡ 0 = ap (λ b. cond b (f c) 0) (All-head (λ x. p x ≡ false) c box h) in
    omega (arith, sum_of_first p f c box, now, sum_none p f box (All-tail (λ x. p x ≡ false) c box h))

-- the length of a box is the sum of so many ones
pub length_sum : (box : List (List ℕ)) → sum_by (λ x. 1) box ≡ length box
length_sum [] = refl
length_sum (c ∷ box) = omega (arith, sum_by-cons (λ (x : List ℕ). 1) c box, length_sum box)

-- of a box in two parts, of which all of the first pass and none of the second, the sum is that of the first
pub sum_parted : (p : List ℕ → Bool) (f : List ℕ → ℕ) (box low high : List (List ℕ)) → IsPermutation box (low ++ high)
    → All (λ c. p c ≡ true) low → All (λ c. p c ≡ false) high → sum_of p f box ≡ sum_by f low
sum_parted p f box low high moved all none =
    let same : sum_of p f (low ++ high) ≡ sum_of p f box = sum_by-IsPermutation (λ x. cond (p x) (f x) 0) box (low ++ high) moved in
    let both : sum_of p f (low ++ high) ≡ sum_of p f low + sum_of p f high = sum_by-append (λ x. cond (p x) (f x) 0) low high in
    omega (arith, same, both, sum_all p f low all, sum_none p f high none)

pub sum_both : (f : List ℕ → ℕ) (box low high : List (List ℕ)) → IsPermutation box (low ++ high) → sum_by f box ≡ sum_by f low + sum_by f high
sum_both f box low high moved = sym (sum_by-IsPermutation f box (low ++ high) moved) ∙ sum_by-append f low high
