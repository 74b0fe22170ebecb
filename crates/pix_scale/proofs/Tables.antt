-- Rows and tables of weights.
use Rattle.std.proofs.Common.{◌≡◌, ℕ, ◌+◌, ◌-◌, ◌<◌, ◌≤◌, List, length, get_or, arith, refl, sym, ap, subst, ◌∙◌}
use Rattle.pix_scale.specs.Axis.{total, nearness, mark, axis_of}
use Rattle.pix_scale.specs.Table.{first_of, IsSide, IsRow, IsTable}
use Rattle.pix_scale.specs.declared.filter.Kernel.{Kernel}
use Rattle.pix_scale.specs.declared.filter.Kernel.TheVariants.{Point, Box, Line, Triangle}
use Rattle.pix_scale.proofs.Places.{nearest_place}
use Rattle.pix_scale.proofs.Kernels.{window, nearest_within, only_same, part_at, near_before, near_after, some_near, adds_up}
use Rattle.pix_scale.proofs.Windows.{total_part, total_split, total_nothing}
use Rattle.pix_scale.proofs.Sums.{total_same}
use Rattle.pix_scale.proofs.Terms.{Made, Pixels}

-- the places of an axis
pub places_of : (kernel : Kernel) (places n m : ℕ) → (axis_of kernel places n m).places ≡ places
places_of Point places n m = refl
places_of Box places n m = refl
places_of Line places n m = refl
places_of Triangle places n m = refl

-- a row of the weights of place i
pub row_is : (kernel : Kernel) (places size n m i first : ℕ) (weights : List ℕ) → IsSide kernel places size n m → i < size
    → first ≡ first_of kernel places n m i → length weights ≡ (axis_of kernel places n m).taps
    → ((k : ℕ) → k < length weights → get_or weights k 0 ≡ (axis_of kernel places n m).weight i (first + k))
    → IsRow (axis_of kernel places n m) i first (length weights) (λ k. get_or weights k 0)
row_is kernel places size n m i first weights side lt e long weighs =
    let w = window kernel places size n m i side lt in
    let p = places_of kernel places n m in
    subst (λ f. IsRow (axis_of kernel places n m) i f (length weights) (λ k. get_or weights k 0)) (sym e) (record {
      inside = omega (arith, p, long, w.inside);
      weighs = λ k l. weighs k l ∙ ap (λ f. (axis_of kernel places n m).weight i (f + k)) e;
      none_before = w.before;
      none_after = λ j l in_. w.behind j (omega (arith, long, l)) (omega (arith, p, in_));
    })

-- the same where the kernel is known
pub row_by : (known kernel : Kernel) (places size n m i first : ℕ) (weights : List ℕ) → kernel ≡ known → IsSide kernel places size n m → i < size
    → first ≡ first_of kernel places n m i → length weights ≡ (axis_of kernel places n m).taps
    → (IsSide known places size n m → first ≡ first_of known places n m i → length weights ≡ (axis_of known places n m).taps
    → (k : ℕ) → k < length weights → get_or weights k 0 ≡ (axis_of known places n m).weight i (first + k))
    → IsRow (axis_of kernel places n m) i first (length weights) (λ k. get_or weights k 0)
row_by known kernel places size n m i first weights is side lt e long weighs =
    row_is kernel places size n m i first weights side lt e long
    (subst (λ x. IsSide x places size n m → first ≡ first_of x places n m i → length weights ≡ (axis_of x places n m).taps
    → (k : ℕ) → k < length weights → get_or weights k 0 ≡ (axis_of x places n m).weight i (first + k)) (sym is) weighs side e long)

-- the one weight of a point
pub point_weighs : (places size n m i first : ℕ) (weights : List ℕ) → IsSide Point places size n m → i < size
    → first ≡ first_of Point places n m i → length weights ≡ (axis_of Point places n m).taps
    → ((k : ℕ) → k < length weights → get_or weights k 0 ≡ 1)
    → (k : ℕ) → k < length weights → get_or weights k 0 ≡ (axis_of Point places n m).weight i (first + k)
point_weighs places size n m i first weights side lt e long ones k l =
    let in_ = nearest_within places size n m i side lt in
    ones k l ∙ sym (only_same (first + k) (nearest_place n m i) (omega (arith, e, long, l, in_)))

-- the first place of the i-th row of a table from place `at` on, and its weights
abbrev pub first_at : Kernel → (places n m at i : ℕ) → ℕ
first_at kernel places n m at i = first_of kernel places n m (at + i)

abbrev pub tap_at : Kernel → (places n m at i k : ℕ) → ℕ
tap_at kernel places n m at i k = (axis_of kernel places n m).weight (at + i) (first_at kernel places n m at i + k)

pub table_is : (kernel : Kernel) (places size n m at count : ℕ) (firsts weights : List ℕ) → IsSide kernel places size n m
    → at + count ≤ size → length firsts ≡ count
    → Made firsts (first_at kernel places n m at) count → Pixels weights (axis_of kernel places n m).taps (tap_at kernel places n m at) count
    → IsTable (axis_of kernel places n m) at firsts weights (axis_of kernel places n m).taps
table_is kernel places size n m at count firsts weights side le long made rows =
    λ i lt.
    let p = places_of kernel places n m in
    let e = made.at i (omega arith) in
    let w = window kernel places size n m (at + i) side (omega arith) in
    record {
      inside = omega (arith, p, w.inside, e);
      weighs = λ k in_. rw e (rows.at i k (omega arith) in_);
      none_before = λ j l. w.before j (omega (arith, l, e));
      none_after = λ j l in_. w.behind j (omega (arith, l, e)) (omega (arith, p, in_));
    }

-- the weights of a row add up to the whole
pub row_total : (kernel : Kernel) (places size n m i first taps : ℕ) (weight : ℕ → ℕ) → IsSide kernel places size n m → i < size
    → IsRow (axis_of kernel places n m) i first taps weight → total taps weight ≡ (axis_of kernel places n m).whole
row_total kernel places size n m i first taps weight side lt row =
    let p = places_of kernel places n m in
    let w : ℕ → ℕ = (axis_of kernel places n m).weight i in
    total_same taps weight (λ k. w (first + k)) row.weighs
    ∙ sym (total_part places first taps w (omega (arith, p, row.inside)) row.none_before (λ j l in_. row.none_after j l (omega (arith, p, in_))))
    ∙ adds_up kernel places size n m i side lt

-- the places that are near, from the first on
pub near_from : (places size n m i first taps : ℕ) → IsSide Triangle places size n m → i < size
    → first ≡ first_of Triangle places n m i → taps ≡ (axis_of Triangle places n m).taps
    → total places (nearness n m i) ≡ total taps (λ j. nearness n m i (first + j))
near_from places size n m i first taps side lt e f =
    let w = window Triangle places size n m i side lt in
    total_part places first taps (nearness n m i) (omega (arith, w.inside)) (λ j l. near_before n m i j side.some_m (omega arith))
    (λ j l in_. near_after n m i j side.some_m side.some_n (omega arith))

-- the marks before a place from the first on, and of all places
pub marks_from : (places size n m i first taps k : ℕ) → IsSide Triangle places size n m → i < size
    → first ≡ first_of Triangle places n m i → taps ≡ (axis_of Triangle places n m).taps
    → part_at n m i first (total taps (λ j. nearness n m i (first + j))) k ≡ mark places n m i (first + k + 1) - mark places n m i (first + k)
marks_from places size n m i first taps k side lt e f =
    let near : ℕ → ℕ = nearness n m i in
    let none : (j : ℕ) → j < first → near j ≡ 0 = λ j l. near_before n m i j side.some_m (omega arith) in
    let all = near_from places size n m i first taps side lt e f in
    let ahead = total_nothing first near none in
    let before : total (first + k) near ≡ total k (λ j. near (first + j)) = omega (arith, total_split first k near, ahead) in
    let place : first + (k + 1) ≡ first + k + 1 = omega arith in
    let after : total (first + k + 1) near ≡ total (k + 1) (λ j. near (first + j)) =
    ap (λ t. total t near) (sym place) ∙ omega (arith, total_split first (k + 1) near, ahead) in
    rw (all, before, after) refl

pub some_from : (kernel : Kernel) (places size n m i first taps : ℕ) → kernel ≡ Triangle → IsSide kernel places size n m → i < size
    → first ≡ first_of kernel places n m i → taps ≡ (axis_of kernel places n m).taps
    → 0 < total taps (λ j. nearness n m i (first + j))
some_from kernel places size n m i first taps is side lt e f =
    let s = subst (λ k. IsSide k places size n m) is side in
    let near = near_from places size n m i first taps s lt (e ∙ ap (λ k. first_of k places n m i) is) (f ∙ ap (λ k. (axis_of k places n m).taps) is) in
    let some = some_near places size n m i s lt in
    omega (arith, near, some)
