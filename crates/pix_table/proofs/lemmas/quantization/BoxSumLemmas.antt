-- The sums of a box, of its colors of each value of a channel, and of those below a value.
use Rattle.std.proofs.Common.{◌≡◌, ℕ, ◌+◌, ◌-◌, ◌*◌, ◌<◌, ◌≤◌, Bool, true, false, cond, List, ◌++◌, length, get_or, sum_by, All, refl, arith, sym, ap, ap₂, ◌∙◌, subst, lt-ltb, le-ltb}
use Rattle.std.proofs.lemmas.List.Sums.{sum_by-append}
use Rattle.std.proofs.lemmas.Nat.{mul-le}
use Rattle.std.proofs.Math.Nat.{div-le_of_le-mul}
use Rattle.pix_table.specs.quantization.Places.{IsCutBy, below, gain, sum_in, weight}
use Rattle.pix_table.specs.quantization.BestPlaces.{AreBytes, ArePart, AreSums, CanCutBy, gain_at, high_weight, is_at, is_below, low_weight, sum_of, weight_by}
use Rattle.pix_table.specs.quantization.Cut.{mean}
use Rattle.pix_table.specs.quantization.Groups.{mean_by}
use Rattle.pix_table.specs.declared.quantization.box_sums.Sums.{Sums}
use Rattle.pix_table.proofs.lemmas.quantization.SumLemmas.{sum_next, sum_zero, sum_few, rest_few, sum_le, sum_all, sum_none, length_sum, sum_parted, sum_both}

-- the numbers of a channel
pub bytes_in : (box : List (List ℕ)) (k : ℕ) → All AreBytes box → All (λ c. get_or c k 0 ≤ 255) box
bytes_in box k h = λ j d inside. h j d inside k

-- the sums of two lists
pub sums_joined : (p : List ℕ → Bool) (box more : List (List ℕ)) (s t new : Sums) → AreSums p box s → AreSums p more t
    → new.count ≡ s.count + t.count → new.red ≡ s.red + t.red → new.green ≡ s.green + t.green → new.blue ≡ s.blue + t.blue
    → AreSums p (box ++ more) new
sums_joined p box more s t new h g count red green blue = record {
  count = omega (arith, count, h.count, g.count, sum_by-append (λ c. cond (p c) 1 0) box more);
  red = omega (arith, red, h.red, g.red, sum_by-append (λ c. cond (p c) (get_or c 0 0) 0) box more);
  green = omega (arith, green, h.green, g.green, sum_by-append (λ c. cond (p c) (get_or c 1 0) 0) box more);
  blue = omega (arith, blue, h.blue, g.blue, sum_by-append (λ c. cond (p c) (get_or c 2 0) 0) box more);
}

-- the sums of the colors below a value
pub below_none : (k : ℕ) (box : List (List ℕ)) (none : Sums) → none.count ≡ 0 → none.red ≡ 0 → none.green ≡ 0 → none.blue ≡ 0
    → AreSums (is_below k 0) box none
below_none k box none count red green blue = record {
  count = omega (arith, count, sum_zero k (λ x. 1) box);
  red = omega (arith, red, sum_zero k (λ x. get_or x 0 0) box);
  green = omega (arith, green, sum_zero k (λ x. get_or x 1 0) box);
  blue = omega (arith, blue, sum_zero k (λ x. get_or x 2 0) box);
}

-- where none is below it, the sums of none are those of the colors below
pub below_first : (k first : ℕ) (box : List (List ℕ)) (none : Sums) → All (λ c. first ≤ get_or c k 0) box → none.count ≡ 0 → none.red ≡ 0
    → none.green ≡ 0 → none.blue ≡ 0 → AreSums (is_below k first) box none
below_first k first box none least count red green blue =
    let each : All (λ c. is_below k first c ≡ false) box = (λ j d inside. le-ltb _ first (least j d inside)) in
    record {
      count = omega (arith, count, sum_none (is_below k first) (λ x. 1) box each);
      red = omega (arith, red, sum_none (is_below k first) (λ x. get_or x 0 0) box each);
      green = omega (arith, green, sum_none (is_below k first) (λ x. get_or x 1 0) box each);
      blue = omega (arith, blue, sum_none (is_below k first) (λ x. get_or x 2 0) box each);
    }

pub below_more : (k v : ℕ) (box : List (List ℕ)) (low part new : Sums) → AreSums (is_below k v) box low → AreSums (is_at k v) box part
    → new.count ≡ low.count + part.count → new.red ≡ low.red + part.red → new.green ≡ low.green + part.green
    → new.blue ≡ low.blue + part.blue → AreSums (is_below k (v + 1)) box new
below_more k v box low part new h g count red green blue = record {
  count = omega (arith, count, h.count, g.count, sum_next k v (λ x. 1) box);
  red = omega (arith, red, h.red, g.red, sum_next k v (λ x. get_or x 0 0) box);
  green = omega (arith, green, h.green, g.green, sum_next k v (λ x. get_or x 1 0) box);
  blue = omega (arith, blue, h.blue, g.blue, sum_next k v (λ x. get_or x 2 0) box);
}

-- the same, where the value has another name
pub part_at : (k v j : ℕ) (box : List (List ℕ)) (part : Sums) → AreSums (is_at k j) box part → j ≡ v → AreSums (is_at k v) box part
part_at k v j box part h e = subst (λ i. AreSums (is_at k i) box part) e h

pub below_next : (k v j : ℕ) (box : List (List ℕ)) (low part new : Sums) → AreSums (is_at k j) box part → j ≡ v → AreSums (is_below k v) box low
    → new.count ≡ low.count + part.count → new.red ≡ low.red + part.red → new.green ≡ low.green + part.green
    → new.blue ≡ low.blue + part.blue → AreSums (is_below k (v + 1)) box new
below_next k v j box low part new h e before count red green blue =
    below_more k v box low part new before (part_at k v j box part h e) count red green blue

-- all colors are below 256
pub below_all : (k : ℕ) (box : List (List ℕ)) (all : Sums) → All AreBytes box → AreSums (is_below k 256) box all → AreSums (λ c. true) box all
below_all k box all bytes h =
    let each : All (λ c. is_below k 256 c ≡ true) box = (λ j d inside. lt-ltb _ 256 (omega (arith, bytes j d inside k))) in
    record {
      count = h.count ∙ sum_all (is_below k 256) (λ x. 1) box each;
      red = h.red ∙ sum_all (is_below k 256) (λ x. get_or x 0 0) box each;
      green = h.green ∙ sum_all (is_below k 256) (λ x. get_or x 1 0) box each;
      blue = h.blue ∙ sum_all (is_below k 256) (λ x. get_or x 2 0) box each;
    }

-- sums are few
pub are_few : (p : List ℕ → Bool) (box : List (List ℕ)) (sums : Sums) → All AreBytes box → AreSums p box sums
    → (sums.red ≤ 255 * sums.count) × (sums.green ≤ 255 * sums.count) × (sums.blue ≤ 255 * sums.count)
are_few p box sums bytes h = (
  omega (arith, h.count, h.red, sum_few p (λ x. get_or x 0 0) box (bytes_in box 0 bytes)),
  omega (arith, h.count, h.green, sum_few p (λ x. get_or x 1 0) box (bytes_in box 1 bytes)),
  omega (arith, h.count, h.blue, sum_few p (λ x. get_or x 2 0) box (bytes_in box 2 bytes)),
)

pub both_few : (p q : List ℕ → Bool) (box more : List (List ℕ)) (s t : Sums) → All AreBytes box → All AreBytes more → AreSums p box s
    → AreSums q more t
    → (s.red + t.red ≤ 255 * (s.count + t.count)) × (s.green + t.green ≤ 255 * (s.count + t.count)) × (s.blue + t.blue ≤ 255 * (s.count + t.count))
both_few p q box more s t bytes also h g =
    let one = are_few p box s bytes h in
    let two = are_few q more t also g in
    (omega (arith, one.0, two.0), omega (arith, one.1, two.1), omega (arith, one.2, two.2))

pub count_few : (p : List ℕ → Bool) (box : List (List ℕ)) (sums : Sums) → AreSums p box sums → sums.count ≤ length box
count_few p box sums h = omega (arith, h.count, sum_le p (λ x. 1) box, length_sum box)

pub are_part : (p : List ℕ → Bool) (box : List (List ℕ)) (low all : Sums) → All AreBytes box → AreSums p box low → AreSums (λ c. true) box all
    → 0 < low.count → low.count < all.count → ArePart low all
are_part p box low all bytes h whole some others =
    let few = are_few p box low bytes h in
    let long : all.count ≡ length box = whole.count ∙ length_sum box in
    let r : all.red ≡ sum_by (λ x. get_or x 0 0) box = whole.red in
    let g : all.green ≡ sum_by (λ x. get_or x 1 0) box = whole.green in
    let b : all.blue ≡ sum_by (λ x. get_or x 2 0) box = whole.blue in
    record {
      some = some;
      others = others;
      red = omega (arith, h.red, r, sum_le p (λ x. get_or x 0 0) box);
      green = omega (arith, h.green, g, sum_le p (λ x. get_or x 1 0) box);
      blue = omega (arith, h.blue, b, sum_le p (λ x. get_or x 2 0) box);
      low_red = few.0;
      low_green = few.1;
      low_blue = few.2;
      high_red = omega (arith, h.count, h.red, r, long, rest_few p (λ x. get_or x 0 0) box (bytes_in box 0 bytes));
      high_green = omega (arith, h.count, h.green, g, long, rest_few p (λ x. get_or x 1 0) box (bytes_in box 1 bytes));
      high_blue = omega (arith, h.count, h.blue, b, long, rest_few p (λ x. get_or x 2 0) box (bytes_in box 2 bytes));
    }

-- equal sums weigh as much
pub weigh_same : (n r g b m x y z : ℕ) → n ≡ m → r ≡ x → g ≡ y → b ≡ z → weight_by n r g b ≡ weight_by m x y z
weigh_same n r g b m x y z e f h i = rw (e, f, h, i) refl

pub whole_weight : (box : List (List ℕ)) (all : Sums) → AreSums (λ c. true) box all → weight_by all.count all.red all.green all.blue ≡ weight box
whole_weight box all h =
    weigh_same all.count all.red all.green all.blue (length box) (sum_in 0 box) (sum_in 1 box) (sum_in 2 box) (h.count ∙ length_sum box) h.red h.green h.blue

-- the sums of as many colors as there are, are those of all
pub full_sums : (p : List ℕ → Bool) (box : List (List ℕ)) (sums : Sums) → All AreBytes box → AreSums p box sums → sums.count ≡ length box
    → AreSums (λ c. true) box sums
full_sums p box sums bytes h full = record {
  count = full ∙ sym (length_sum box);
  red = omega (arith, full, h.count, h.red, sum_le p (λ x. get_or x 0 0) box, rest_few p (λ x. get_or x 0 0) box (bytes_in box 0 bytes));
  green = omega (arith, full, h.count, h.green, sum_le p (λ x. get_or x 1 0) box, rest_few p (λ x. get_or x 1 0) box (bytes_in box 1 bytes));
  blue = omega (arith, full, h.count, h.blue, sum_le p (λ x. get_or x 2 0) box, rest_few p (λ x. get_or x 2 0) box (bytes_in box 2 bytes));
}

-- the mean of a box by its sums
pub whole_count : (box : List (List ℕ)) (all : Sums) → AreSums (λ c. true) box all → all.count ≡ length box
whole_count box all h = h.count ∙ length_sum box

pub whole_mean : (box : List (List ℕ)) (all : Sums) → AreSums (λ c. true) box all → mean_by all ≡ mean box
whole_mean box all h =
    let count : all.count ≡ length box = whole_count box all h in
    let r : all.red ≡ sum_in 0 box = h.red in
    let g : all.green ≡ sum_in 1 box = h.green in
    let b : all.blue ≡ sum_in 2 box = h.blue in
    rw (count, r, g, b) refl

-- what few colors weigh is little
pub weight_few : (n r g b : ℕ) → r ≤ 255 * n → g ≤ 255 * n → b ≤ 255 * n → weight_by n r g b ≤ 195075 * n
weight_few n r g b red green blue =
    div-le_of_le-mul n (omega (
      arith,
      mul-le r r (255 * n) (255 * n) red red,
      mul-le g g (255 * n) (255 * n) green green,
      mul-le b b (255 * n) (255 * n) blue blue,
    ))

-- what a cut of the box gains, by its sums
pub gain_same : (k v : ℕ) (box : List (List ℕ)) (low all : Sums) (whole : ℕ) → AreSums (is_below k v) box low → AreSums (λ c. true) box all
    → whole ≡ weight box
    → weight_by low.count low.red low.green low.blue
    + weight_by (all.count - low.count) (all.red - low.red) (all.green - low.green) (all.blue - low.blue) - whole ≡ gain_at k v box
gain_same k v box low all whole h g e =
    let long : all.count ≡ length box = g.count ∙ length_sum box in
    ap₂ (λ x y. x + y - whole) (weigh_same low.count low.red low.green low.blue _ _ _ _ h.count h.red h.green h.blue)
    (weigh_same (all.count - low.count) (all.red - low.red) (all.green - low.green) (all.blue - low.blue) _ _ _ _
    (ap₂ (λ x y. x - y) long h.count) (ap₂ (λ x y. x - y) g.red h.red) (ap₂ (λ x y. x - y) g.green h.green) (ap₂ (λ x y. x - y) g.blue h.blue))
    ∙ ap (λ w. low_weight k v box + high_weight k v box - w) e

-- the sums of a cut's parts
module _ {n : ℕ} (box : List (List ℕ)) (k v : ℕ) (low high : List (List ℕ)) (h : IsCutBy n box k v low high) where
  pub low_sum : (f : List ℕ → ℕ) → sum_of (is_below k v) f box ≡ sum_by f low
  low_sum f =
      sum_parted (is_below k v) f box low high h.all (λ j d inside. lt-ltb _ v (h.below j d inside)) (λ j d inside. le-ltb _ v (h.others j d inside))

  pub high_sum : (f : List ℕ → ℕ) → sum_by f box - sum_of (is_below k v) f box ≡ sum_by f high
  high_sum f = omega (arith, low_sum f, sum_both f box low high h.all)

  pub low_length : below k v box ≡ length low
  low_length = low_sum (λ x. 1) ∙ length_sum low

  pub high_length : length box - below k v box ≡ length high
  high_length = omega (arith, high_sum (λ x. 1), length_sum box, length_sum high)

  pub cut_can : CanCutBy n box k v
  cut_can = record {
    stands = h.stands;
    some_below = omega (arith, low_length, h.some_below);
    some_others = omega (arith, high_length, h.some_others);
  }

  pub cut_gain : gain_at k v box ≡ gain box low high
  cut_gain = ap₂ (λ x y. x + y - weight box)
      (weigh_same _ _ _ _ (length low) (sum_in 0 low) (sum_in 1 low) (sum_in 2 low) low_length (low_sum (λ x. get_or x 0 0)) (low_sum (λ x. get_or x 1 0)) (low_sum (λ x. get_or x 2 0)))
      (weigh_same _ _ _ _ (length high) (sum_in 0 high) (sum_in 1 high) (sum_in 2 high) high_length (high_sum (λ x. get_or x 0 0)) (high_sum (λ x. get_or x 1 0)) (high_sum (λ x. get_or x 2 0)))
