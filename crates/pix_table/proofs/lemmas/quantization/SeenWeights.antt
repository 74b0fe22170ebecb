-- What boxes of seen colors weigh, by their sums, and what cuts of them gain.
use Rattle.std.proofs.Common.{◌≡◌, ℕ, ◌+◌, ◌-◌, ◌*◌, ◌/◌, ◌≤◌, true, List, [], ◌∷◌, ◌++◌, length, map, get_or, All, Option, refl, arith, sym, ap, ap₂, ◌∙◌, subst, IsPermutation}
use Rattle.std.proofs.lemmas.List.{length-map, take_at, drop_at}
use Rattle.std.proofs.lemmas.List.Elements.{All-head, All-tail, All-take, All-drop}
use Rattle.std.proofs.lemmas.List.Sorted.{All-permutation}
use Rattle.std.proofs.lemmas.List.Sums.{sum_by-cons}
use Rattle.pix_table.specs.quantization.Places.{IsCutBy, gain_by, sum_in, weight}
use Rattle.pix_table.specs.quantization.BestPlaces.{IsBestUpToBy, is_below, weight_by}
use Rattle.pix_table.specs.SeenPixels.{AreSeen, over_white}
use Rattle.pix_table.specs.quantization.SeenCut.{seen_mean, seen_weight}
use Rattle.pix_table.specs.quantization.SeenSums.{AreFew, AreSeenSums, high_seen_weight, low_seen_weight, seen_gain_at, seen_weight_by}
use Rattle.pix_table.specs.declared.quantization.place.Place.{Place}
use Rattle.pix_table.specs.declared.rgba.sums.SeenSums.{SeenSums}
use Rattle.pix_table.proofs.lemmas.quantization.BoxSumLemmas.{high_length, high_sum, low_length, low_sum, weigh_same, weight_few}
use Rattle.pix_table.proofs.lemmas.quantization.PlacesBy.{passing}
use Rattle.pix_table.proofs.lemmas.quantization.SeenSumLemmas.{whole_count}

-- the sum of a channel over white
white_more : (k : ℕ) → ((c : List ℕ) → get_or (over_white c) k 0 ≡ get_or c k 0 + (255 - get_or c 3 0)) → (box : List (List ℕ)) → All AreSeen box
    → sum_in k (map over_white box) + sum_in 3 box ≡ sum_in k box + 255 * length box
white_more k own [] seen = refl
white_more k own (c ∷ box) seen =
    omega (
      arith,
      own c,
      sum_by-cons (λ x. get_or x k 0) (over_white c) (map over_white box),
      sum_by-cons (λ x. get_or x k 0) c box,
      sum_by-cons (λ x. get_or x 3 0) c box,
      (All-head AreSeen c box seen).alpha,
      white_more k own box (All-tail AreSeen c box seen),
    )

pub few_alphas : (box : List (List ℕ)) → All AreSeen box → sum_in 3 box ≤ 255 * length box
few_alphas [] seen = omega arith
few_alphas (c ∷ box) seen =
    omega (arith, sum_by-cons (λ x. get_or x 3 0) c box, (All-head AreSeen c box seen).alpha, few_alphas box (All-tail AreSeen c box seen))

white_sum : (k : ℕ) → ((c : List ℕ) → get_or (over_white c) k 0 ≡ get_or c k 0 + (255 - get_or c 3 0)) → (box : List (List ℕ)) → All AreSeen box
    → sum_in k (map over_white box) ≡ sum_in k box + (255 * length box - sum_in 3 box)
white_sum k own box seen = omega (arith, white_more k own box seen, few_alphas box seen)

-- what a box weighs, by its sums
pub seen_weigh : (box : List (List ℕ)) → All AreSeen box
    → seen_weight_by (length box) (sum_in 0 box) (sum_in 1 box) (sum_in 2 box) (sum_in 3 box) ≡ seen_weight box
seen_weigh box seen =
    ap (λ w. weight box + w) (sym (weigh_same (length (map over_white box)) (sum_in 0 (map over_white box)) (sum_in 1 (map over_white box))
    (sum_in 2 (map over_white box)) (length box) _ _ _ (length-map box over_white) (white_sum 0 (λ c. refl) box seen) (white_sum 1 (λ c. refl) box seen)
    (white_sum 2 (λ c. refl) box seen)))

-- what few colors weigh is little
both_most : (x y a b n : ℕ) → x ≡ a → y ≡ b → a ≤ 195075 * n → b ≤ 195075 * n → x + y ≤ 390150 * n
both_most x y a b n e f h g = omega arith

pub both_little : (s : SeenSums) → AreFew s → (x y : ℕ) → x ≡ weight_by s.count s.red s.green s.blue
    → y ≡ weight_by s.count (s.red + (255 * s.count - s.alpha)) (s.green + (255 * s.count - s.alpha)) (s.blue + (255 * s.count - s.alpha))
    → x + y ≤ 390150 * s.count
both_little s few x y e f =
    both_most x y _ _ s.count e f
    (weight_few s.count s.red s.green s.blue (omega (arith, few.red, few.alpha)) (omega (arith, few.green, few.alpha)) (omega (arith, few.blue, few.alpha)))
    (weight_few s.count (s.red + (255 * s.count - s.alpha)) (s.green + (255 * s.count - s.alpha)) (s.blue + (255 * s.count - s.alpha))
    (omega (arith, few.red, few.alpha)) (omega (arith, few.green, few.alpha)) (omega (arith, few.blue, few.alpha)))

-- equal sums weigh as much
pub same_sums : (n r g b a m x y z w : ℕ) → n ≡ m → r ≡ x → g ≡ y → b ≡ z → a ≡ w → seen_weight_by n r g b a ≡ seen_weight_by m x y z w
same_sums n r g b a m x y z w e f h i j = rw (e, f, h, i, j) refl

pub whole_weight : (box : List (List ℕ)) (all : SeenSums) → All AreSeen box → AreSeenSums (λ c. true) box all
    → seen_weight_by all.count all.red all.green all.blue all.alpha ≡ seen_weight box
whole_weight box all seen h =
    same_sums all.count all.red all.green all.blue all.alpha (length box) (sum_in 0 box) (sum_in 1 box) (sum_in 2 box) (sum_in 3 box) (whole_count box all h)
    h.red h.green h.blue h.alpha ∙ seen_weigh box seen

-- the mean of a box by its sums
abbrev pub mean_by : SeenSums → List ℕ
mean_by sums =
    (2 * sums.red + sums.count) / (2 * sums.count) ∷ (2 * sums.green + sums.count) / (2 * sums.count)
    ∷ (2 * sums.blue + sums.count) / (2 * sums.count) ∷ (2 * sums.alpha + sums.count) / (2 * sums.count) ∷ []

pub whole_mean : (box : List (List ℕ)) (all : SeenSums) → AreSeenSums (λ c. true) box all → mean_by all ≡ seen_mean box
whole_mean box all h =
    let count : all.count ≡ length box = whole_count box all h in
    let r : all.red ≡ sum_in 0 box = h.red in
    let g : all.green ≡ sum_in 1 box = h.green in
    let b : all.blue ≡ sum_in 2 box = h.blue in
    let a : all.alpha ≡ sum_in 3 box = h.alpha in
    rw (count, r, g, b, a) refl

-- what a cut of the box gains, by its sums
pub gain_same : (k v : ℕ) (box : List (List ℕ)) (low all : SeenSums) (whole : ℕ) → AreSeenSums (is_below k v) box low
    → AreSeenSums (λ c. true) box all → whole ≡ seen_weight box
    → seen_weight_by low.count low.red low.green low.blue low.alpha
    + seen_weight_by (all.count - low.count) (all.red - low.red) (all.green - low.green) (all.blue - low.blue) (all.alpha - low.alpha) - whole
    ≡ seen_gain_at k v box
gain_same k v box low all whole h g e =
    ap₂ (λ x y. x + y - whole)
    (same_sums low.count low.red low.green low.blue low.alpha _ _ _ _ _ h.count h.red h.green h.blue h.alpha)
    (same_sums (all.count - low.count) (all.red - low.red) (all.green - low.green) (all.blue - low.blue) (all.alpha - low.alpha) _ _ _ _ _
    (ap₂ (λ x y. x - y) (whole_count box all g) h.count) (ap₂ (λ x y. x - y) g.red h.red) (ap₂ (λ x y. x - y) g.green h.green)
    (ap₂ (λ x y. x - y) g.blue h.blue) (ap₂ (λ x y. x - y) g.alpha h.alpha))
    ∙ ap (λ w. low_seen_weight k v box + high_seen_weight k v box - w) e

-- the parts of a cut are seen colors too
pub low_seen : (P : List ℕ → Type 0) (box low high : List (List ℕ)) → IsPermutation box (low ++ high) → All P box → All P low
low_seen P box low high moved h =
    subst (All P) (take_at low high (length low) refl) (All-take P (length low) (low ++ high) (All-permutation P box (low ++ high) moved h))

pub high_seen : (P : List ℕ → Type 0) (box low high : List (List ℕ)) → IsPermutation box (low ++ high) → All P box → All P high
high_seen P box low high moved h =
    subst (All P) (drop_at low high (length low) refl) (All-drop P (length low) (low ++ high) (All-permutation P box (low ++ high) moved h))

pub cut_gain : (box : List (List ℕ)) → All AreSeen box → (k v : ℕ) (low high : List (List ℕ)) → IsCutBy 4 box k v low high
    → seen_gain_at k v box ≡ gain_by seen_weight box low high
cut_gain box seen k v low high h =
    let ls = low_sum box k v low high h in
    let hs = high_sum box k v low high h in
    ap₂ (λ x y. x + y - seen_weight box)
    (same_sums _ _ _ _ _ (length low) (sum_in 0 low) (sum_in 1 low) (sum_in 2 low) (sum_in 3 low) (low_length box k v low high h) (ls (λ x. get_or x 0 0))
    (ls (λ x. get_or x 1 0)) (ls (λ x. get_or x 2 0)) (ls (λ x. get_or x 3 0)) ∙ seen_weigh low (low_seen AreSeen box low high h.all seen))
    (same_sums _ _ _ _ _ (length high) (sum_in 0 high) (sum_in 1 high) (sum_in 2 high) (sum_in 3 high) (high_length box k v low high h)
    (hs (λ x. get_or x 0 0)) (hs (λ x. get_or x 1 0)) (hs (λ x. get_or x 2 0)) (hs (λ x. get_or x 3 0))
    ∙ seen_weigh high (high_seen AreSeen box low high h.all seen))

-- a place is passed by where no color has the value before it
pub passed_by : (k v : ℕ) (box : List (List ℕ)) (low all : SeenSums) (best : Option Place) → AreSeenSums (λ c. true) box all
    → AreSeenSums (is_below k v) box low → AreSeenSums (is_below k (v + 1)) box low → IsBestUpToBy 4 seen_gain_at box k (v + 1) best
    → IsBestUpToBy 4 seen_gain_at box k (v + 1 + 1) best
passed_by k v box low all best whole h g before =
    passing 4 seen_gain_at box k (v + 1) best before (λ can. (
      v,
      omega arith,
      record {
        stands = can.stands;
        some_below = omega (arith, can.some_below, h.count, g.count);
        some_others = omega (arith, can.some_others, h.count, g.count);
      },
      sym (gain_same k (v + 1) box low all (seen_weight box) g whole refl) ∙ gain_same k v box low all (seen_weight box) h whole refl,
    ))
