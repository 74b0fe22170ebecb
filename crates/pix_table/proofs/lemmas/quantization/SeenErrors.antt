-- The squared error of seen colors that are shown by one, by the sums of their numbers.
use Rattle.std.proofs.Common.{◌≡◌, ℕ, ◌+◌, ◌-◌, ◌*◌, ◌/◌, ◌<◌, ◌≤◌, Bool, true, false, List, [], ◌∷◌, ◌++◌, length, map, get_or, sum_by, nat_le, All, refl, arith, sym, ap, inl, inr, if◌then◌else◌, ◌∙◌, length-append}
use Rattle.std.proofs.lemmas.Bool.{cases_lt, le-leb, lt-leb, leb-true}
use Rattle.std.proofs.lemmas.Nat.{mul-le}
use Rattle.std.proofs.lemmas.List.{length-map}
use Rattle.std.proofs.lemmas.List.Sums.{sum_by-cons, sum_by-le, sum_by_push}
use Rattle.std.proofs.lemmas.List.Elements.{All-head, All-nil, All-push, All-tail}
use Rattle.pix_table.specs.matching.Nearest.{distance}
use Rattle.pix_table.specs.quantization.Places.{sum_in}
use Rattle.pix_table.specs.SeenPixels.{AreSeen, over_white, seen_distance, seen_numbers}
use Rattle.pix_table.specs.quantization.SeenCut.{seen_mean}
use Rattle.pix_table.specs.quantization.SeenGroups.{AreGroupSums, product_by}
use Rattle.pix_table.specs.quantization.SeenSums.{AreFew}
use Rattle.pix_table.specs.quantization.SeenTables.{error_to, seen_settled}
use Rattle.pix_table.specs.declared.rgba.color.SeenColor.{SeenColor}
use Rattle.pix_table.specs.declared.rgba.sums.SeenSums.{SeenSums}
use Rattle.pix_table.proofs.lemmas.quantization.LeastMeans.{by_channels, squares}
use Rattle.pix_table.proofs.lemmas.quantization.RefinedTables.{sum_le}

-- the squares of the numbers of some colors in three channels, added
abbrev squares_in : List (List ℕ) → ℕ
squares_in box =
    sum_by (λ c. get_or c 0 0 * get_or c 0 0) box + sum_by (λ c. get_or c 1 0 * get_or c 1 0) box + sum_by (λ c. get_or c 2 0 * get_or c 2 0) box

-- the squared differences of a color from others in three channels, by sums
by_sums : (p : List ℕ) (box : List (List ℕ)) (n r g b : ℕ) → n ≡ length box → r ≡ sum_in 0 box → g ≡ sum_in 1 box → b ≡ sum_in 2 box
    → sum_by (λ c. distance p c) box + 2 * (get_or p 0 0 * r + get_or p 1 0 * g + get_or p 2 0 * b)
    ≡ n * (get_or p 0 0 * get_or p 0 0 + get_or p 1 0 * get_or p 1 0 + get_or p 2 0 * get_or p 2 0) + squares_in box
by_sums p box n r g b count red green blue =
    rw (count, red, green, blue) (omega (
      arith,
      by_channels p box,
      squares (λ c. get_or c 0 0) (get_or p 0 0) box,
      squares (λ c. get_or c 1 0) (get_or p 1 0) box,
      squares (λ c. get_or c 2 0) (get_or p 2 0) box,
    ))

-- what white adds to some colors, in all
abbrev rests : List (List ℕ) → ℕ
rests box = sum_by (λ c. 255 - get_or c 3 0) box

rests_are : (box : List (List ℕ)) → All AreSeen box → rests box + sum_in 3 box ≡ 255 * length box
rests_are [] h = refl
rests_are (c ∷ box) h =
    let seen : AreSeen c = All-head AreSeen c box h in
    omega (
      arith,
      seen.alpha,
      sum_by-cons (λ c. 255 - get_or c 3 0) c box,
      sum_by-cons (λ c. get_or c 3 0) c box,
      rests_are box (All-tail AreSeen c box h),
    )

-- the sums of the numbers over white
sum_mapped : (f : List ℕ → ℕ) (g : List ℕ → List ℕ) (box : List (List ℕ)) → sum_by f (map g box) ≡ sum_by (λ c. f (g c)) box
sum_mapped f g [] = refl
sum_mapped f g (c ∷ box) = omega (arith, sum_by-cons f (g c) (map g box), sum_by-cons (λ x. f (g x)) c box, sum_mapped f g box)

sum_added : (f g : List ℕ → ℕ) (box : List (List ℕ)) → sum_by (λ c. f c + g c) box ≡ sum_by f box + sum_by g box
sum_added f g [] = refl
sum_added f g (c ∷ box) =
    omega (arith, sum_by-cons (λ x. f x + g x) c box, sum_by-cons f c box, sum_by-cons g c box, sum_added f g box)

over_white_in : (k : ℕ) (box : List (List ℕ)) → ((c : List ℕ) → get_or (over_white c) k 0 ≡ get_or c k 0 + (255 - get_or c 3 0))
    → sum_in k (map over_white box) ≡ sum_in k box + rests box
over_white_in k [] each = refl
over_white_in k (c ∷ box) each =
    omega (
      arith,
      each c,
      sum_by-cons (λ x. get_or x k 0) (over_white c) (map over_white box),
      sum_by-cons (λ x. get_or x k 0) c box,
      sum_by-cons (λ x. 255 - get_or x 3 0) c box,
      over_white_in k box each,
    )

-- the two views
both_views : (p : List ℕ) (box : List (List ℕ))
    → error_to p box ≡ sum_by (λ c. distance p c) box + sum_by (λ c. distance (over_white p) c) (map over_white box)
both_views p box =
    sum_added (λ c. distance p c) (λ c. distance (over_white p) (over_white c)) box
    ∙ (let white : sum_by (λ c. distance (over_white p) c) (map over_white box) ≡ sum_by (λ c. distance (over_white p) (over_white c)) box =
    sum_mapped (λ c. distance (over_white p) c) over_white box in
    rw white refl)

joined : (e b w n x y z r s t u v p q : ℕ) → e ≡ b + w → b + 2 * (x * s + y * t + z * u) ≡ n * (x * x + y * y + z * z) + p
    → w + 2 * ((x + r) * (s + v) + (y + r) * (t + v) + (z + r) * (u + v)) ≡ n * ((x + r) * (x + r) + (y + r) * (y + r) + (z + r) * (z + r)) + q
    → e + 2 * product_by x y z r s t u v ≡ n * product_by x y z r x y z r + (p + q)
joined e b w n x y z r s t u v p q all black white = omega (arith, all, black, white)

-- the squared error to a color, by the sums
error_is : (p : List ℕ) (group : List (List ℕ)) (s : SeenSums) → AreGroupSums group s
    → error_to p group
    + 2 * product_by (get_or p 0 0) (get_or p 1 0) (get_or p 2 0) (255 - get_or p 3 0) s.red s.green s.blue (255 * s.count - s.alpha)
    ≡ s.count
    * product_by (get_or p 0 0) (get_or p 1 0) (get_or p 2 0) (255 - get_or p 3 0) (get_or p 0 0) (get_or p 1 0) (get_or p 2 0) (255 - get_or p 3 0)
    + (squares_in group + squares_in (map over_white group))
error_is p group s h =
    let rest : 255 * s.count - s.alpha ≡ rests group = omega (arith, rests_are group h.seen, h.count, h.alpha) in
    joined (error_to p group) (sum_by (λ c. distance p c) group) (sum_by (λ c. distance (over_white p) c) (map over_white group)) s.count _ _ _ _ s.red s.green s.blue
    (255 * s.count - s.alpha) (squares_in group) (squares_in (map over_white group)) (both_views p group)
    (by_sums p group s.count s.red s.green s.blue h.count h.red h.green h.blue)
    (by_sums (over_white p) (map over_white group) s.count _ _ _ (h.count ∙ sym (length-map group over_white))
    (omega (arith, rest, h.red, over_white_in 0 group (λ c. refl)))
    (omega (arith, rest, h.green, over_white_in 1 group (λ c. refl)))
    (omega (arith, rest, h.blue, over_white_in 2 group (λ c. refl))))

-- so it can be compared by them
same_order : (e f a b m n q : ℕ) → e + 2 * a ≡ m + q → f + 2 * b ≡ n + q → nat_le (m + 2 * b) (n + 2 * a) ≡ nat_le e f
same_order e f a b m n q h g = elim (cases_lt f e) [
  | inl less ↦ lt-leb (m + 2 * b) (n + 2 * a) (omega (arith, less, h, g)) ∙ sym (lt-leb e f less)
  | inr most ↦ le-leb (m + 2 * b) (n + 2 * a) (omega (arith, most, h, g)) ∙ sym (le-leb e f most)
]

pub compared : (p q : List ℕ) (group : List (List ℕ)) (s : SeenSums) → AreGroupSums group s
    → nat_le
    (s.count
    * product_by (get_or p 0 0) (get_or p 1 0) (get_or p 2 0) (255 - get_or p 3 0) (get_or p 0 0) (get_or p 1 0) (get_or p 2 0) (255 - get_or p 3 0)
    + 2 * product_by (get_or q 0 0) (get_or q 1 0) (get_or q 2 0) (255 - get_or q 3 0) s.red s.green s.blue (255 * s.count - s.alpha))
    (s.count
    * product_by (get_or q 0 0) (get_or q 1 0) (get_or q 2 0) (255 - get_or q 3 0) (get_or q 0 0) (get_or q 1 0) (get_or q 2 0) (255 - get_or q 3 0)
    + 2 * product_by (get_or p 0 0) (get_or p 1 0) (get_or p 2 0) (255 - get_or p 3 0) s.red s.green s.blue (255 * s.count - s.alpha))
    ≡ nat_le (error_to p group) (error_to q group)
compared p q group s h = same_order (error_to p group) (error_to q group) _ _ _ _ _ (error_is p group s h) (error_is q group s h)

-- products of few numbers are few
pub product_few : (r g b w s t u v most : ℕ) → r + w ≤ 255 → g + w ≤ 255 → b + w ≤ 255 → s + v ≤ most → t + v ≤ most → u + v ≤ most
    → product_by r g b w s t u v ≤ 1530 * most
product_few r g b w s t u v most red green blue also more last =
    omega (
      arith,
      mul-le r s 255 most (omega arith) (omega arith),
      mul-le g t 255 most (omega arith) (omega arith),
      mul-le b u 255 most (omega arith) (omega arith),
      mul-le (r + w) (s + v) 255 most red also,
      mul-le (g + w) (t + v) 255 most green more,
      mul-le (b + w) (u + v) 255 most blue last,
    )

-- the sums of seen colors: none of the first three is above the last, which is one of bytes
pub sums_few : (group : List (List ℕ)) (s : SeenSums) → AreGroupSums group s → AreFew s
sums_few group s h = record {
  red = omega (arith, h.red, h.alpha, sum_le (λ c. get_or c 0 0) (λ c. get_or c 3 0) group (λ j d inside. (h.seen j d inside).red));
  green = omega (arith, h.green, h.alpha, sum_le (λ c. get_or c 1 0) (λ c. get_or c 3 0) group (λ j d inside. (h.seen j d inside).green));
  blue = omega (arith, h.blue, h.alpha, sum_le (λ c. get_or c 2 0) (λ c. get_or c 3 0) group (λ j d inside. (h.seen j d inside).blue));
  alpha = omega (arith, h.count, h.alpha, sum_by-le (λ c. get_or c 3 0) 255 group (λ j d inside. (h.seen j d inside).alpha));
}

-- and what they and the rests come to is no more than that
pub terms_few : (group : List (List ℕ)) (s : SeenSums) → AreGroupSums group s
    → (s.red + (255 * s.count - s.alpha) ≤ 255 * s.count) × (s.green + (255 * s.count - s.alpha) ≤ 255 * s.count)
    × (s.blue + (255 * s.count - s.alpha) ≤ 255 * s.count)
terms_few group s h =
    let few = sums_few group s h in
    (omega (arith, few.red, few.alpha), omega (arith, few.green, few.alpha), omega (arith, few.blue, few.alpha))

-- the sums of no colors
pub group_none : (s : SeenSums) → s.count ≡ 0 → s.red ≡ 0 → s.green ≡ 0 → s.blue ≡ 0 → s.alpha ≡ 0 → AreGroupSums [] s
group_none s count red green blue alpha = record { seen = All-nil AreSeen; count = count; red = red; green = green; blue = blue; alpha = alpha }

-- the sums of a color more
pub group_more : (group : List (List ℕ)) (c : SeenColor) (s t : SeenSums) → AreGroupSums group s → AreSeen (seen_numbers c) → t.count ≡ s.count + 1
    → t.red ≡ s.red + c.red → t.green ≡ s.green + c.green → t.blue ≡ s.blue + c.blue → t.alpha ≡ s.alpha + c.alpha
    → AreGroupSums (group ++ seen_numbers c ∷ []) t
group_more group c s t h seen count red green blue alpha = record {
  seen = All-push AreSeen group (seen_numbers c) h.seen seen;
  count = omega (arith, count, h.count, length-append group (seen_numbers c ∷ []));
  red = omega (arith, red, h.red, sum_by_push (λ x. get_or x 0 0) group (seen_numbers c));
  green = omega (arith, green, h.green, sum_by_push (λ x. get_or x 1 0) group (seen_numbers c));
  blue = omega (arith, blue, h.blue, sum_by_push (λ x. get_or x 2 0) group (seen_numbers c));
  alpha = omega (arith, alpha, h.alpha, sum_by_push (λ x. get_or x 3 0) group (seen_numbers c));
}

-- the mean by the sums
pub mean_by_sums : (group : List (List ℕ)) (s : SeenSums) (r g b a : ℕ) → AreGroupSums group s → r ≡ (2 * s.red + s.count) / (2 * s.count)
    → g ≡ (2 * s.green + s.count) / (2 * s.count) → b ≡ (2 * s.blue + s.count) / (2 * s.count) → a ≡ (2 * s.alpha + s.count) / (2 * s.count)
    → r ∷ g ∷ b ∷ a ∷ [] ≡ seen_mean group
mean_by_sums group s r g b a h red green blue alpha =
    rw (red, green, blue, alpha, h.count, h.red, h.green, h.blue, h.alpha) refl

-- where an entry settles
pub settled_none : (entry : List ℕ) (group : List (List ℕ)) (s : SeenSums) → AreGroupSums group s → s.count ≡ 0 → entry ≡ seen_settled entry group
settled_none entry [] s h none = refl
settled_none entry (c ∷ group) s h none = absurd (omega (arith, h.count, none))

pub settled_some : (entry mean : List ℕ) (group : List (List ℕ)) (s : SeenSums) (is_less : Bool) → AreGroupSums group s → 0 < s.count → mean ≡ seen_mean group
    → is_less ≡ nat_le (error_to mean group) (error_to entry group) → (if is_less then mean else entry) ≡ seen_settled entry group
settled_some entry mean [] s is_less h some is test = absurd (omega (arith, h.count, some))
settled_some entry mean (c ∷ group) s is_less h some is test =
    let by_mean : is_less ≡ nat_le (error_to (seen_mean (c ∷ group)) (c ∷ group)) (error_to entry (c ∷ group)) =
    test ∙ ap (λ m. nat_le (error_to m (c ∷ group)) (error_to entry (c ∷ group))) is in
    ap (λ b. if b then mean else entry) by_mean
    ∙ ap (λ m. if nat_le (error_to (seen_mean (c ∷ group)) (c ∷ group)) (error_to entry (c ∷ group)) then m else entry) is

-- which is no farther from its colors, in all
least_of : (b : Bool) (mean entry : List ℕ) (group : List (List ℕ)) → nat_le (error_to mean group) (error_to entry group) ≡ b
    → error_to (if b then mean else entry) group ≤ error_to entry group
least_of true mean entry group e = leb-true _ _ e
least_of false mean entry group e = omega arith

pub settled_falls : (entry : List ℕ) (group : List (List ℕ)) → sum_by (λ c. seen_distance (seen_settled entry group) c) group ≤ sum_by (λ c. seen_distance entry c) group
settled_falls entry [] = omega arith
settled_falls entry (c ∷ group) = least_of _ (seen_mean (c ∷ group)) entry (c ∷ group) refl
