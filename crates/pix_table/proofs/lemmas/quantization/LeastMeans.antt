-- A rounded mean: no whole number has a smaller sum of squared differences from the numbers of a list.
use Rattle.std.proofs.Common.{◌≡◌, ℕ, ◌+◌, ◌-◌, ◌*◌, ◌/◌, ◌<◌, ◌≤◌, List, [], ◌∷◌, length, get_or, sum_by, refl, arith, inl, inr}
use Rattle.std.proofs.lemmas.Bool.{cases_lt, cases_order}
use Rattle.std.proofs.lemmas.List.Sums.{sum_by-cons}
use Rattle.std.proofs.Math.Nat.{mul-le-mul_left, div-mul-le_self, lt-mul-div-succ}
use Rattle.pix_table.specs.matching.Nearest.{squared_difference, distance}
use Rattle.pix_table.specs.quantization.Places.{sum_in}
use Rattle.pix_table.specs.quantization.Cut.{mean, mean_of}
use Rattle.pix_table.specs.quantization.Refine.{refined}

-- a squared difference, by products
square_up : (x y d : ℕ) → y ≡ x + d → squared_difference x y + 2 * (x * y) ≡ x * x + y * y
square_up x y d e =
    let none : x - y ≡ 0 = omega arith in
    let some : y - x ≡ d = omega arith in
    rw (none, some, e) (omega arith)

square_down : (x y d : ℕ) → x ≡ y + d → squared_difference x y + 2 * (x * y) ≡ x * x + y * y
square_down x y d e =
    let none : y - x ≡ 0 = omega arith in
    let some : x - y ≡ d = omega arith in
    rw (none, some, e) (omega arith)

pub square : (x y : ℕ) → squared_difference x y + 2 * (x * y) ≡ x * x + y * y
square x y = elim (cases_lt x y) [
  | inl b ↦ square_up x y (y - x) (omega arith)
  | inr b ↦ square_down x y (x - y) (omega arith)
]

-- the squared differences of a number from those of a list, by sums
pub squares : (f : List ℕ → ℕ) (x : ℕ) (box : List (List ℕ))
    → sum_by (λ c. squared_difference x (f c)) box + 2 * (x * sum_by f box) ≡ length box * (x * x) + sum_by (λ c. f c * f c) box
squares f x [] = omega arith
squares f x (c ∷ box) =
    rw (
      sum_by-cons (λ c. squared_difference x (f c)) c box,
      sum_by-cons f c box,
      sum_by-cons (λ c. f c * f c) c box,
    ) (omega (arith, square x (f c), squares f x box))

-- a number above the mean, and one below
above : (n s m d : ℕ) → 1 ≤ d → 2 * s < n * (2 * m + 1) → n * (m * m) + 2 * ((m + d) * s) ≤ n * ((m + d) * (m + d)) + 2 * (m * s)
above n s m d some few =
    let most : n * (2 * m + 1) ≤ n * (2 * m + d) = mul-le-mul_left n (omega arith) in
    let times : d * (2 * s) ≤ d * (n * (2 * m + d)) = mul-le-mul_left d (omega arith) in
    omega (arith, times)

below : (n s e d : ℕ) → 1 ≤ d → 2 * (n * (e + d)) ≤ 2 * s + n → n * ((e + d) * (e + d)) + 2 * (e * s) ≤ n * (e * e) + 2 * ((e + d) * s)
below n s e d some few =
    let one : n * 1 ≤ n * d = mul-le-mul_left n some in
    let least : n * (2 * e + d) ≤ 2 * s = omega (arith, one) in
    let times : d * (n * (2 * e + d)) ≤ d * (2 * s) = mul-le-mul_left d least in
    omega (arith, times)

pub least_by : (n s m e : ℕ) → 2 * (n * m) ≤ 2 * s + n → 2 * s + n < 2 * (n * m) + 2 * n → n * (m * m) + 2 * (e * s) ≤ n * (e * e) + 2 * (m * s)
least_by n s m e low high = elim (cases_order m e) [
  | inl same ↦ rw same (omega arith)
  | inr o ↦ elim o [
    | inl b ↦
        let by : e ≡ m + (e - m) = omega arith in
        rw by (above n s m (e - m) (omega arith) (omega arith))
    | inr b ↦
        let by : m ≡ e + (m - e) = omega arith in
        rw by (below n s e (m - e) (omega arith) (rw by at low))
  ]
]

-- so the mean in a channel is the least, and the mean of a box
pub mean_is : (n s : ℕ) → 0 < n → (2 * (n * ((2 * s + n) / (2 * n))) ≤ 2 * s + n) × (2 * s + n < 2 * (n * ((2 * s + n) / (2 * n))) + 2 * n)
mean_is n s some =
    let low : (2 * s + n) / (2 * n) * (2 * n) ≤ 2 * s + n = div-mul-le_self (2 * s + n) (2 * n) in
    let twice : 0 < 2 * n = omega arith in
    let high : 2 * s + n < 2 * n * ((2 * s + n) / (2 * n) + 1) = omega (arith, lt-mul-div-succ (2 * s + n) twice) in
    (omega arith, omega arith)

channel_least : (k e : ℕ) (box : List (List ℕ)) → 0 < length box
    → sum_by (λ c. squared_difference (mean_of k box) (get_or c k 0)) box ≤ sum_by (λ c. squared_difference e (get_or c k 0)) box
channel_least k e box some =
    let bounds = mean_is (length box) (sum_in k box) some in
    omega (
      arith,
      squares (λ c. get_or c k 0) (mean_of k box) box,
      squares (λ c. get_or c k 0) e box,
      least_by (length box) (sum_in k box) (mean_of k box) e bounds.0 bounds.1,
    )

pub by_channels : (p : List ℕ) (box : List (List ℕ)) → sum_by (λ c. distance p c) box
    ≡ sum_by (λ c. squared_difference (get_or p 0 0) (get_or c 0 0)) box + sum_by (λ c. squared_difference (get_or p 1 0) (get_or c 1 0)) box
    + sum_by (λ c. squared_difference (get_or p 2 0) (get_or c 2 0)) box
by_channels p [] = refl
by_channels p (c ∷ box) =
    omega (
      arith,
      sum_by-cons (λ c. distance p c) c box,
      sum_by-cons (λ c. squared_difference (get_or p 0 0) (get_or c 0 0)) c box,
      sum_by-cons (λ c. squared_difference (get_or p 1 0) (get_or c 1 0)) c box,
      sum_by-cons (λ c. squared_difference (get_or p 2 0) (get_or c 2 0)) c box,
      by_channels p box,
    )

mean_least : (p : List ℕ) (box : List (List ℕ)) → 0 < length box → sum_by (λ c. distance (mean box) c) box ≤ sum_by (λ c. distance p c) box
mean_least p box some =
    omega (
      arith,
      by_channels (mean box) box,
      by_channels p box,
      channel_least 0 (get_or p 0 0) box some,
      channel_least 1 (get_or p 1 0) box some,
      channel_least 2 (get_or p 2 0) box some,
    )

-- an entry after a round is no farther from its colors, in all
pub refined_least : (entry : List ℕ) (box : List (List ℕ)) → sum_by (λ c. distance (refined entry box) c) box ≤ sum_by (λ c. distance entry c) box
refined_least entry [] = omega arith
refined_least entry (c ∷ box) = mean_least entry (c ∷ box) (omega arith)
