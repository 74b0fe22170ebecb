-- Lanes by their places.
use Rattle.std.proofs.Common.{◌≡◌, ℕ, zero, suc, ◌+◌, ◌*◌, ◌%◌, ◌^◌, ◌<◌, ◌≤◌, List, [], ◌∷◌, length, map, take, get_or, replicate, arith, refl, sym, ◌∙◌}
use Rattle.std.proofs.Math.Nat.{mul-le-mul_left}
use lib.Lanes.{zip2}
use Rattle.std.proofs.lemmas.List.{length-map, length-take, get_or-map, get_or-take}
use Rattle.std.proofs.lemmas.Simd.{length-zip2}
use native.Mathlib.Nat.{mod-eq_of_lt}
use Rattle.pix_scale.proofs.Sums.{Summed}

zeros : (n x : ℕ) → let z : ℕ = 0 in get_or (replicate n z) x z ≡ z
zeros zero x = refl
zeros (suc n) zero = refl
zeros (suc n) (suc x) = zeros n x

pub lanes_none : (n : ℕ) (weights : List ℕ) (numbers : ℕ → ℕ) → Summed (replicate n 0) weights numbers 4 0
lanes_none n weights numbers = record { at = λ x lt. zeros n x }

-- the lane of a place
pub get_or-zip2 : (f : ℕ → ℕ → ℕ) (xs ys : List ℕ) (i : ℕ) → i < length xs → length xs ≡ length ys → get_or (zip2 f xs ys) i 0 ≡ f (get_or xs i 0) (get_or ys i 0)
get_or-zip2 f [] ys i lt e = absurd (omega arith)
get_or-zip2 f (x ∷ xs) [] i lt e = absurd (omega arith)
get_or-zip2 f (x ∷ xs) (y ∷ ys) zero lt e = refl
get_or-zip2 f (x ∷ xs) (y ∷ ys) (suc i) lt e = get_or-zip2 f xs ys i (omega arith) (omega arith)

pub get_or-replicate : (n v i : ℕ) → i < n → get_or (replicate n v) i 0 ≡ v
get_or-replicate zero v i lt = absurd (omega arith)
get_or-replicate (suc n) v zero lt = refl
get_or-replicate (suc n) v (suc i) lt = get_or-replicate n v i (omega arith)

-- four lanes stay four
pub four : (f g : ℕ → ℕ → ℕ) (h : ℕ → ℕ) (acc pixel : List ℕ) (w : ℕ) → length acc ≡ 4 → length pixel ≡ 4
    → length (zip2 f acc (zip2 g (map h (take 4 pixel)) (w ∷ w ∷ w ∷ w ∷ []))) ≡ 4
four f g h acc pixel w a p =
    let short : length (map h (take 4 pixel)) ≡ 4 = omega (arith, length-map (take 4 pixel) h, length-take 4 pixel) in
    let inner : length (zip2 g (map h (take 4 pixel)) (w ∷ w ∷ w ∷ w ∷ [])) ≡ 4 = length-zip2 g (map h (take 4 pixel)) (w ∷ w ∷ w ∷ w ∷ []) short ∙ short in
    length-zip2 f acc (zip2 g (map h (take 4 pixel)) (w ∷ w ∷ w ∷ w ∷ [])) (a ∙ sym inner) ∙ a

-- a lane, by the operations of its numbers
pub lane_sum : (f g : ℕ → ℕ → ℕ) (h : ℕ → ℕ) (acc pixel : List ℕ) (w x : ℕ) → length acc ≡ 4 → length pixel ≡ 4 → x < 4
    → get_or (zip2 f acc (zip2 g (map h (take 4 pixel)) (w ∷ w ∷ w ∷ w ∷ []))) x 0 ≡ f (get_or acc x 0) (g (h (get_or pixel x 0)) w)
lane_sum f g h acc pixel w x a p lt =
    let xs : List ℕ = map h (take 4 pixel) in
    let ws : List ℕ = w ∷ w ∷ w ∷ w ∷ [] in
    let short : length (take 4 pixel) ≡ 4 = omega (arith, length-take 4 pixel) in
    let long : length xs ≡ 4 = omega (arith, length-map (take 4 pixel) h, short) in
    let inner : length (zip2 g xs ws) ≡ 4 = length-zip2 g xs ws long ∙ long in
    let outer : get_or (zip2 f acc (zip2 g xs ws)) x 0 ≡ f (get_or acc x 0) (get_or (zip2 g xs ws) x 0) =
    get_or-zip2 f acc (zip2 g xs ws) x (omega (arith, a, lt)) (a ∙ sym inner) in
    let product : get_or (zip2 g xs ws) x 0 ≡ g (get_or xs x 0) (get_or ws x 0) = get_or-zip2 g xs ws x (omega (arith, long, lt)) long in
    let number : get_or xs x 0 ≡ h (get_or (take 4 pixel) x 0) = get_or-map h (take 4 pixel) x 0 0 (omega (arith, short, lt)) in
    let taken : get_or (take 4 pixel) x 0 ≡ get_or pixel x 0 = get_or-take 4 pixel x 0 lt in
    let weight : get_or ws x 0 ≡ w = get_or-replicate 4 w x lt in
    outer ∙ rw (product, number, taken, weight) refl

-- a term and a sum that fit are not cut
pub not_cut : (a p w : ℕ) → p < 2 ^ 32 → a + w * 2 ^ 32 < 2 ^ 63 → (a + p * w % 2 ^ 64) % 2 ^ 64 ≡ a + w * p
not_cut a p w small fits =
    let k : w * p ≤ w * 2 ^ 32 = mul-le-mul_left w (let l : p ≤ 2 ^ 32 = omega arith in l) in
    let e : p * w ≡ w * p = omega arith in
    let m : p * w % 2 ^ 64 ≡ p * w = mod-eq_of_lt (omega (arith, k, e, fits)) in
    rw m (mod-eq_of_lt (omega (arith, k, e, fits)) ∙ omega (arith, e))

-- the same where all lanes are of 32 bits
pub four_narrow : (f g : ℕ → ℕ → ℕ) (acc pixel : List ℕ) (w : ℕ) → length acc ≡ 4 → length pixel ≡ 4
    → length (zip2 f acc (zip2 g (take 4 pixel) (w ∷ w ∷ w ∷ w ∷ []))) ≡ 4
four_narrow f g acc pixel w a p =
    let short : length (take 4 pixel) ≡ 4 = omega (arith, length-take 4 pixel) in
    let inner : length (zip2 g (take 4 pixel) (w ∷ w ∷ w ∷ w ∷ [])) ≡ 4 = length-zip2 g (take 4 pixel) (w ∷ w ∷ w ∷ w ∷ []) short ∙ short in
    length-zip2 f acc (zip2 g (take 4 pixel) (w ∷ w ∷ w ∷ w ∷ [])) (a ∙ sym inner) ∙ a

pub lane_narrow : (f g : ℕ → ℕ → ℕ) (acc pixel : List ℕ) (w x : ℕ) → length acc ≡ 4 → length pixel ≡ 4 → x < 4
    → get_or (zip2 f acc (zip2 g (take 4 pixel) (w ∷ w ∷ w ∷ w ∷ []))) x 0 ≡ f (get_or acc x 0) (g (get_or pixel x 0) w)
lane_narrow f g acc pixel w x a p lt =
    let xs : List ℕ = take 4 pixel in
    let ws : List ℕ = w ∷ w ∷ w ∷ w ∷ [] in
    let short : length xs ≡ 4 = omega (arith, length-take 4 pixel) in
    let inner : length (zip2 g xs ws) ≡ 4 = length-zip2 g xs ws short ∙ short in
    let outer : get_or (zip2 f acc (zip2 g xs ws)) x 0 ≡ f (get_or acc x 0) (get_or (zip2 g xs ws) x 0) =
    get_or-zip2 f acc (zip2 g xs ws) x (omega (arith, a, lt)) (a ∙ sym inner) in
    let product : get_or (zip2 g xs ws) x 0 ≡ g (get_or xs x 0) (get_or ws x 0) = get_or-zip2 g xs ws x (omega (arith, short, lt)) short in
    let taken : get_or xs x 0 ≡ get_or pixel x 0 = get_or-take 4 pixel x 0 lt in
    let weight : get_or ws x 0 ≡ w = get_or-replicate 4 w x lt in
    outer ∙ rw (product, taken, weight) refl

pub not_cut_narrow : (a p w : ℕ) → a + w * p < 2 ^ 32 → (a + p * w % 2 ^ 32) % 2 ^ 32 ≡ a + w * p
not_cut_narrow a p w fits =
    let e : p * w ≡ w * p = omega arith in
    let m : p * w % 2 ^ 32 ≡ p * w = mod-eq_of_lt (omega (arith, e, fits)) in
    rw m (mod-eq_of_lt (omega (arith, e, fits)) ∙ omega (arith, e))
