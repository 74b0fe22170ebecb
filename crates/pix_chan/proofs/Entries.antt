-- The entries of a table, each tested with its index.
use Rattle.std.proofs.Common.{◌≡◌, ℕ, zero, suc, ◌<◌, ◌+◌, ◌*◌, ◌-◌, List, [], ◌∷◌, length, Bool, true, ◌&&◌, nat_le, nat_lt, ◌∙◌, sym, ap, leb-true, ltb-true, arith}
use Rattle.std.specs.Prelude.{slice_index_or}
use Rattle.std.proofs.lemmas.Bool.{and_parts}
use Rattle.pix_chan.specs.SrgbCurve.{curve_side, fraction_side, IsNearestDecoded, IsNearestEncoded}

-- the test holds of each number of the list with its index, the first of which is i
abbrev pub each_from : (ℕ → ℕ → Bool) → ℕ → List ℕ → Bool
each_from test i [] = true
each_from test i (x ∷ xs) = test i x && each_from test (suc i) xs

at_from : (test : ℕ → ℕ → Bool) (i : ℕ) (xs : List ℕ) → each_from test i xs ≡ true → (k : ℕ) → k < length xs → test (i + k) (slice_index_or xs k 0) ≡ true
at_from test i [] h k lt = absurd (omega arith)
at_from test i (x ∷ xs) h zero lt =
    let same : i + 0 ≡ i = omega arith in
    rw same (and_parts (test i x) (each_from test (suc i) xs) h).0
at_from test i (x ∷ xs) h (suc k) lt =
    let same : i + suc k ≡ suc i + k = omega arith in
    rw same (at_from test (suc i) xs (and_parts (test i x) (each_from test (suc i) xs) h).1 k (omega arith))

pub each_at : (test : ℕ → ℕ → Bool) (xs : List ℕ) → each_from test 0 xs ≡ true → (k : ℕ) → k < length xs → test k (slice_index_or xs k 0) ≡ true
each_at test xs h k lt =
    let same : 0 + k ≡ k = omega arith in
    sym (ap (λ n. test n (slice_index_or xs k 0)) same) ∙ at_from test 0 xs h k lt

abbrev pub is_nearest_decoded : ℕ → ℕ → ℕ → Bool
is_nearest_decoded top i v =
    nat_le (fraction_side i 255 (2 * v - 1)) (curve_side i 255 (2 * top)) && nat_lt (curve_side i 255 (2 * top)) (fraction_side i 255 (2 * v + 1))

pub nearest_decoded : (top i v : ℕ) → is_nearest_decoded top i v ≡ true → IsNearestDecoded top i v
nearest_decoded top i v h =
    let low = nat_le (fraction_side i 255 (2 * v - 1)) (curve_side i 255 (2 * top)) in
    let high = nat_lt (curve_side i 255 (2 * top)) (fraction_side i 255 (2 * v + 1)) in
    let parts = and_parts low high h in
    record { above = leb-true (fraction_side i 255 (2 * v - 1)) (curve_side i 255 (2 * top)) parts.0; below = ltb-true (curve_side i 255 (2 * top)) (fraction_side i 255 (2 * v + 1)) parts.1 }

abbrev pub is_nearest_encoded : ℕ → ℕ → ℕ → Bool
is_nearest_encoded top i v =
    nat_le (curve_side (2 * v - 1) 510 top) (fraction_side (2 * v - 1) 510 i) && nat_lt (fraction_side (2 * v + 1) 510 i) (curve_side (2 * v + 1) 510 top)

pub nearest_encoded : (top i v : ℕ) → is_nearest_encoded top i v ≡ true → IsNearestEncoded top i v
nearest_encoded top i v h =
    let low = nat_le (curve_side (2 * v - 1) 510 top) (fraction_side (2 * v - 1) 510 i) in
    let high = nat_lt (fraction_side (2 * v + 1) 510 i) (curve_side (2 * v + 1) 510 top) in
    let parts = and_parts low high h in
    record { above = leb-true (curve_side (2 * v - 1) 510 top) (fraction_side (2 * v - 1) 510 i) parts.0; below = ltb-true (fraction_side (2 * v + 1) 510 i) (curve_side (2 * v + 1) 510 top) parts.1 }
