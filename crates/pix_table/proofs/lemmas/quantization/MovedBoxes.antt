-- Boxes in another order weigh as much, and have the same mean.
use Rattle.std.proofs.Common.{◌≡◌, ℕ, ◌+◌, List, IsPermutation, length, map, refl, sym, ap₂}
use Rattle.std.proofs.lemmas.List.Sorted.{IsPermutation-map, length_permutation, sum_by-IsPermutation}
use Rattle.std.specs.Prelude.{slice_index}
use Rattle.pix_table.specs.quantization.Places.{sum_in, weight}
use Rattle.pix_table.specs.quantization.Cut.{mean, mean_of}
use Rattle.pix_table.specs.SeenPixels.{over_white}
use Rattle.pix_table.specs.quantization.SeenCut.{seen_mean, seen_weight}

sum_moved : (k : ℕ) (a b : List (List ℕ)) → IsPermutation a b → sum_in k a ≡ sum_in k b
sum_moved k a b moved = sym (sum_by-IsPermutation (λ color. slice_index color k) a b moved)

pub weight_moved : (a b : List (List ℕ)) → IsPermutation a b → weight a ≡ weight b
weight_moved a b moved =
    let long : length a ≡ length b = sym (length_permutation a b moved) in
    let r : sum_in 0 a ≡ sum_in 0 b = sum_moved 0 a b moved in
    let g : sum_in 1 a ≡ sum_in 1 b = sum_moved 1 a b moved in
    let c : sum_in 2 a ≡ sum_in 2 b = sum_moved 2 a b moved in
    rw (long, r, g, c) refl

mean_of_moved : (k : ℕ) (a b : List (List ℕ)) → IsPermutation a b → mean_of k a ≡ mean_of k b
mean_of_moved k a b moved =
    let long : length a ≡ length b = sym (length_permutation a b moved) in
    let sum : sum_in k a ≡ sum_in k b = sum_moved k a b moved in
    rw (long, sum) refl

pub mean_moved : (a b : List (List ℕ)) → IsPermutation a b → mean a ≡ mean b
mean_moved a b moved =
    let r : mean_of 0 a ≡ mean_of 0 b = mean_of_moved 0 a b moved in
    let g : mean_of 1 a ≡ mean_of 1 b = mean_of_moved 1 a b moved in
    let c : mean_of 2 a ≡ mean_of 2 b = mean_of_moved 2 a b moved in
    rw (r, g, c) refl

pub seen_weight_moved : (a b : List (List ℕ)) → IsPermutation a b → seen_weight a ≡ seen_weight b
seen_weight_moved a b moved =
    ap₂ (λ x y. x + y) (weight_moved a b moved) (weight_moved (map over_white a) (map over_white b) (IsPermutation-map over_white a b moved))

pub seen_mean_moved : (a b : List (List ℕ)) → IsPermutation a b → seen_mean a ≡ seen_mean b
seen_mean_moved a b moved =
    let r : mean_of 0 a ≡ mean_of 0 b = mean_of_moved 0 a b moved in
    let g : mean_of 1 a ≡ mean_of 1 b = mean_of_moved 1 a b moved in
    let c : mean_of 2 a ≡ mean_of 2 b = mean_of_moved 2 a b moved in
    let d : mean_of 3 a ≡ mean_of 3 b = mean_of_moved 3 a b moved in
    rw (r, g, c, d) refl
