-- The table of seen colors has seen colors.
use Rattle.std.specs.List.{flat_map}
use Rattle.std.proofs.Common.{IsPermutation, ℕ, ◌+◌, ◌*◌, ◌/◌, ◌<◌, ◌≤◌, true, List, [], ◌∷◌, ◌++◌, length, get_or, All, refl, arith, sym, subst, inl, inr}
use Rattle.std.proofs.lemmas.Bool.{cases_lt}
use Rattle.std.proofs.lemmas.List.{take_at, drop_at}
use Rattle.std.proofs.lemmas.List.Elements.{All-cons, All-nil, All-take, All-drop, All-map}
use Rattle.std.proofs.lemmas.List.Sorted.{All-permutation, IsPermutation-trans}
use Rattle.std.proofs.lemmas.Nat.{le-div}
use Rattle.std.proofs.Math.Nat.{div-mul-le_self, mul-le-mul_right}
use Rattle.pix_table.specs.quantization.Places.{sum_in}
use Rattle.pix_table.specs.SeenPixels.{AreSeen}
use Rattle.pix_table.specs.quantization.SeenCut.{IsSeenCutTable, seen_mean}
use Rattle.pix_table.proofs.lemmas.quantization.CutColors.{boxes_moved}
use Rattle.pix_table.proofs.lemmas.quantization.PairLemmas.{joined_moved}
use Rattle.pix_table.proofs.lemmas.quantization.SeenWeights.{few_alphas}
use Rattle.pix_table.proofs.lemmas.quantization.SumLemmas.{sum_at_most}

-- a mean is at most another, where its sum is; and one of bytes is a byte
mean_at_most : (r a n : ℕ) → 0 < n → r ≤ a → (2 * r + n) / (2 * n) ≤ (2 * a + n) / (2 * n)
mean_at_most r a n some h =
    le-div ((2 * r + n) / (2 * n)) (2 * a + n) (2 * n) (omega (arith, some)) (omega (arith, h, div-mul-le_self (2 * r + n) (2 * n)))

mean_byte : (a n : ℕ) → 0 < n → a ≤ 255 * n → (2 * a + n) / (2 * n) ≤ 255
mean_byte a n some few = elim (cases_lt 255 ((2 * a + n) / (2 * n))) [
  | inl b ↦
      let most : 256 * (2 * n) ≤ (2 * a + n) / (2 * n) * (2 * n) = mul-le-mul_right {m = 256} {n = (2 * a + n) / (2 * n)} (2 * n) (omega (arith, b)) in
      absurd (omega (arith, most, div-mul-le_self (2 * a + n) (2 * n), few, some))
  | inr b ↦ b
]

-- the mean of a box of seen colors is one
mean_seen : (box : List (List ℕ)) → 0 < length box → All AreSeen box → AreSeen (seen_mean box)
mean_seen box some h = record {
  many = refl;
  red = mean_at_most (sum_in 0 box) (sum_in 3 box) (length box) some (sum_at_most (λ c. true) (λ x. get_or x 0 0) (λ x. get_or x 3 0) box (λ j d inside. (h j d inside).red));
  green = mean_at_most (sum_in 1 box) (sum_in 3 box) (length box) some (sum_at_most (λ c. true) (λ x. get_or x 1 0) (λ x. get_or x 3 0) box (λ j d inside. (h j d inside).green));
  blue = mean_at_most (sum_in 2 box) (sum_in 3 box) (length box) some (sum_at_most (λ c. true) (λ x. get_or x 2 0) (λ x. get_or x 3 0) box (λ j d inside. (h j d inside).blue));
  alpha = mean_byte (sum_in 3 box) (length box) some (few_alphas box h);
}

pub mean_of_box : (box : List (List ℕ)) → All AreSeen box → AreSeen (seen_mean box)
mean_of_box [] h = record { many = refl; red = omega arith; green = omega arith; blue = omega arith; alpha = omega arith }
mean_of_box (c ∷ box) h = mean_seen (c ∷ box) (omega arith) h

-- what holds of each color of some boxes, holds of those of each box
each_box : (P : List ℕ → Type 0) (boxes : List (List (List ℕ))) → All P (flat_map (λ box. box) boxes) → All (λ box. All P box) boxes
each_box P [] h = All-nil (λ box. All P box)
each_box P (b ∷ boxes) h =
    All-cons (λ box. All P box) b boxes
    (subst (All P) (take_at b (flat_map (λ box. box) boxes) (length b) refl) (All-take P (length b) (b ++ flat_map (λ box. box) boxes) h))
    (each_box P boxes (subst (All P) (drop_at b (flat_map (λ box. box) boxes) (length b) refl) (All-drop P (length b) (b ++ flat_map (λ box. box) boxes) h)))

pub table_seen : (room : ℕ) (colors table : List (List ℕ)) → IsSeenCutTable room colors table → All AreSeen colors → All AreSeen table
table_seen room colors table is seen =
    let moved : IsPermutation colors (flat_map (λ box. box) is.groups) =
    IsPermutation-trans colors (flat_map (λ box. box) is.boxes) (flat_map (λ box. box) is.groups) (boxes_moved colors is.boxes is.are)
    (joined_moved is.boxes is.groups is.joined) in
    let each = each_box AreSeen is.groups (All-permutation AreSeen colors (flat_map (λ box. box) is.groups) moved seen) in
    subst (All AreSeen) (sym is.means) (All-map AreSeen seen_mean is.groups (λ j d inside. mean_of_box (get_or is.groups j d) (each j d inside)))
