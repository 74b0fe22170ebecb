-- The boxes of a list of colors have all of its colors.
use Rattle.std.specs.List.{flat_map}
use Rattle.std.proofs.Common.{◌≡◌, All, ℕ, ◌+◌, List, [], ◌∷◌, ◌++◌, length, map, take, drop, IsPermutation, refl, arith, sym, ap, ◌∙◌, subst, append_assoc, append-nil, length-drop, take-append-drop, ◌<◌, sum_by}
use Rattle.std.proofs.lemmas.List.{map-append}
use Rattle.std.proofs.lemmas.List.Sums.{sum_by-cons}
use Rattle.std.proofs.lemmas.List.Sorted.{All-permutation, IsPermutation-refl, IsPermutation-trans, IsPermutation-append_left, IsPermutation-append_right, sum_by-IsPermutation}
use Rattle.std.proofs.lemmas.Grind.{flat_map-append}
use Rattle.pix_table.specs.quantization.Cut.{AreBoxesBy, one, cut}
use Rattle.pix_table.specs.quantization.Pieces.{boxes_of, total}
use Rattle.pix_table.specs.declared.quantization.pieces.Piece.{Piece}

abbrev colors_of : List (List (List ℕ)) → List (List ℕ)
colors_of boxes = flat_map (λ box. box) boxes

pub boxes_moved : {channels : ℕ} {weigh : List (List ℕ) → ℕ} (colors : List (List ℕ)) (boxes : List (List (List ℕ))) → AreBoxesBy channels weigh colors boxes → IsPermutation colors (colors_of boxes)
boxes_moved _ _ (one colors some) = subst (IsPermutation colors) (sym (append-nil colors)) (IsPermutation-refl colors)
boxes_moved _ _ (cut colors box low high before after are next) =
    let old : colors_of (before ++ box ∷ after) ≡ colors_of before ++ (box ++ colors_of after) = flat_map-append (λ b. b) before (box ∷ after) in
    let new : colors_of (before ++ low ∷ high ∷ after) ≡ colors_of before ++ ((low ++ high) ++ colors_of after) =
    flat_map-append (λ b. b) before (low ∷ high ∷ after) ∙ ap (λ l. colors_of before ++ l) (sym (append_assoc low high (colors_of after))) in
    IsPermutation-trans colors (colors_of (before ++ box ∷ after)) (colors_of (before ++ low ∷ high ∷ after))
    (boxes_moved colors (before ++ box ∷ after) are)
    (rw (old, new)
    (IsPermutation-append_right (colors_of before) (box ++ colors_of after) ((low ++ high) ++ colors_of after)
    (IsPermutation-append_left (colors_of after) box (low ++ high) next.cut.all)))

-- the boxes of pieces that have all colors
no_colors : {X : Type 0} (numbers : X → List ℕ) (xs : List X) → 0 ≡ length xs → [] ≡ map numbers xs
no_colors numbers [] e = refl
no_colors numbers (x ∷ xs) e = absurd (omega arith)

pub boxes_whole : {X : Type 0} (numbers : X → List ℕ) (xs : List X) (ps : List Piece) → total ps ≡ length xs → colors_of (boxes_of numbers xs ps) ≡ map numbers xs
boxes_whole numbers xs [] e = no_colors numbers xs e
boxes_whole numbers xs (p ∷ ps) e =
    let sum : total (p ∷ ps) ≡ p.len + total ps = sum_by-cons (λ (q : Piece). q.len) p ps in
    ap (λ l. map numbers (take p.len xs) ++ l) (boxes_whole numbers (drop p.len xs) ps (omega (arith, sum, e, length-drop p.len xs)))
    ∙ sym (map-append numbers (take p.len xs) (drop p.len xs)) ∙ ap (map numbers) (take-append-drop p.len xs)

-- what holds of each color at first, holds of each of the colors of the pieces
pub boxes_fit : {X : Type 0} {channels : ℕ} {weigh : List (List ℕ) → ℕ} (P : List ℕ → Type 0) (numbers : X → List ℕ) (start : List (List ℕ)) (xs : List X)
    (ps : List Piece) → AreBoxesBy channels weigh start (boxes_of numbers xs ps) → total ps ≡ length xs → All P start → All P (map numbers xs)
boxes_fit P numbers start xs ps are whole h =
    All-permutation P start (map numbers xs)
    (subst (IsPermutation start) (boxes_whole numbers xs ps whole) (boxes_moved start (boxes_of numbers xs ps) are)) h

-- and they stand as often
pub boxes_few : {X : Type 0} {channels : ℕ} {weigh : List (List ℕ) → ℕ} (times : List ℕ → ℕ) (numbers : X → List ℕ) (start : List (List ℕ)) (xs : List X)
    (ps : List Piece) (most : ℕ) → AreBoxesBy channels weigh start (boxes_of numbers xs ps) → total ps ≡ length xs → sum_by times start < most
    → sum_by times (map numbers xs) < most
boxes_few times numbers start xs ps most are whole h =
    let same : sum_by times (map numbers xs) ≡ sum_by times start =
    sum_by-IsPermutation times start (map numbers xs)
    (subst (IsPermutation start) (boxes_whole numbers xs ps whole) (boxes_moved start (boxes_of numbers xs ps) are)) in
    omega (arith, same, h)
