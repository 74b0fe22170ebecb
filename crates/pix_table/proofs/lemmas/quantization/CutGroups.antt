-- What is kept of the boxes of pieces.
use Rattle.std.specs.Prelude.{min}
use Rattle.std.specs.List.{flat_map}
use Rattle.std.proofs.Common.{◌≡◌, ◌⊎◌, inl, inr, ℕ, ◌+◌, ◌<◌, ◌≤◌, List, [], ◌∷◌, ◌++◌, length, map, take, drop, set, get_or, All, arith, sym, ap, ap₂, ◌∙◌, subst, length-take, refl, sum_by}
use Rattle.std.proofs.lemmas.Bool.{cases_eq}
use Rattle.std.proofs.lemmas.List.{get_or_append_left, get_or_at, get_or-set_same, get_or-set_other, length-set, map-append}
use Rattle.std.proofs.lemmas.List.Sums.{sum_by-append, sum_by-cons}
use Rattle.pix_table.specs.quantization.Places.{CannotBeCutBy}
use Rattle.pix_table.specs.quantization.Cut.{AreBoxesBy, more_boxes}
use Rattle.pix_table.specs.quantization.Items.{spread, times_of}
use Rattle.pix_table.specs.quantization.Pairs.{AreGroupsOf, all_colors}
use Rattle.pix_table.specs.quantization.Pieces.{ArePieces, AreWhole, boxes_of, total}
use Rattle.pix_table.specs.declared.quantization.pieces.Piece.{Piece}
use Rattle.pix_table.proofs.lemmas.quantization.CutColors.{boxes_whole}
use Rattle.pix_table.proofs.lemmas.quantization.ItemLists.{length-spread}
use Rattle.pix_table.proofs.lemmas.quantization.PieceBoxes.{boxes_more, length-boxes, whole_boxes}

-- of one box more
one_more : {G : Type 0} (is_group : List (List ℕ) → G → Type 0) (boxes : List (List (List ℕ))) (box : List (List ℕ)) (groups : List G) (i : ℕ) (g : G)
    → i < length groups → is_group box g → AreGroupsOf is_group boxes groups i → AreGroupsOf is_group (boxes ++ box ∷ []) (set groups i g) (i + 1)
one_more is_group boxes box groups i g inside fits are = record {
  many = omega (arith, are.many, Rattle.std.proofs.Common.length-append boxes (box ∷ []));
  within = omega (arith, length-set groups i g, inside);
  each = λ k d h. elim (cases_eq k i) [
    | inl e ↦
        let here : get_or (boxes ++ box ∷ []) k [] ≡ box = get_or_at boxes box [] [] k (are.many ∙ sym e) in
        let set_here : get_or (set groups i g) k d ≡ g = ap (λ n. get_or (set groups i g) n d) e ∙ get_or-set_same groups i g d inside in
        subst (λ x. is_group (get_or (boxes ++ box ∷ []) k []) x) (sym set_here) (subst (λ b. is_group b g) (sym here) fits)
    | inr n ↦
        let less : k < i = omega (arith, n, h) in
        let here : get_or (boxes ++ box ∷ []) k [] ≡ get_or boxes k [] = get_or_append_left boxes (box ∷ []) [] k (omega (arith, less, are.many)) in
        subst (λ x. is_group (get_or (boxes ++ box ∷ []) k []) x) (sym (get_or-set_other groups i k g d n))
        (subst (λ b. is_group b (get_or groups k d)) (sym here) (are.each k d less))
  ];
}

pub groups_more : {X G : Type 0} (is_group : List (List ℕ) → G → Type 0) (numbers : X → List ℕ) (f : List (List ℕ) → List (List ℕ)) (xs : List X) (ps : List Piece) (groups : List G) (i n start : ℕ)
    (d : Piece) (g : G) → i < length ps → i < length groups → start ≡ total (take i ps) → n ≡ (get_or ps i d).len → is_group (f (map numbers (take n (drop start xs)))) g
    → AreGroupsOf is_group (map f (boxes_of numbers xs (take i ps))) groups i
    → AreGroupsOf is_group (map f (boxes_of numbers xs (take (i + 1) ps))) (set groups i g) (i + 1)
groups_more is_group numbers f xs ps groups i n start d g inside there begin wide fits are =
    let box = map numbers (take (get_or ps i d).len (drop (total (take i ps)) xs)) in
    let grown : map f (boxes_of numbers xs (take (i + 1) ps)) ≡ map f (boxes_of numbers xs (take i ps))
    ++ f (map numbers (take (get_or ps i d).len (drop (total (take i ps)) xs))) ∷ [] =
    ap (map f) (boxes_more numbers xs ps i d inside) ∙ map-append f (boxes_of numbers xs (take i ps)) (box ∷ []) in
    subst (λ b. AreGroupsOf is_group b (set groups i g) (i + 1)) (sym grown)
    (one_more is_group (map f (boxes_of numbers xs (take i ps))) (f box) groups i g there
    (subst (λ b. is_group b g) (ap₂ (λ (m s : ℕ). f (map numbers (take m (drop s xs)))) wide begin) fits) are)

-- the colors of boxes are as many as those of all of them
all_counted : (channels : ℕ) (boxes : List (List (List ℕ)))
    → all_colors (map (spread channels) boxes) ≡ sum_by (times_of channels) (flat_map (λ box. box) boxes)
all_counted channels [] = refl
all_counted channels (b ∷ boxes) =
    sum_by-cons (λ (box : List (List ℕ)). length box) (spread channels b) (map (spread channels) boxes)
    ∙ ap₂ (λ (m n : ℕ). m + n) (length-spread channels b) (all_counted channels boxes)
    ∙ sym (sum_by-append (times_of channels) b (flat_map (λ box. box) boxes))

-- the boxes of the cut, and what is kept of their colors
pub boxes_made : {X G : Type 0} (is_group : List (List ℕ) → G → Type 0) (numbers : X → List ℕ) (channels : ℕ) (weigh : List (List ℕ) → ℕ) (room count : ℕ)
    (start xs : List X) (ps all : List Piece) (groups : List G) → length ps ≡ more_boxes room → count ≤ length ps → take count all ≡ take count ps
    → ArePieces channels weigh numbers xs (take count ps) → AreBoxesBy channels weigh (map numbers start) (boxes_of numbers xs (take count ps))
    → (count ≡ length ps) ⊎ AreWhole (take count ps)
    → AreGroupsOf is_group (map (spread channels) (boxes_of numbers xs (take count all))) groups (length (take count all))
    → sum_by (times_of channels) (map numbers xs) < 18446744073709551616
    → (boxes : List (List (List ℕ))) × AreBoxesBy channels weigh (map numbers start) boxes × (length boxes ≤ more_boxes room)
    × ((length boxes ≡ more_boxes room) ⊎ All (CannotBeCutBy channels) boxes) × AreGroupsOf is_group (map (spread channels) boxes) groups count
    × (all_colors (map (spread channels) boxes) < 18446744073709551616)
boxes_made is_group numbers channels weigh room count start xs ps all groups fits within same stand are is_full kept few =
    let many : length (boxes_of numbers xs (take count ps)) ≡ count = omega (arith, length-boxes numbers xs (take count ps), length-take count ps) in
    let long : length (take count all) ≡ count = ap length same ∙ (let e : length (take count ps) ≡ count = omega (arith, length-take count ps) in e) in (
      boxes_of numbers xs (take count ps),
      are,
      omega (arith, many, fits, within),
      elim is_full [
        | inl e ↦ inl (many ∙ e ∙ fits)
        | inr whole ↦ inr (whole_boxes numbers channels weigh xs (take count ps) stand.known whole)
      ],
      subst (λ n. AreGroupsOf is_group (map (spread channels) (boxes_of numbers xs (take count ps))) groups n) long
          (subst (λ l. AreGroupsOf is_group (map (spread channels) (boxes_of numbers xs l)) groups (length (take count all))) same kept),
      omega (
        arith,
        all_counted channels (boxes_of numbers xs (take count ps)) ∙ ap (sum_by (times_of channels)) (boxes_whole numbers xs (take count ps) stand.all),
        few,
      ),
    )
