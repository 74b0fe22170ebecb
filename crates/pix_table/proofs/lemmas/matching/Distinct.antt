-- Distinct colors, one color after the other.
use Rattle.std.specs.List.{list_any}
use Rattle.std.proofs.Common.{◌≡◌, ℕ, ◌≤◌, Bool, true, false, List, [], ◌∷◌, ◌++◌, length, map, take, drop, fold, arith, sym, ap, ◌∙◌, if◌then◌else◌, length-append, take-append-drop}
use Rattle.std.proofs.lemmas.List.{map-append}
use Rattle.std.proofs.lemmas.List.Sums.{fold-append}
use Rattle.pix_table.specs.quantization.Quantization.{distinct_by, with_color_by}
use Rattle.pix_table.proofs.lemmas.quantization.BoxSpans.{fold_one_more}

-- by any test of what is the same
module _ (same : List ℕ → List ℕ → Bool) where
  -- one color more that is among them
  pub known_more : (box more table : List (List ℕ)) (x : List ℕ) → more ≡ box ++ x ∷ [] → table ≡ distinct_by same box → list_any (λ c. same c x) table ≡ true
      → table ≡ distinct_by same more
  known_more box more table x e are known =
      let test : list_any (λ c. same c x) (distinct_by same box) ≡ true = ap (list_any (λ c. same c x)) (sym are) ∙ known in
      are ∙ sym (fold_one_more (with_color_by same) [] box more x e ∙ ap (λ b. if b then distinct_by same box else distinct_by same box ++ x ∷ []) test)

  -- and one that is not
  pub new_more : (box more table : List (List ℕ)) (x : List ℕ) → more ≡ box ++ x ∷ [] → table ≡ distinct_by same box → list_any (λ c. same c x) table ≡ false
      → table ++ x ∷ [] ≡ distinct_by same more
  new_more box more table x e are known =
      let test : list_any (λ c. same c x) (distinct_by same box) ≡ false = ap (list_any (λ c. same c x)) (sym are) ∙ known in
      ap (λ l. l ++ x ∷ []) are ∙ sym (fold_one_more (with_color_by same) [] box more x e ∙ ap (λ b. if b then distinct_by same box else distinct_by same box ++ x ∷ []) test)

  longer : (b : Bool) (colors : List (List ℕ)) (x : List ℕ) → length colors ≤ length (if b then colors else colors ++ x ∷ [])
  longer true colors x = omega arith
  longer false colors x = omega (arith, length-append colors (x ∷ []))

  grows : (colors xs : List (List ℕ)) → length colors ≤ length (fold (with_color_by same) colors xs)
  grows colors [] = omega arith
  grows colors (x ∷ xs) = omega (arith, longer (list_any (λ c. same c x) colors) colors x, grows (with_color_by same colors x) xs)

  -- the first colors have no more distinct ones than all
  pub distinct_first : (colors xs ys : List (List ℕ)) → colors ≡ xs ++ ys → length (distinct_by same xs) ≤ length (distinct_by same colors)
  distinct_first colors xs ys e =
      let all : distinct_by same colors ≡ fold (with_color_by same) (distinct_by same xs) ys =
      ap (distinct_by same) e ∙ fold-append (with_color_by same) [] xs ys in
      omega (arith, ap length all, grows (distinct_by same xs) ys)

pub parted_at : {X : Type 0} (f : X → List ℕ) (xs : List X) (i : ℕ) → map f xs ≡ map f (take i xs) ++ map f (drop i xs)
parted_at f xs i = ap (map f) (sym (take-append-drop i xs)) ∙ map-append f (take i xs) (drop i xs)
