-- A table of the pixels of a picture: those that are seen as none before them, and the table of the cut after the rounds.
use Rattle.std.specs.List.{list_any}
use Rattle.std.proofs.Common.{◌≡◌, ℕ, ◌+◌, ◌<◌, ◌≤◌, Bool, true, false, ◌||◌, List, [], ◌∷◌, ◌++◌, length, map, take, drop, set, get_or, All, IsPermutation, refl, arith, ap, ap₂, subst, sym, ◌∙◌, length-append}
use Rattle.std.proofs.lemmas.List.{map-append, take_more_set}
use Rattle.std.proofs.lemmas.List.Elements.{All-head, All-tail}
use Rattle.pix_table.specs.SeenPixels.{AreSeen, seen, seen_distance, straight}
use Rattle.pix_table.specs.quantization.SeenCut.{IsSeenCutTable}
use Rattle.pix_table.specs.quantization.SeenTables.{IsSeenRefined, IsSeenTable, distinct_pixels, four_of, opaque_settled, same_seen, seen_settled}
use Rattle.pix_table.proofs.lemmas.quantization.BoxSpans.{map_more}
use Rattle.pix_table.proofs.lemmas.matching.Distinct.{distinct_first, known_more, new_more, parted_at}
use Rattle.pix_table.proofs.lemmas.quantization.RefinedTables.{error_moved, round_falls, round_moved, rounds_moved}
use Rattle.pix_table.proofs.SeenColors.{seen_straight}
use Rattle.pix_table.proofs.lemmas.quantization.SeenErrors.{settled_falls}

-- whether a pixel is seen as one of a table
any_mapped : (f : List ℕ → Bool) (g : List ℕ → List ℕ) (xs : List (List ℕ)) → list_any f (map g xs) ≡ list_any (λ x. f (g x)) xs
any_mapped f g [] = refl
any_mapped f g (x ∷ xs) = ap (λ b. f (g x) || b) (any_mapped f g xs)

pub known_by : (table shown : List (List ℕ)) (x y : List ℕ) (b : Bool) → shown ≡ map seen table → y ≡ seen x → b ≡ list_any (λ c. same_seen c y) shown
    → b ≡ list_any (λ p. same_seen (seen p) (seen x)) table
known_by table shown x y b e f h =
    h ∙ ap (list_any (λ c. same_seen c y)) e ∙ any_mapped (λ c. same_seen c y) seen table ∙ ap (λ z. list_any (λ p. same_seen (seen p) z) table) f

-- one element more of a list
pub pushed : {X : Type 0} (f : X → List ℕ) (xs : List X) (n : ℕ) (x : X) → n < length xs → map f (take (n + 1) (set xs n x)) ≡ map f (take n xs) ++ f x ∷ []
pushed f xs n x inside = ap (map f) (take_more_set xs n x inside) ∙ map-append f (take n xs) (x ∷ [])

-- one pixel more
module _ {X : Type 0} (f : X → List ℕ) (ps : List X) (i : ℕ) (x : X) (inside : i < length ps) (read : x ≡ get_or ps i x) (table : List (List ℕ))
    (written : table ≡ distinct_pixels (map f (take i ps))) where
  four_more : map four_of (map f (take (i + 1) ps)) ≡ map four_of (map f (take i ps)) ++ four_of (f x) ∷ []
  four_more = ap (map four_of) (map_more f ps i x inside read) ∙ map-append four_of (map f (take i ps)) (f x ∷ [])

  pub pixel_known : list_any (λ p. same_seen (seen p) (seen (f x))) table ≡ true → table ≡ distinct_pixels (map f (take (i + 1) ps))
  pixel_known known = known_more (λ p q. same_seen (seen p) (seen q)) _ _ table (four_of (f x)) four_more written known

  pub pixel_new : list_any (λ p. same_seen (seen p) (seen (f x))) table ≡ false → table ++ four_of (f x) ∷ [] ≡ distinct_pixels (map f (take (i + 1) ps))
  pixel_new known = new_more (λ p q. same_seen (seen p) (seen q)) _ _ table (four_of (f x)) four_more written known

  -- where a table is full, there are more
  pub pixel_more : list_any (λ p. same_seen (seen p) (seen (f x))) table ≡ false → length table < length (distinct_pixels (map f ps))
  pixel_more known =
      let parts : map four_of (map f ps) ≡ map four_of (map f (take (i + 1) ps)) ++ map four_of (map f (drop (i + 1) ps)) =
      ap (map four_of) (parted_at f ps (i + 1)) ∙ map-append four_of (map f (take (i + 1) ps)) (map f (drop (i + 1) ps)) in
      omega (
        arith,
        ap length (pixel_new known),
        length-append table (four_of (f x) ∷ []),
        distinct_first (λ p q. same_seen (seen p) (seen q)) (map four_of (map f ps)) (map four_of (map f (take (i + 1) ps))) (map four_of (map f (drop (i + 1) ps))) parts,
      )

-- the table is that of the colors in any order
pub seen_moved : (rounds room : ℕ) (xs ys first new table : List (List ℕ)) → IsPermutation xs ys → IsSeenCutTable room ys first
    → IsSeenRefined rounds xs first new → table ≡ new → IsSeenTable rounds room ys table
seen_moved rounds room xs ys first new table moved made are e =
    let last : List (List ℕ) = are.0 in
    rw e (
      first,
      made,
      (
        last,
        rounds_moved seen_distance seen_settled rounds xs ys first last moved are.1,
        omega (arith, error_moved seen_distance last xs ys moved, error_moved seen_distance first xs ys moved, are.2),
        round_moved seen_distance opaque_settled xs ys last new moved are.3,
      ),
      round_falls seen_distance seen_settled settled_falls ys,
    )

-- what a list of seen colors is divided by its alphas is seen as that list
pub seen_again : (colors : List (List ℕ)) → All AreSeen colors → map seen (map straight colors) ≡ colors
seen_again [] h = refl
seen_again (c ∷ colors) h = ap₂ (λ x xs. x ∷ xs) (seen_straight c (All-head AreSeen c colors h)) (seen_again colors (All-tail AreSeen c colors h))
