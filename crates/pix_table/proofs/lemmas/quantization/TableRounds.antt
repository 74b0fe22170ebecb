-- The rounds of a table that is made by the cut.
use Rattle.std.specs.Prelude.{MatchOption}
use Rattle.std.proofs.Common.{◌≡◌, ℕ, zero, suc, ◌≤◌, List, Option, Some, None, IsPermutation, refl, inl, inr, arith, sym, subst}
use Rattle.pix_table.specs.quantization.Cut.{IsCutTable}
use Rattle.pix_table.specs.quantization.Quantization.{IsQuantized}
use Rattle.pix_table.specs.matching.Nearest.{distance}
use Rattle.pix_table.specs.quantization.Refine.{AreRounds, AreRoundsBy, IsQuantizedRefined, IsRefinedCut, IsRoundBy, refined}
use Rattle.pix_table.specs.quantization.SquaredErrors.{squared_error}
use Rattle.pix_table.specs.quantization.Grays.{IsLeastOr}
use Rattle.pix_table.proofs.lemmas.quantization.LeastMeans.{refined_least}
use Rattle.pix_table.proofs.lemmas.quantization.RefinedTables.{rounds_moved, error_moved, round_falls}

-- of grays the table is the least, whatever is said of others
least_or : (P Q : Type 0) (room : ℕ) (colors table : List (List ℕ)) → (P → Q) → IsLeastOr P room colors table → IsLeastOr Q room colors table
least_or P Q room colors table f (inl h) = inl h
least_or P Q room colors table f (inr h) = inr (h.0, f h.1)

-- no rounds leave the table of the cut
pub unrefined : (room : ℕ) (colors table : List (List ℕ)) → IsQuantizedRefined 0 room colors table → IsQuantized room colors table
unrefined room colors table (inl fit) = inl fit
unrefined room colors table (inr h) =
    inr (h.0, least_or (IsRefinedCut 0 room colors table) (IsCutTable room colors table) room colors table (λ k. subst (IsCutTable room colors) (sym k.2) k.1) h.1)

-- what holds of the number of an answer, since something else does
pub of_some : (P : Type 0) (Q R : ℕ → Type 0) → ((n : ℕ) → Q n → R n) → (answer : Option ℕ) → MatchOption answer P Q → MatchOption answer P R
of_some P Q R f None h = h
of_some P Q R f (Some n) h = f n h

-- the rounds are those of the colors in any order
pub refined_moved : (rounds room : ℕ) (xs ys first new table : List (List ℕ)) → IsPermutation xs ys → IsCutTable room ys first → AreRounds rounds xs first new
    → squared_error new xs ≤ squared_error first xs → table ≡ new
    → IsRefinedCut rounds room ys table
refined_moved rounds room xs ys first new table moved made are less e =
    rw e (
      first,
      made,
      rounds_moved distance refined rounds xs ys first new moved are,
      omega (arith, error_moved distance new xs ys moved, error_moved distance first xs ys moved, less),
      round_falls distance refined refined_least ys,
    )

-- a round that moves no entry stays one, however many there are
pub none_move : (apart : List ℕ → List ℕ → ℕ) (settle : List ℕ → List (List ℕ) → List ℕ) (rounds : ℕ) (colors entries : List (List ℕ))
    → IsRoundBy apart settle colors entries entries → AreRoundsBy apart settle rounds colors entries entries
none_move apart settle zero colors entries h = refl
none_move apart settle (suc n) colors entries h = (entries, h, none_move apart settle n colors entries h)
