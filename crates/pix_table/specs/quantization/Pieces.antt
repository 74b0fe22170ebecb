-- The boxes of a cut as the program keeps them: pieces of one slice of colors. No clause of a public
-- call cites this file.
use Rattle.std.specs.Prelude.{◌≡◌, ℕ, ◌<◌, ◌≤◌, List, [], ◌∷◌, length, map, take, drop, All, sum_by, Option, Some, None, MatchOption, IfSome, HoldsAt}
use Rattle.std.specs.List.{AllZip}
use Rattle.pix_table.specs.quantization.Places.{CannotBeCutBy, HasBestBy}
use Rattle.pix_table.specs.declared.quantization.place.Place.{Place}
use Rattle.pix_table.specs.declared.quantization.pieces.Piece.{Piece}
use Rattle.pix_table.specs.declared.quantization.pieces.BestCut.{BestCut}
use Rattle.pix_table.specs.declared.quantization.pieces.Next.{Next}

-- the best place of a box, or none where it cannot be cut
abbrev pub IsPlaceOf : (channels : ℕ) (weigh : List (List ℕ) → ℕ) → List (List ℕ) → Option Place → Type 0
IsPlaceOf channels weigh box place =
    MatchOption place (CannotBeCutBy channels box) (λ p. HasBestBy channels weigh box p.channel p.value p.gain)

-- a piece has the place of its box
abbrev pub IsKnown : (channels : ℕ) (weigh : List (List ℕ) → ℕ) → List (List ℕ) → Piece → Type 0
IsKnown channels weigh box piece = IsPlaceOf channels weigh box piece.place

-- how many colors some pieces have
abbrev pub total : List Piece → ℕ
total pieces = sum_by (λ p. p.len) pieces

-- the boxes of pieces that lie one after the other in a list of colors, by the numbers of a color
abbrev pub boxes_of : {X : Type 0} → (X → List ℕ) → List X → List Piece → List (List (List ℕ))
boxes_of numbers colors [] = []
boxes_of numbers colors (p ∷ pieces) = map numbers (take p.len colors) ∷ boxes_of numbers (drop p.len colors) pieces

-- pieces have all colors of a list, none is empty, and each has the place of its box
pub record ArePieces {X : Type 0} (channels : ℕ) (weigh : List (List ℕ) → ℕ) (numbers : X → List ℕ) (colors : List X)
    (pieces : List Piece) : Type 0 where
  pub all : total pieces ≡ length colors
  pub some : All (λ p. 0 < p.len) pieces
  pub known : AllZip (IsKnown channels weigh) (boxes_of numbers colors pieces) pieces

-- no piece can be cut
abbrev pub AreWhole : List Piece → Type 0
AreWhole pieces = All (λ p. p.place ≡ None) pieces

-- the piece whose cut gains most, the first of equals: its index, how many colors come before it, and
-- its place
pub record IsNext (pieces : List Piece) (next : Next) : Type 0 where
  pub stands : next.at < length pieces
  pub start : next.start ≡ total (take next.at pieces)
  pub place : HoldsAt (λ p. p.place ≡ Some next.place) pieces next.at
  pub best : All (λ p. IfSome p.place (λ place. place.gain ≤ next.place.gain)) pieces
  pub first : All (λ p. IfSome p.place (λ place. place.gain < next.place.gain)) (take next.at pieces)

-- the same, or none where no piece can be cut
abbrev pub IsNextOrNone : List Piece → Option Next → Type 0
IsNextOrNone pieces next = MatchOption next (AreWhole pieces) (IsNext pieces)

-- what is kept of that piece while the pieces are gone through: its index, how many colors come before it,
-- and what its cut gains
pub record IsBestCut (pieces : List Piece) (most : BestCut) : Type 0 where
  pub stands : most.at < length pieces
  pub start : most.start ≡ total (take most.at pieces)
  pub gain : HoldsAt (λ p. MatchOption p.place ⊥ (λ place. place.gain ≡ most.gain)) pieces most.at
  pub best : All (λ p. IfSome p.place (λ place. place.gain ≤ most.gain)) pieces
  pub first : All (λ p. IfSome p.place (λ place. place.gain < most.gain)) (take most.at pieces)

-- the same, or none where no piece can be cut
abbrev pub IsBestCutOrNone : List Piece → Option BestCut → Type 0
IsBestCutOrNone pieces most = MatchOption most (AreWhole pieces) (IsBestCut pieces)
