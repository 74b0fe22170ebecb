-- Error diffusion of colors with an alpha, as they are seen.
use Rattle.std.specs.Prelude.{ℕ, ◌<◌, min, List, [], ◌∷◌, length, map, slice_index, slice_index_or}
use Rattle.pix_table.specs.matching.Nearest.{IsNearestBy}
use Rattle.pix_table.specs.SeenPixels.{seen, seen_distance}
use Rattle.pix_table.specs.diffuse.Diffusion.{IsDiffusedScan, IsNearestAround}
use Rattle.pix_table.specs.declared.diffuse.ScanOrder.{ScanOrder}

-- the color of a number for each channel, of which none is above the alpha
abbrev pub seen_of_channels : (ℕ → ℕ) → List ℕ
seen_of_channels number = min (number 3) (number 0) ∷ min (number 3) (number 1) ∷ min (number 3) (number 2) ∷ number 3 ∷ []

-- the indices of all pixels by error diffusion, as they and the entries are seen. A pixel with the alpha 0
-- has the entry that is nearest to it, and hands on no error
pub record AreSeenDiffused (scan : ScanOrder) (strength width : ℕ) (entries pixels : List (List ℕ)) (indices : List ℕ) : Type 0 where
  pub clear : ℕ
  pub nearest : IsNearestBy seen_distance (map seen entries) (0 ∷ 0 ∷ 0 ∷ 0 ∷ []) clear
  pub diffused : IsDiffusedScan seen_of_channels seen_distance scan strength (map seen entries) 1 clear width (map seen pixels) indices

-- each pixel has the index of the entry that is seen nearest to a color which differs from the pixel, as
-- that is seen, by no more than the bound in red, green, blue and the alpha
abbrev pub AreSeenAround : (entries pixels : List (List ℕ)) (indices : List ℕ) → Type 0
AreSeenAround entries pixels indices =
    (k : ℕ) → k < length pixels → IsNearestAround seen_distance 4 (map seen entries) (seen (slice_index_or pixels k [])) (slice_index indices k)
