-- What is stored while errors are diffused. No clause of a public call cites this file.
use Rattle.std.specs.Prelude.{◌≡◌, ℕ, ◌+◌, ◌-◌, ◌%◌, ◌<◌, ◌≤◌, List, [], Bool, ◌&&◌, nat_lt, nat_le, length, slice_index, slice_index_or}
use Rattle.pix_table.specs.diffuse.Diffusion.{IsDiffused, in_picture, number_above, part}
use Rattle.pix_table.specs.declared.diffuse.ScanOrder.{ScanOrder}
use Rattle.pix_table.specs.declared.diffuse.diffused_color.ColorError.{ColorError}
use Rattle.pix_table.specs.declared.diffuse.diffused_color.NeighborErrors.{NeighborErrors}

-- the last colors of a row's length: so many of the row that begins with number `first`, each at its
-- place, and at the other places those of the pixels above
pub record AreLatest (scan : ScanOrder) (all : List (List ℕ)) (width first count : ℕ) (colors : List (List ℕ)) : Type 0 where
  pub row : (p : ℕ) → p < count → p < width → slice_index_or colors p [] ≡ slice_index_or all (first + p) []
  pub above : (p : ℕ) → count ≤ p → p < width → width ≤ first → slice_index_or colors p [] ≡ slice_index_or all (number_above scan width first p) []

-- in each channel, what was wanted at a pixel less what was found for it, and 255 more; 255 where
-- there is no such pixel
pub record IsColorError (there : Bool) (wanted found : List ℕ) (miss : ColorError) : Type 0 where
  pub red : miss.red + part there 1 found 0 ≡ 255 + part there 1 wanted 0
  pub green : miss.green + part there 1 found 1 ≡ 255 + part there 1 wanted 1
  pub blue : miss.blue + part there 1 found 2 ≡ 255 + part there 1 wanted 2
  pub alpha : miss.alpha + part there 1 found 3 ≡ 255 + part there 1 wanted 3

-- the error above the place after one
abbrev pub IsColorErrorAbove : ScanOrder → (wanted found : List (List ℕ)) → (width first place : ℕ) → ColorError → Type 0
IsColorErrorAbove scan wanted found width first place miss =
    IsColorError (nat_lt (place + 1) width && nat_le width first) (slice_index_or wanted (number_above scan width first (place + 1)) [])
    (slice_index_or found (number_above scan width first (place + 1)) []) miss

-- the errors before a place of a row, above that, and above the place
pub record AreNeighborErrors (scan : ScanOrder) (wanted found : List (List ℕ)) (width first place : ℕ) (near : NeighborErrors) : Type 0 where
  pub left : IsColorError (nat_lt 0 place) (slice_index_or wanted (first + place - 1) []) (slice_index_or found (first + place - 1) []) near.left
  pub left_above : IsColorError (nat_lt 0 place && nat_le width first) (slice_index_or wanted (number_above scan width first (place - 1)) [])
      (slice_index_or found (number_above scan width first (place - 1)) []) near.left_above
  pub above : IsColorError (nat_le width first) (slice_index_or wanted (number_above scan width first place) [])
      (slice_index_or found (number_above scan width first place) []) near.above

-- the first k pixels of a scan are diffused. The errors of neighbors are known within a row
pub record AreDone (color : (ℕ → ℕ) → List ℕ) (apart : List ℕ → List ℕ → ℕ) (scan : ScanOrder) (bound strength : ℕ) (entries : List (List ℕ)) (alpha transparent_index width : ℕ) (pixels : List (List ℕ)) (k : ℕ)
    (wanted found : List (List ℕ)) (near : NeighborErrors) (indices : List ℕ) : Type 0 where
  pub all_wanted : List (List ℕ)
  pub all_found : List (List ℕ)
  pub along : List ℕ
  pub diffused : IsDiffused color apart scan bound strength entries alpha transparent_index width pixels all_wanted all_found along
  pub many : length along ≡ k
  pub many_wanted : length all_wanted ≡ k
  pub many_found : length all_found ≡ k
  pub last_wanted : AreLatest scan all_wanted width (k - k % width) (k % width) wanted
  pub last_found : AreLatest scan all_found width (k - k % width) (k % width) found
  pub near_within : 0 < k % width → AreNeighborErrors scan all_wanted all_found width (k - k % width) (k % width) near
  pub each : (j : ℕ) → j < k → slice_index indices (in_picture scan width j) ≡ slice_index along j
