-- Error diffusion by Floyd and Steinberg, in whole numbers, with errors that are bounded.
use Rattle.std.specs.Prelude.{◌⊎◌, ◌≡◌, ℕ, ◌+◌, ◌-◌, ◌*◌, ◌/◌, ◌%◌, ◌<◌, ◌≤◌, max, min, List, [], ◌∷◌, ◌++◌, Bool, false, ◌&&◌, nat_lt, nat_le, length, slice_index, slice_index_or, if◌then◌else◌}
use Rattle.pix_table.specs.matching.Nearest.{IsNearestBy, distance, alpha_of}
use Rattle.pix_table.specs.diffuse.ErrorBound.{AreNear, IsErrorBound}
use Rattle.pix_table.specs.declared.diffuse.ScanOrder.{ScanOrder}
use Rattle.pix_table.specs.declared.diffuse.ScanOrder.TheVariants.{LeftToRight, Serpentine}

-- pixels are scanned row by row, from above. Pixel k of the scan is in a row from right to left: in
-- every second row, where the order is serpentine
abbrev pub is_back : ScanOrder → (width k : ℕ) → Bool
is_back LeftToRight width k = false
is_back Serpentine width k = nat_lt 0 (k / width % 2)

-- where pixel k of the scan is in the picture
abbrev pub in_picture : ScanOrder → (width k : ℕ) → ℕ
in_picture scan width k = if is_back scan width k then k - k % width + (width - (k % width + 1)) else k

-- the number in the scan of the pixel above a place of the row that begins with number `first`
abbrev pub number_above : ScanOrder → (width first place : ℕ) → ℕ
number_above LeftToRight width first place = first + place - width
number_above Serpentine width first place = first - (place + 1)

-- sixteenths of a color's number in a channel, where there is such a color
abbrev pub part : Bool → ℕ → List ℕ → ℕ → ℕ
part there sixteenths color channel = if there then sixteenths * slice_index color channel else 0

-- a pixel hands 3 sixteenths on to the pixel below that is behind it in the direction of its row, and
-- 1 to the one ahead. Where the order is serpentine, the row above has the other direction: what a
-- pixel gets from the one above the pixel before it, and from the one above the next
abbrev pub share_before : ScanOrder → ℕ
share_before LeftToRight = 1
share_before Serpentine = 3

abbrev pub share_next : ScanOrder → ℕ
share_next LeftToRight = 3
share_next Serpentine = 1

-- the share in the colors before it of the pixel at a place of the row that begins with number `first`:
-- 7 sixteenths of the one before it in the row, 5 of the one above, and 1 and 3 of the two beside that
abbrev pub handed : ScanOrder → (width : ℕ) → List (List ℕ) → (first place : ℕ) → ℕ → ℕ
handed scan width colors first place channel =
    part (nat_lt 0 place) 7 (slice_index_or colors (first + place - 1) []) channel
    + part (nat_lt 0 place && nat_le width first) (share_before scan) (slice_index_or colors (number_above scan width first (place - 1)) []) channel
    + part (nat_le width first) 5 (slice_index_or colors (number_above scan width first place) []) channel
    + part (nat_lt (place + 1) width && nat_le width first) (share_next scan) (slice_index_or colors (number_above scan width first (place + 1)) []) channel

-- a number plus so many sixteenths of its share of the colors that were wanted less the colors that
-- were found, rounded to the nearest, ties up, and kept within 0 to 255
abbrev pub corrected : (strength number wanted found : ℕ) → ℕ
corrected strength number wanted found = min 255 ((256 * number + 128 + strength * wanted - strength * found) / 256)

-- what counts as found in a channel: the entry's number, brought within a bound of what was wanted
abbrev pub held : (bound wanted found : ℕ) → ℕ
held bound wanted found = min (wanted + bound) (max (wanted - bound) found)

-- what counts as found where a color was wanted: the entry's color, held in each channel
abbrev pub held_to : (bound : ℕ) (wanted found : List ℕ) → List ℕ
held_to bound [] found = []
held_to bound (w ∷ wanted) [] = held bound w 0 ∷ held_to bound wanted []
held_to bound (w ∷ wanted) (f ∷ found) = held bound w f ∷ held_to bound wanted found

-- the color of a number for each channel
abbrev pub rgb_of : (ℕ → ℕ) → List ℕ
rgb_of number = number 0 ∷ number 1 ∷ number 2 ∷ []

-- the color that is wanted at a place: the pixel's own, plus its share of the errors before it
abbrev pub wanted_at : ((ℕ → ℕ) → List ℕ) → ScanOrder → (strength width : ℕ) → (wanted found : List (List ℕ)) → (first place : ℕ) → List ℕ → List ℕ
wanted_at color scan strength width wanted found first place pixel =
    color (λ channel. corrected strength (slice_index pixel channel) (handed scan width wanted first place channel) (handed scan width found first place channel))

-- the first pixels of a scan, one after the other: what is wanted at each, what is found for it, and
-- its index. A pixel whose alpha is below one has the transparent index, and hands on no error: both
-- colors are 0. Any other has the index of the entry that is nearest to what is wanted, and finds
-- that entry, held to a bound.
pub data IsDiffused (color : (ℕ → ℕ) → List ℕ) (apart : List ℕ → List ℕ → ℕ) (scan : ScanOrder) (bound strength : ℕ) (entries : List (List ℕ)) (alpha transparent_index width : ℕ) (pixels : List (List ℕ)) : List (List ℕ) → List (List ℕ) → List ℕ → Type 0 where
  none : IsDiffused color apart scan bound strength entries alpha transparent_index width pixels [] [] []
  clear : (wanted found : List (List ℕ)) (indices : List ℕ) → IsDiffused color apart scan bound strength entries alpha transparent_index width pixels wanted found indices
      → alpha_of (slice_index_or pixels (in_picture scan width (length indices)) []) < alpha
      → IsDiffused color apart scan bound strength entries alpha transparent_index width pixels
      (wanted ++ color (λ channel. 0) ∷ []) (found ++ color (λ channel. 0) ∷ []) (indices ++ transparent_index ∷ [])
  shown : (wanted found : List (List ℕ)) (indices : List ℕ) (w : List ℕ) (i : ℕ) → IsDiffused color apart scan bound strength entries alpha transparent_index width pixels wanted found indices
      → alpha ≤ alpha_of (slice_index_or pixels (in_picture scan width (length indices)) [])
      → w ≡ wanted_at color scan strength width wanted found (length indices - length indices % width) (length indices % width)
      (slice_index_or pixels (in_picture scan width (length indices)) [])
      → IsNearestBy apart entries w i
      → IsDiffused color apart scan bound strength entries alpha transparent_index width pixels (wanted ++ w ∷ []) (found ++ held_to bound w (slice_index_or entries i []) ∷ []) (indices ++ i ∷ [])

-- the indices of all pixels of rows of a width: those of a scan of them, with the bound of the entries
pub record IsDiffusedScan (color : (ℕ → ℕ) → List ℕ) (apart : List ℕ → List ℕ → ℕ) (scan : ScanOrder) (strength : ℕ) (entries : List (List ℕ)) (alpha transparent_index width : ℕ) (pixels : List (List ℕ)) (indices : List ℕ) : Type 0 where
  pub bound : ℕ
  pub is_bound : IsErrorBound entries bound
  pub wanted : List (List ℕ)
  pub found : List (List ℕ)
  pub along : List ℕ
  pub diffused : IsDiffused color apart scan bound strength entries alpha transparent_index width pixels wanted found along
  pub whole : length along ≡ length pixels
  pub many : length indices ≡ length pixels
  pub each : (k : ℕ) → k < length pixels → slice_index indices (in_picture scan width k) ≡ slice_index along k

-- the indices of all pixels by error diffusion, in an order and with so many sixteenths of the errors
abbrev pub AreDiffusedBy : ScanOrder → (strength : ℕ) (entries : List (List ℕ)) (alpha transparent_index width : ℕ) (pixels : List (List ℕ)) (indices : List ℕ) → Type 0
AreDiffusedBy scan strength entries alpha transparent_index width pixels indices = IsDiffusedScan rgb_of distance scan strength entries alpha transparent_index width pixels indices

-- the same from left to right in each row, with the whole errors
abbrev pub AreDiffused : (entries : List (List ℕ)) (alpha transparent_index width : ℕ) (pixels : List (List ℕ)) (indices : List ℕ) → Type 0
AreDiffused entries alpha transparent_index width pixels indices = AreDiffusedBy LeftToRight 16 entries alpha transparent_index width pixels indices

-- the entry i is the nearest to a color that differs from the pixel by no more than the bound of the
-- entries in each channel
pub record IsNearestAround (apart : List ℕ → List ℕ → ℕ) (channels : ℕ) (entries : List (List ℕ)) (pixel : List ℕ) (i : ℕ) : Type 0 where
  pub bound : ℕ
  pub is_bound : IsErrorBound entries bound
  pub looked_up : List ℕ
  pub nearest : IsNearestBy apart entries looked_up i
  pub near : AreNear bound channels pixel looked_up

-- the index of a pixel: the transparent one below an alpha, and else that of an entry nearest to a color
-- around it
abbrev pub IsShownAround : (apart : List ℕ → List ℕ → ℕ) (channels : ℕ) (entries : List (List ℕ)) (alpha transparent_index : ℕ) (pixel : List ℕ) (i : ℕ) → Type 0
IsShownAround apart channels entries alpha transparent_index pixel i =
    ((alpha_of pixel < alpha) × (i ≡ transparent_index)) ⊎ ((alpha ≤ alpha_of pixel) × IsNearestAround apart channels entries pixel i)

-- each pixel has its index at the same place
abbrev pub AreShownAroundBy : (apart : List ℕ → List ℕ → ℕ) (channels : ℕ) (entries : List (List ℕ)) (alpha transparent_index : ℕ) (pixels : List (List ℕ)) (indices : List ℕ) → Type 0
AreShownAroundBy apart channels entries alpha transparent_index pixels indices =
    (k : ℕ) → k < length pixels → IsShownAround apart channels entries alpha transparent_index (slice_index_or pixels k []) (slice_index indices k)

-- the same of colors of red, green and blue
abbrev pub AreShownAround : (entries : List (List ℕ)) (alpha transparent_index : ℕ) (pixels : List (List ℕ)) (indices : List ℕ) → Type 0
AreShownAround entries alpha transparent_index pixels indices = AreShownAroundBy distance 3 entries alpha transparent_index pixels indices
