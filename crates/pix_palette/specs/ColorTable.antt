-- Tables of colors with a constant threshold.
use Rattle.std.specs.Prelude.{◌≡◌, ℕ, ◌<◌, List, [], ◌∷◌, length, map, take, slice_index_or, slice_index, Option, Some, None, IfSome}
use Rattle.pix_table.specs.matching.Nearest.{IsNearest}
use Rattle.pix_table.specs.packing.LookUp.{AreLookedUp}
use Rattle.pix_table.specs.quantization.Quantization.{IsQuantized}
use Rattle.pix_table.specs.quantization.Refine.{IsQuantizedRefined}
use Rattle.pix_table.specs.threshold.Setting.{Always, IsSet}
use Rattle.pix_table.specs.threshold.Indexing.{AreIndexed}
use Rattle.pix_table.specs.threshold.PaletteMatch.{color_difference}
use Rattle.pix_raster.specs.Image.{Image}
use Rattle.pix_palette.specs.Palette.{Color, numbers}
use Rattle.pix_palette.specs.Indexing.{AllRepresented, AllEqual, AreGray, values}
use Rattle.pix_palette.specs.declared.palette.slots.ColorTable.{ColorTable}

-- the colors of a table, in order: those that are set of its slots
abbrev pub entries_of : ColorTable → List Color
entries_of table = take table.len table.slots.items

-- how many colors a table may have
abbrev pub limit_of : ColorTable → ℕ
limit_of table = length table.slots.items

-- the colors of a table after an indexing: all that were set, or those before it, where the answer
-- is none
abbrev pub entries_after : Option (List ℕ) → (old set : List Color) → List Color
entries_after (Some indices) old set = set
entries_after None old set = old

-- indexing pixels in a table: they are set, one after the other, and the answer is their indices;
-- or none, and the table is as it was
pub record IsIndexedIn (threshold : List ℕ) (limit : ℕ) (old : List Color) (pixels : List (List ℕ)) (answer : Option (List ℕ)) (new : List Color) : Type 0 where
  pub set : List Color
  pub indices : AreIndexed numbers (IsSet numbers (Always threshold) limit) 255 old pixels answer set
  pub entries : new ≡ entries_after answer old set
  -- the entry at each index is the pixel, or within the threshold
  pub represented : IfSome answer (λ indices. AllRepresented (Always threshold) (map numbers new) pixels indices)
  -- with a threshold of 0 it is the pixel
  pub equal : threshold ≡ 0 ∷ 0 ∷ 0 ∷ [] → IfSome answer (λ indices. AllEqual (map numbers new) pixels indices)

-- the image of the indices of the entries that are nearest to pixels; `read` reads a pixel of
-- indices
pub record IsMapped {P : Type 0} (read : P → List ℕ) (entries : List (List ℕ)) (width height : ℕ) (pixels : List (List ℕ)) (image : Image P) : Type 0 where
  pub wide : image.width ≡ width
  pub high : image.height ≡ height
  pub gray : AreGray read image.pixels
  pub nearest : (k : ℕ) → k < length pixels → IsNearest entries (slice_index_or pixels k []) (slice_index (values read image.pixels) k)

-- the image of the entries of indices
pub record IsLookedUp (entries : List Color) (width height : ℕ) (indices : List ℕ) (image : Image Color) : Type 0 where
  pub wide : image.width ≡ width
  pub high : image.height ≡ height
  pub colors : AreLookedUp entries indices image.pixels
  -- where the pixels of a picture are the entries of their indices, it is the picture: it differs
  -- in no channel
  pub back : (pixels : List (List ℕ)) → AllEqual (map numbers entries) pixels indices → length pixels ≡ length indices
      → (k : ℕ) → k < length pixels → color_difference (slice_index_or (map numbers image.pixels) k []) (slice_index_or pixels k []) ≡ 0 ∷ 0 ∷ 0 ∷ []

-- an image of a size whose pixels are indices
pub record IsIndexImage {P : Type 0} (read : P → List ℕ) (width height : ℕ) (image : Image P) : Type 0 where
  pub wide : image.width ≡ width
  pub high : image.height ≡ height
  pub gray : AreGray read image.pixels

-- a table with the threshold 0 that is made from pixels, with at most a number of colors
pub record IsMadeOf (limit : ℕ) (pixels : List (List ℕ)) (table : ColorTable) : Type 0 where
  pub room : limit_of table ≡ limit
  pub exact : numbers table.threshold ≡ 0 ∷ 0 ∷ 0 ∷ []
  pub colors : IsQuantized limit pixels (map numbers (entries_of table))

-- the same, refined by so many rounds
pub record IsRefinedMadeOf (rounds limit : ℕ) (pixels : List (List ℕ)) (table : ColorTable) : Type 0 where
  pub room : limit_of table ≡ limit
  pub exact : numbers table.threshold ≡ 0 ∷ 0 ∷ 0 ∷ []
  pub colors : IsQuantizedRefined rounds limit pixels (map numbers (entries_of table))
