-- Indexing an image: each pixel's color is set in a palette, and the answer is its index.
use Rattle.std.specs.Prelude.{◌≡◌, ℕ, ◌<◌, ◌≤◌, true, List, [], ◌∷◌, map, length, slice_index_or, Option, None, IfSome}
use Rattle.std.specs.Option.{option_map}
use Rattle.pix_chan.specs.Modes.{GammaMode, Srgb, Straight}
use Rattle.pix_el.specs.Model.{row, Rgb}
use Rattle.pix_el.specs.Color.{rgb_itself}
use Rattle.pix_el.specs.Conversion.{Format, converted}
use Rattle.pix_table.specs.threshold.PaletteMatch.{difference_to}
use Rattle.pix_table.specs.threshold.Setting.{Fits, IsSet}
use Rattle.pix_table.specs.threshold.Indexing.{AreIndexed}
use Rattle.pix_raster.specs.Image.{Image}
use Rattle.pix_palette.specs.Palette.{Color, numbers, Answers}

-- the format of a palette's colors without its gamma mode, which is sRGB
abbrev pub color_format : Format
color_format = record {
  layout = record { max = 255; count = 3; hues = (row Rgb).hues; alpha = (row Rgb).alpha };
  kind = (row Rgb).kind;
  colors = (row Rgb).colors;
  to_rgb = rgb_itself;
  of_rgb = rgb_itself;
  alpha_mode = Straight;
}

-- the numbers of each pixel, converted to a color; `read` reads a pixel of a format
abbrev pub colors_of : {P : Type 0} → Format → GammaMode → (P → List ℕ) → List P → List (List ℕ)
colors_of format gamma read pixels = map (λ p. converted format gamma color_format Srgb (read p)) pixels

-- the format of such colors with an alpha
abbrev pub shade_format : Format
shade_format = record color_format { layout = record { max = 255; count = 4; hues = (row Rgb).hues; alpha = (row Rgb).alpha } }

-- the numbers of each pixel, converted to a color with an alpha
abbrev pub shades_of : {P : Type 0} → Format → GammaMode → (P → List ℕ) → List P → List (List ℕ)
shades_of format gamma read pixels = map (λ p. converted format gamma shade_format Srgb (read p)) pixels

-- the gray value of each pixel, its first number; `read` reads a pixel
abbrev pub values : {P : Type 0} → (P → List ℕ) → List P → List ℕ
values read pixels = map (λ p. slice_index_or (read p) 0 0) pixels

-- each pixel has its gray value as its only number
pub record AreGray {P : Type 0} (read : P → List ℕ) (pixels : List P) : Type 0 where
  pub alone : map read pixels ≡ map (λ i. i ∷ []) (values read pixels)

-- an index has an entry, which is the color or within a threshold that may be answered for a number
-- of entries up to the final one
pub record Represents (answers : ℕ → List ℕ → Type 0) (entries : List (List ℕ)) (color : List ℕ) (i : ℕ) : Type 0 where
  pub stands : i < length entries
  pub count : ℕ
  pub asked : count ≤ length entries
  pub fits : Fits answers count (difference_to entries color i) true

-- the entry at each pixel's index represents the pixel
pub record AllRepresented (answers : ℕ → List ℕ → Type 0) (entries pixels : List (List ℕ)) (indices : List ℕ) : Type 0 where
  pub each : (k : ℕ) → k < length pixels → Represents answers entries (slice_index_or pixels k []) (slice_index_or indices k 0)

-- the entry at each pixel's index is the pixel: it differs in no channel
pub record AllEqual (entries pixels : List (List ℕ)) (indices : List ℕ) : Type 0 where
  pub each : (k : ℕ) → k < length pixels → difference_to entries (slice_index_or pixels k []) (slice_index_or indices k 0) ≡ 0 ∷ 0 ∷ 0 ∷ []

-- The outcome of indexing an image of that size whose pixels have these colors: the image of
-- indices, or none, and the colors of the palette before and afterwards. `function` is the
-- palette's threshold function, and `post` tells what it returns; `read` reads a pixel.
pub record IsIndexed {F P : Type 0} (post : F → ℕ → Color → Type 0) (function : Option F) (limit greatest : ℕ) (read : P → List ℕ)
    (width height : ℕ) (pixels : List (List ℕ)) (old : List Color) (answer : Option (Image P)) (new : List Color) : Type 0 where
  -- the colors are set, one after the other, and the gray values are their indices; there are none
  -- where one has no index up to the greatest
  pub indices : AreIndexed numbers (IsSet numbers (Answers post function) limit) greatest old pixels (option_map (λ image. values read image.pixels) answer) new
  pub gray : IfSome answer (λ image. AreGray read image.pixels)
  pub size : IfSome answer (λ image. (image.width ≡ width) × (image.height ≡ height))
  -- the entry at each index is the color, or within a threshold
  pub represented : IfSome answer (λ image. AllRepresented (Answers post function) (map numbers new) pixels (values read image.pixels))
  -- without a threshold function it is the color
  pub equal : function ≡ None → IfSome answer (λ image. AllEqual (map numbers new) pixels (values read image.pixels))
