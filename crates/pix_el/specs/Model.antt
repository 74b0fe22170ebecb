-- The color models: the order of the channels of each. A new model is a line in each of the tables.
use Rattle.std.specs.Prelude.{ℕ, ◌+◌}
use Rattle.std.specs.declared.ops.Range.{Range}

-- the models, by their names
pub data Model : Type 0 where
  Rgb : Model
  Gray : Model
  Matte : Model
  Hsv : Model
  Hsl : Model
  Hwb : Model
  Bgr : Model
  Cmy : Model
  YCbCr : Model
  Xyz : Model

-- a model: the channel numbers of its hue, of its other colors and of its alpha, and its `KIND`
pub record ModelRow : Type 0 where
  pub hues : Range ℕ
  pub colors : Range ℕ
  pub alpha : ℕ
  pub kind : ℕ

-- a number of hues, then a number of other colors, then the alpha
abbrev pub in_order : ℕ → ℕ → ℕ → ModelRow
in_order hues colors kind = record {
  hues = record { start = 0; end = hues };
  colors = record { start = hues; end = hues + colors };
  alpha = hues + colors;
  kind = kind;
}

-- how many hues a model has, how many other colors, and its number
abbrev pub counts : Model → ℕ × ℕ × ℕ
counts Rgb = (0, 3, 0)
counts Gray = (0, 1, 1)
counts Matte = (0, 0, 2)
counts Hsv = (1, 2, 3)
counts Hsl = (1, 2, 4)
counts Hwb = (1, 2, 5)
counts Bgr = (0, 3, 6)
counts Cmy = (0, 3, 7)
counts YCbCr = (0, 3, 8)
counts Xyz = (0, 3, 9)

-- the row of a model
abbrev pub row : Model → ModelRow
row model = in_order (counts model).0 (counts model).1 (counts model).2
