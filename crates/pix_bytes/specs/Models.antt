-- The color models that formats name at run time.
use Rattle.std.specs.Prelude.{ℕ, List, [], ◌∷◌}
use Rattle.pix_el.specs.Model as models
use Rattle.pix_el.specs.Model.{Model}
use Rattle.pix_el.specs.Pixel.{channel}
use Rattle.pix_bytes.specs.declared.bitmap.model.ModelName.{ModelName}
use Rattle.pix_bytes.specs.declared.bitmap.model.ModelName.TheVariants.{Rgb, Bgr, Cmy, Gray, Hsv, Hsl, Hwb, YCbCr, Xyz, Matte}

-- the model of a name
abbrev pub model_of : ModelName → Model
model_of Rgb = models.Rgb
model_of Bgr = models.Bgr
model_of Cmy = models.Cmy
model_of Gray = models.Gray
model_of Hsv = models.Hsv
model_of Hsl = models.Hsl
model_of Hwb = models.Hwb
model_of YCbCr = models.YCbCr
model_of Xyz = models.Xyz
model_of Matte = models.Matte

-- the first four channels; one that is missing is the maximum
abbrev pub four_of : ℕ → List ℕ → List ℕ
four_of max numbers = channel max numbers 0 ∷ channel max numbers 1 ∷ channel max numbers 2 ∷ channel max numbers 3 ∷ []
