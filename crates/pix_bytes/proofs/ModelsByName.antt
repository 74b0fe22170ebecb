-- The color models by name: how many channels each has.
use Rattle.std.proofs.Common.{◌≡◌, ℕ, ◌≤◌, ◌+◌, List, length, refl, arith}
use Rattle.pix_el.specs.Model.{Model, Rgb, Gray, Matte, Hsv, Hsl, Hwb, Bgr, Cmy, YCbCr, Xyz, row}
use Rattle.pix_el.specs.Color.{of_rgba}
use Rattle.pix_bytes.specs.BitmapFormats.{out_of_rgb}

-- a color has a channel for each color of the model, and the alpha
pub channels_of_rgba : (model : Model) (max : ℕ) (rgba : List ℕ) → length (of_rgba (out_of_rgb model) max rgba) ≡ (row model).alpha + 1
channels_of_rgba Rgb max rgba = refl
channels_of_rgba Gray max rgba = refl
channels_of_rgba Matte max rgba = refl
channels_of_rgba Hsv max rgba = refl
channels_of_rgba Hsl max rgba = refl
channels_of_rgba Hwb max rgba = refl
channels_of_rgba Bgr max rgba = refl
channels_of_rgba Cmy max rgba = refl
channels_of_rgba YCbCr max rgba = refl
channels_of_rgba Xyz max rgba = refl

-- at most four
pub at_most_four : (model : Model) → (row model).alpha + 1 ≤ 4
at_most_four Rgb = omega arith
at_most_four Gray = omega arith
at_most_four Matte = omega arith
at_most_four Hsv = omega arith
at_most_four Hsl = omega arith
at_most_four Hwb = omega arith
at_most_four Bgr = omega arith
at_most_four Cmy = omega arith
at_most_four YCbCr = omega arith
at_most_four Xyz = omega arith
