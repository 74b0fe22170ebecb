-- The first line of the table of formats.
use Rattle.std.specs.Prelude.{false}
use Rattle.pix_bytes.specs.declared.bitmap.format.Line.{Line}
use Rattle.pix_bytes.specs.declared.bitmap.format.Depth.TheVariants.{Srgb8}
use Rattle.pix_bytes.specs.declared.bitmap.model.ModelName.TheVariants.{Rgb}

-- SRgba8
abbrev pub first_line : Line
first_line = record { 0 = Rgb; 1 = 4; 2 = false; 3 = Srgb8; 4 = 0 }
