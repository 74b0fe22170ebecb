-- Of `shades`: the pixels, converted one after the other.
use Rattle.std.proofs.Common.{◌∙◌}
use Rattle.std.proofs.lemmas.Simd.{map-map}
use Rattle.pix_palette.proofs.palette.quantization.shades.Goals as goal

pub returns-clause-shades : goal.returns-clause-shades
returns-clause-shades g c = c.in_ok-copy.ensures.pixels ∙ map-map _ _ c.args.raster.now.pixels
