use Rattle.pix_bytes.specs.declared.bitmap.format.Depth.TheVariants.{Srgb8, Linear8, Linear16}
use Rattle.pix_bytes.proofs.RowConversions.{crossed_as}
use Rattle.pix_bytes.proofs.bitmap.row_conversion.convert_srgb8.Goals as goal

pub returns-in-Srgb8 : goal.returns-in-Srgb8
returns-in-Srgb8 c = crossed_as c.args.from c.args.to Srgb8 Srgb8 c.args.count c.args.src.now _ c.requires.depth c.in-Srgb8.is c.convert_row_pixels.ensures

pub returns-in-Linear8 : goal.returns-in-Linear8
returns-in-Linear8 c = crossed_as c.args.from c.args.to Srgb8 Linear8 c.args.count c.args.src.now _ c.requires.depth c.in-Linear8.is c.convert_painted.ensures

pub returns-in-Linear16 : goal.returns-in-Linear16
returns-in-Linear16 c = crossed_as c.args.from c.args.to Srgb8 Linear16 c.args.count c.args.src.now _ c.requires.depth c.in-Linear16.is c.convert_painted-in-Linear16.ensures
