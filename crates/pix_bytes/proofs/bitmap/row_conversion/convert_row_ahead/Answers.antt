use Rattle.pix_bytes.specs.declared.bitmap.format.Depth.TheVariants.{Srgb8, Linear8}
use Rattle.pix_bytes.proofs.RowConversions.{crossed_as}
use Rattle.pix_bytes.proofs.bitmap.row_conversion.convert_row_ahead.Goals as goal

pub returns-in-Srgb8-Linear8-clause-each : goal.returns-in-Srgb8-Linear8-clause-each
returns-in-Srgb8-Linear8-clause-each c =
    crossed_as c.args.from c.args.to Srgb8 Linear8 c.convert_several.result c.args.src.now _ c.in-Srgb8-Linear8.is-0 c.in-Srgb8-Linear8.is-1 c.convert_several.ensures.each

pub returns-in-Linear8-Srgb8-clause-each : goal.returns-in-Linear8-Srgb8-clause-each
returns-in-Linear8-Srgb8-clause-each c =
    crossed_as c.args.from c.args.to Linear8 Srgb8 c.convert_several-in-Linear8-Srgb8.result c.args.src.now _ c.in-Linear8-Srgb8.is-0 c.in-Linear8-Srgb8.is-1 c.convert_several-in-Linear8-Srgb8.ensures.each
