use Rattle.pix_chan.specs.Modes.{Linear, Srgb}
use Rattle.pix_el.specs.Conversion.{converted}
use Rattle.pix_bytes.specs.Rows.{format_at}
use Rattle.pix_bytes.proofs.RecoloredRows.{is_decoded, are_decoded}
use Rattle.pix_bytes.proofs.bitmap.recoloring.IntoLinearPixelConversionCh8Ch8.convert_several.Goals as goal

pub returns-clause-each : goal.returns-clause-each
returns-clause-each c =
    c.map_ahead.ensures.each (converted (format_at 255 c.args.from) Srgb (format_at 255 c.args.to) Linear) (is_decoded c.args.from c.args.to)

pub returns-then-is-clause-each : goal.returns-then-is-clause-each
returns-then-is-clause-each c =
    c.map_grays_ahead.ensures.each (converted (format_at 255 c.args.from) Srgb (format_at 255 c.args.to) Linear) (are_decoded c.args.from c.args.to)
