use Rattle.pix_chan.specs.Modes.{Linear, Srgb}
use Rattle.pix_el.specs.Conversion.{converted}
use Rattle.pix_bytes.specs.Rows.{format_at}
use Rattle.pix_bytes.proofs.RecoloredRows.{is_encoded, are_encoded}
use Rattle.pix_bytes.proofs.bitmap.recoloring.OutOfLinearPixelConversionCh8Ch8.convert_several.Goals as goal

pub returns-clause-each : goal.returns-clause-each
returns-clause-each c =
    c.map_ahead.ensures.each (converted (format_at 255 c.args.from) Linear (format_at 255 c.args.to) Srgb) (is_encoded c.args.from c.args.to c.if-to.false)

pub returns-then-is-clause-each : goal.returns-then-is-clause-each
returns-then-is-clause-each c =
    c.map_grays_ahead.ensures.each (converted (format_at 255 c.args.from) Linear (format_at 255 c.args.to) Srgb) (are_encoded c.args.from c.args.to c.if-to.false)
