-- Of `ColorTable::quantize`: that no rounds leave the table.
use Rattle.std.proofs.Common.{map, sym}
use Rattle.std.proofs.lemmas.Result.{IfOk-weaker}
use Rattle.pix_table.specs.quantization.Quantization.{shown}
use Rattle.pix_table.specs.SrgbColor.{srgba_numbers}
use Rattle.pix_palette.proofs.QuantizedTables.{unrefined_made}
use Rattle.pix_palette.proofs.palette.slots.ColorTable.quantize.Goals as goal

pub returns-clause-made : goal.returns-clause-made
returns-clause-made g c =
    rw (sym c.in_ok-shades.ensures.shades, sym c.pixels.ensures.pixels)
    (IfOk-weaker c.quantized_table.result _ _ (unrefined_made _ c.args.limit (shown c.args.alpha (map srgba_numbers c.pixels.result.now))) c.quantized_table.ensures.made)
