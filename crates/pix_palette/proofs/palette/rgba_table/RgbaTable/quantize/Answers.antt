-- Of `RgbaTable::quantize`: the table is that of the converted pixels.
use Rattle.std.specs.Prelude.{IfOk, MatchOption}
use Rattle.std.proofs.Common.{◌≡◌, ◌<◌, ◌⊎◌, ◌∙◌, ap, map, subst}
use Rattle.pix_table.specs.quantization.SeenTables.{IsQuantizedRgba}
use Rattle.pix_table.specs.SrgbColor.{srgba_numbers}
use Rattle.pix_palette.specs.RgbaTable.{colors_of_table}
use Rattle.pix_palette.proofs.palette.rgba_table.RgbaTable.quantize.Goals as goal

pub returns-clause-made : goal.returns-clause-made
returns-clause-made g c =
    subst
    (λ pixels. IfOk c.quantized_rgba_table.result (λ answer. MatchOption answer ((c.args.limit ≡ 0) ⊎ (256 < c.args.limit))
    (λ table. IsQuantizedRgba c.args.rounds c.args.limit pixels (map srgba_numbers (colors_of_table table)))))
    (ap (map srgba_numbers) c.pixels.ensures.pixels ∙ c.in_ok-shades.ensures.shades) c.quantized_rgba_table.ensures.made
