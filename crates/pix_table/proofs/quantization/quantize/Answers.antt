-- Of `quantize`: that no rounds leave the table of the cut.
use Rattle.std.proofs.Common.{map, take, length}
use Rattle.pix_table.specs.quantization.Quantization.{shown}
use Rattle.pix_table.specs.matching.Nearest.{numbers}
use Rattle.pix_table.proofs.lemmas.quantization.TableRounds.{of_some, unrefined}
use Rattle.pix_table.proofs.quantization.quantize.Goals as goal

pub returns-clause-table : goal.returns-clause-table
returns-clause-table g c =
    of_some _ _ _ (λ n h. (
      h.0,
      h.1,
      h.2,
      h.3,
      unrefined (length c.args.entries.now) (shown c.args.alpha (map g.P.TablePixel.values c.args.pixels.now)) (map numbers (take n c.quantize_refined.new.entries)) h.4,
    ))
    c.quantize_refined.result c.quantize_refined.ensures.table
