use Rattle.std.proofs.Common.{◌*◌, map, arith, sym, ap, ◌∙◌}
use Rattle.pix_scale.specs.Axis.{channel_at}
use Rattle.pix_scale.specs.Signed.{taps_of_filter}
use Rattle.pix_scale.proofs.SignedRows.{same_cut}
use Rattle.pix_scale.proofs.SignedTables.{row_is_by}
use Rattle.pix_scale.proofs.signed_draw.draw_tables.Goals as goal

pub signed_table-across-requires-clause-inside : goal.signed_table-across-requires-clause-inside
signed_table-across-requires-clause-inside g c = omega (arith, c.requires.left, c.requires.columns)

pub signed_table-across-requires-clause-plus : goal.signed_table-across-requires-clause-plus
signed_table-across-requires-clause-plus g c = c.requires.plus ∙ ap (λ z. z * taps_of_filter c.args.filter c.args.source.width c.args.n c.args.m) (sym c.requires.columns)

pub signed_table-across-requires-clause-minus : goal.signed_table-across-requires-clause-minus
signed_table-across-requires-clause-minus g c = c.requires.minus ∙ ap (λ z. z * taps_of_filter c.args.filter c.args.source.width c.args.n c.args.m) (sym c.requires.columns)

pub signed_table-down-requires-clause-inside : goal.signed_table-down-requires-clause-inside
signed_table-down-requires-clause-inside g c = omega (arith, c.requires.top, c.requires.lines)

pub signed_table-down-requires-clause-plus : goal.signed_table-down-requires-clause-plus
signed_table-down-requires-clause-plus g c = c.requires.lines_plus ∙ ap (λ z. z * taps_of_filter c.args.filter c.args.source.height c.args.rows_n c.args.rows_m) (sym c.requires.lines)

pub signed_table-down-requires-clause-minus : goal.signed_table-down-requires-clause-minus
signed_table-down-requires-clause-minus g c = c.requires.lines_minus ∙ ap (λ z. z * taps_of_filter c.args.filter c.args.source.height c.args.rows_n c.args.rows_m) (sym c.requires.lines)

pub cut_rows-requires-clause-across : goal.cut_rows-requires-clause-across
cut_rows-requires-clause-across g c = c.signed_table-across.ensures.sound

pub cut_rows-requires-clause-down : goal.cut_rows-requires-clause-down
cut_rows-requires-clause-down g c = c.signed_table-down.ensures.sound

pub cut_rows-requires-clause-width : goal.cut_rows-requires-clause-width
cut_rows-requires-clause-width g c = c.signed_table-across.auto.firsts ∙ c.requires.columns

pub cut_rows-requires-clause-height : goal.cut_rows-requires-clause-height
cut_rows-requires-clause-height g c = c.signed_table-down.auto.firsts ∙ c.requires.lines

pub returns : goal.returns
returns g c = record {
  pixels = λ x y ch lx ly lc.
      c.cut_rows.ensures.pixels x y ch lx ly lc
      ∙ same_cut g.P.Pixel.layout _ _ _ _ (channel_at (map g.D.Stored.reads c.args.from.now) c.args.source.stride) ch
      (row_is_by c.args.filter c.args.source.width c.args.n c.args.m c.args.view.left c.signed_table-across.result c.signed_table-across.new.firsts c.signed_table-across.new.plus c.signed_table-across.new.minus x
      (c.signed_table-across.ensures.rows x (omega (arith, c.requires.columns, lx))))
      (row_is_by c.args.filter c.args.source.height c.args.rows_n c.args.rows_m c.args.view.top c.signed_table-down.result c.signed_table-down.new.firsts c.signed_table-down.new.plus c.signed_table-down.new.minus y
      (c.signed_table-down.ensures.rows y (omega (arith, c.requires.lines, ly))));
  stays = c.cut_rows.ensures.stays;
}
