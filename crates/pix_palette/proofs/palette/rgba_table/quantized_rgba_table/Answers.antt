-- Of `quantized_rgba_table`: that without pixels the table has no entry.
use Rattle.std.proofs.Common.{sym}
use Rattle.std.proofs.lemmas.Bool.{true≢false}
use Rattle.pix_table.specs.SeenPixels.{rgba_numbers}
use Rattle.pix_table.specs.SrgbColor.{srgba_numbers}
use Rattle.pix_palette.proofs.NoPoints.{none_written}
use Rattle.pix_palette.proofs.palette.rgba_table.quantized_rgba_table.Goals as goal

pub returns-in_err-colors-clause-no_room : goal.returns-in_err-colors-clause-no_room
returns-in_err-colors-clause-no_room c = λ none.
    absurd (true≢false (sym (c.in_err-colors.ensures.no_room (none_written srgba_numbers rgba_numbers c.args.rounds _ c.in-Some.len c.args.pixels.now
    c.quantize_rgba.new.entries none c.in-Some.ensures.table.3 c.in-Some.ensures.table.4))))
