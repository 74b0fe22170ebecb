-- Of `copy_rgba`: its clause, and that the invariant of its loop over `i` holds after each turn.
use Rattle.std.proofs.Common.{◌≡◌, length, map, get_or, length-set, sym, ap, ◌∙◌, arith}
use Rattle.std.proofs.lemmas.List.{take_all, get_or_default}
use Rattle.pix_table.specs.SeenPixels.{rgba_numbers}
use Rattle.pix_table.specs.SrgbColor.{srgba_numbers}
use Rattle.pix_table.specs.declared.rgba.color.RgbaColor.{RgbaColor}
use Rattle.pix_table.proofs.Writes.{copy_more}
use Rattle.pix_palette.proofs.palette.rgba_table.copy_rgba.Goals as goal

pub loop-i-preserved : goal.loop-i-preserved
loop-i-preserved c =
    let none : RgbaColor = record { red = 0; green = 0; blue = 0; alpha = 0 } in
    let clr : RgbaColor = get_or c.args.colors.now c.loop-i.i none in
    record {
      copied = copy_more srgba_numbers rgba_numbers c.loop-i.slots c.args.colors.now c.loop-i.i c.srgba.result clr (omega arith) (omega arith)
          (get_or_default c.args.colors.now c.loop-i.i none clr (omega arith))
          (c.srgba.ensures ∙ ap rgba_numbers (get_or_default c.args.colors.now c.loop-i.i _ none (omega arith))) c.loop-i.invariant.copied;
      room = length-set _ _ _ ∙ c.loop-i.invariant.room;
    }

pub returns : goal.returns
returns c =
    sym (ap (map srgba_numbers) (take_all c.loop-i.i c.loop-i.slots (omega (arith, c.loop-i.invariant.room)))) ∙ c.loop-i.invariant.copied
    ∙ ap (map rgba_numbers) (take_all c.loop-i.i c.args.colors.now (omega arith))
