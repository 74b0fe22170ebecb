-- Of `write_straight`: that each color of the table is a seen one, and that the entries are seen as
-- the table.
use Rattle.std.proofs.Common.{◌≡◌, ◌∙◌, ap, arith, length, map, sym, take, take_all}
use Rattle.pix_table.specs.SeenPixels.{rgba_numbers, seen, seen_numbers, straight}
use Rattle.pix_table.specs.declared.rgba.color.SeenColor.{SeenColor}
use Rattle.pix_table.proofs.lemmas.quantization.SeenMade.{seen_again}
use Rattle.pix_table.proofs.lemmas.quantization.SeenRounds.{seen_at}
use Rattle.pix_table.proofs.rgba.quantization.write_straight.Goals as goal

abbrev black : SeenColor
black = record { red = 0; green = 0; blue = 0; alpha = 0 }

pub straight-requires : goal.straight-requires
straight-requires c = seen_at c.args.table.now c.loop-i.i black c.loop-i-test.true c.requires.seen

pub returns-clause-shown : goal.returns-clause-shown
returns-clause-shown c =
    let end : c.loop-i.i ≡ length c.args.table.now = omega arith in
    ap (λ n. map seen (map rgba_numbers (take n c.loop-i.entries))) (sym end)
    ∙ ap (map seen) c.loop-i.invariant.written
    ∙ ap (λ l. map seen (map straight (map seen_numbers l))) (take_all c.loop-i.i c.args.table.now (omega arith))
    ∙ seen_again (map seen_numbers c.args.table.now) c.requires.seen
