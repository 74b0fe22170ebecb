-- Of `copy_colors`: its clause `colors`, and that the invariant of its loop over `i` holds after
-- each turn.
use Rattle.std.proofs.Common.{◌≡◌, length, map, take, length-set, sym, ap, ◌∙◌, arith}
use Rattle.std.proofs.lemmas.List.{take_all}
use Rattle.pix_table.proofs.Writes.{copy_more}
use Rattle.pix_palette.specs.Palette.{numbers}
use Rattle.pix_palette.proofs.palette.quantization.copy_colors.Goals as goal

pub loop-i-preserved : goal.loop-i-preserved
loop-i-preserved g c = record {
  copied = copy_more numbers g.C.TableColor.channels c.loop-i.slots c.args.colors.now c.loop-i.i _ c.index-colors-i.result (omega arith) (omega arith)
      c.index-colors-i.is (c.srgb.ensures ∙ c.color.ensures) c.loop-i.invariant.copied;
  room = length-set _ _ _ ∙ c.loop-i.invariant.room;
}

pub returns-clause-colors : goal.returns-clause-colors
returns-clause-colors g c =
    let end : c.loop-i.i ≡ length c.args.colors.now = omega arith in
    ap (λ n. map numbers (take n c.loop-i.slots)) (sym end) ∙ c.loop-i.invariant.copied
    ∙ ap (map g.C.TableColor.channels) (take_all c.loop-i.i c.args.colors.now (omega arith))
