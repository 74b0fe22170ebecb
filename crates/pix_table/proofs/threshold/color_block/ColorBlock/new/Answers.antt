-- Of `ColorBlock::new`: that the invariant of its loop over `i` holds after each turn.
use Rattle.std.proofs.Common.{◌≡◌, ◌+◌, ◌∷◌, [], map, get_or, sym, ap, ◌∙◌, length-set, arith}
use Rattle.std.proofs.lemmas.List.{get_or-map}
use Rattle.pix_table.specs.threshold.ColorBlocks.{channels_at}
use Rattle.pix_table.specs.matching.Nearest.{numbers}
use Rattle.pix_table.proofs.lemmas.threshold.ColorBlockLemmas.{color_written}
use Rattle.pix_table.proofs.threshold.color_block.ColorBlock.new.Goals as goal

pub loop-i-preserved : goal.loop-i-preserved
loop-i-preserved g c =
    let entries = map g.C.TableColor.channels c.args.colors.now in
    let i = c.loop-i.i in
    let entry : numbers c.color-color.result ≡ get_or entries (c.args.start + i) [] =
    c.color-color.ensures ∙ ap g.C.TableColor.channels c.index-colors-start.is ∙ sym (get_or-map g.C.TableColor.channels c.args.colors.now (c.args.start + i) c.index-colors-start.result [] (omega arith)) in
    let new : c.color-color.result.red ∷ c.color-color.result.green ∷ c.color-color.result.blue ∷ [] ≡ channels_at entries (c.args.start + i) =
    ap (λ p. get_or p 0 0 ∷ get_or p 1 0 ∷ get_or p 2 0 ∷ []) entry in
    record {
      red = length-set _ _ _ ∙ c.loop-i.invariant.red;
      green = length-set _ _ _ ∙ c.loop-i.invariant.green;
      blue = length-set _ _ _ ∙ c.loop-i.invariant.blue;
      each = color_written (λ j. channels_at entries (c.args.start + j)) c.loop-i.block.red c.loop-i.block.green c.loop-i.block.blue i _ _ _ (omega arith) (omega arith) (omega arith)
          c.loop-i.invariant.each new;
    }
