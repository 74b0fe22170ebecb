-- Of `color_ends`: that those of one block more are there after each turn, and in the end all.
use Rattle.std.proofs.Common.{get_or, length-set, arith, sym, subst, ◌∙◌}
use Rattle.pix_table.specs.threshold.ColorBlocks.{Lies, channels_in}
use Rattle.pix_table.specs.matching.Lanes.{no_block}
use Rattle.pix_table.specs.matching.Nearest.{numbers}
use Rattle.pix_table.specs.declared.color.Color.{Color}
use Rattle.pix_table.proofs.lemmas.matching.NearBlocks.{block_color, ends_more}
use Rattle.pix_table.proofs.rgba.near_blocks.color_ends.Goals as goal

abbrev clear : Color
clear = record { red = 0; green = 0; blue = 0 }

pub loop-j-preserved : goal.loop-j-preserved
loop-j-preserved c =
    let j = c.loop-j.j in
    let h = c.loop-j.invariant in
    record {
      low = length-set _ _ _ ∙ h.low;
      high = length-set _ _ _ ∙ h.high;
      ends = ends_more c.args.blocks.now c.loop-j.least c.loop-j.greatest j c.ends.result.0 c.ends.result.1 (omega (arith, h.low, c.loop-j-test.true))
          (omega (arith, h.high, c.loop-j-test.true)) h.ends c.ends.ensures;
    }

pub returns : goal.returns
returns c = λ j i inside small.
    let h = c.loop-j.invariant in
    subst (λ l. Lies l (channels_in c.new-2.result j) (channels_in (get_or c.args.blocks.now j no_block) i))
    (sym (block_color c.loop-j.least c.new.result j clear c.new.ensures inside h.low))
    (subst (λ l. Lies (numbers (get_or c.loop-j.least j clear)) l (channels_in (get_or c.args.blocks.now j no_block) i))
    (sym (block_color c.loop-j.greatest c.new-2.result j clear c.new-2.ensures inside h.high))
    (h.ends j clear (omega (arith, inside, c.loop-j-test.false)) i small))
