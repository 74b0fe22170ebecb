-- Of `colors_of`: that the invariant of its loop over `i` holds after each turn.
use Rattle.std.proofs.Common.{◌∙◌, length-set, arith}
use Rattle.pix_table.proofs.Writes.{copy_more}
use Rattle.pix_table.proofs.matching.matcher.colors_of.Goals as goal

pub loop-i-preserved : goal.loop-i-preserved
loop-i-preserved g c = record {
  copied = copy_more _ _ c.loop-i.entries c.args.colors.now c.loop-i.i _ c.index-colors-i.result (omega arith) (omega arith) c.index-colors-i.is
      c.color.ensures c.loop-i.invariant.copied;
  long = length-set _ _ _ ∙ c.loop-i.invariant.long;
}
