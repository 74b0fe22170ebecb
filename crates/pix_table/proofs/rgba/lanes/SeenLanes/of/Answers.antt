-- Of `SeenLanes::of`: that the invariant of its loop over `j` holds after each turn, and that the
-- entries are in lanes.
use Rattle.std.proofs.Common.{arith, sym, map, ◌∙◌, length-set}
use Rattle.std.proofs.lemmas.List.{length-map}
use Rattle.pix_table.specs.matching.Nearest.{numbers}
use Rattle.pix_table.specs.SeenPixels.{seen_numbers}
use Rattle.pix_table.proofs.lemmas.matching.SeenLaneEntries.{block_written}
use Rattle.pix_table.proofs.rgba.lanes.SeenLanes.of.Goals as goal

pub loop-j-preserved : goal.loop-j-preserved
loop-j-preserved c = record {
  long = length-set _ _ _ ∙ c.loop-j.invariant.long;
  black = block_written (map numbers c.views_of.result.0) (λ block. block.black) c.loop-j.blocks c.loop-j.j _ (omega arith) c.loop-j.invariant.black
      c.new-in-loop-j.ensures;
  white = block_written (map numbers c.views_of.result.1) (λ block. block.white) c.loop-j.blocks c.loop-j.j _ (omega arith) c.loop-j.invariant.white
      c.new-in-loop-j-2.ensures;
}

pub returns : goal.returns
returns c = record {
  len = sym (length-map c.args.entries.now seen_numbers);
  blacks = map numbers c.views_of.result.0;
  whites = map numbers c.views_of.result.1;
  black = c.views_of.ensures.black;
  white = c.views_of.ensures.white;
  in_black = λ k b. c.loop-j.invariant.black k (omega arith);
  in_white = λ k b. c.loop-j.invariant.white k (omega arith);
}
