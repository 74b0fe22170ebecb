-- Of `BlockEnds::of`: that all blocks are there, over black and over white.
use Rattle.std.proofs.Common.{get_or, length-set, arith, refl, subst, ◌∙◌}
use Rattle.pix_table.specs.threshold.ColorBlocks.{Lies, channels_in}
use Rattle.pix_table.specs.matching.SeenLanes.{no_views}
use Rattle.pix_table.proofs.lemmas.matching.NearBlocks.{side_more}
use Rattle.pix_table.proofs.rgba.near_blocks.BlockEnds.of.Goals as goal

pub loop-j-preserved : goal.loop-j-preserved
loop-j-preserved c =
    let blocks = c.args.blocks.now in
    let j = c.loop-j.j in
    let h = c.loop-j.invariant in
    record {
      blacks = length-set _ _ _ ∙ h.blacks;
      whites = length-set _ _ _ ∙ h.whites;
      black = side_more (λ b. b.black) blocks c.loop-j.blacks j (get_or blocks j no_views) (omega (arith, h.blacks, c.loop-j-test.true)) refl h.black;
      white = side_more (λ b. b.white) blocks c.loop-j.whites j (get_or blocks j no_views) (omega (arith, h.whites, c.loop-j-test.true)) refl h.white;
    }

pub returns : goal.returns
returns c =
    let blocks = c.args.blocks.now in
    let h = c.loop-j.invariant in
    record {
      black = λ j i inside small.
          subst (λ b. Lies (channels_in c.color_ends.result.0 j) (channels_in c.color_ends.result.1 j) (channels_in b i))
          (h.black j (omega (arith, inside, c.loop-j-test.false, c.requires))) (c.color_ends.ensures j i (omega (arith, inside, c.requires)) small);
      white = λ j i inside small.
          subst (λ b. Lies (channels_in c.color_ends-2.result.0 j) (channels_in c.color_ends-2.result.1 j) (channels_in b i))
          (h.white j (omega (arith, inside, c.loop-j-test.false, c.requires))) (c.color_ends-2.ensures j i (omega (arith, inside, c.requires)) small);
    }
