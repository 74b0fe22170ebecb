-- Of `least_of_bits`: that the invariant of its loop holds after each turn, and what it tells at its end.
use Rattle.std.proofs.Common.{length, arith}
use Rattle.std.specs.Int.{w64}
use Rattle.std.proofs.lemmas.Nat.Bits.{bit_at-trailing_zeros, bit_at-zero}
use Rattle.pix_table.specs.matching.NearBlocks.{far_lane}
use Rattle.pix_table.specs.matching.SeenLanes.{no_views}
use Rattle.pix_table.proofs.BitLemmas.{shifted_bits}
use Rattle.pix_table.proofs.lemmas.matching.BlockKeys.{bits_clear, bits_more, lane_more}
use Rattle.pix_table.proofs.rgba.near_blocks.least_of_bits.Goals as goal

pub loop-rest-preserved : goal.loop-rest-preserved
loop-rest-preserved c =
    let far = far_lane c.args.blocks.now c.args.sought in
    let h = c.loop-rest.invariant in
    let zeros = bit_at-trailing_zeros w64 c.loop-rest.rest (omega arith) (omega arith) in
    let block = c.least_key.ensures no_views in
    record {
      within = omega arith;
      rest = shifted_bits c.args.bits c.loop-rest.rest c.loop-rest.k _ h.rest;
      is = lane_more far _ (length c.args.blocks.now) c.loop-rest.key c.least_key.result c.min-key.result h.is block (omega arith) (omega (arith, c.min-key.ensures));
      least = omega (arith, h.least, c.min-key.ensures);
      each = bits_more far c.args.bits _ c.loop-rest.key c.least_key.result c.min-key.result
          (bits_clear far c.args.bits c.loop-rest.rest c.loop-rest.k _ _ c.loop-rest.key h.each h.rest zeros.2 (omega arith)) block
          (omega (arith, c.min-key.ensures));
    }

pub returns-then-k-blocks-clause-each : goal.returns-then-k-blocks-clause-each
returns-then-k-blocks-clause-each c =
    let zeros = bit_at-trailing_zeros w64 c.loop-rest.rest (omega arith) (omega arith) in
    bits_clear (far_lane c.args.blocks.now c.args.sought) c.args.bits c.loop-rest.rest c.loop-rest.k _ (length c.args.blocks.now) c.loop-rest.key
    c.loop-rest.invariant.each c.loop-rest.invariant.rest zeros.2 (omega arith)

pub returns-clause-each : goal.returns-clause-each
returns-clause-each c =
    bits_clear (far_lane c.args.blocks.now c.args.sought) c.args.bits 0 c.loop-rest.k (length c.args.blocks.now) (length c.args.blocks.now) c.loop-rest.key
    c.loop-rest.invariant.each (rw (c.loop-rest-test.false) at c.loop-rest.invariant.rest) (λ i below. bit_at-zero i) (omega arith)
