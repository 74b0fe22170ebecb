-- Of `first_near`: that the invariant of its loop holds after each turn, and what it tells at its
-- end.
use Rattle.std.proofs.Common.{subst, refl, arith, length}
use Rattle.std.specs.Int.{w64}
use Rattle.std.proofs.lemmas.List.{get_or_default}
use Rattle.std.proofs.lemmas.Nat.Bits.{bit_at-trailing_zeros, bit_at-zero}
use Rattle.pix_table.specs.threshold.ColorBlocks.{IsFar}
use Rattle.pix_table.specs.matching.Nearest.{numbers}
use Rattle.pix_table.proofs.BitLemmas.{shifted_bits}
use Rattle.pix_table.proofs.lemmas.threshold.ColorBlockLemmas.{no_block}
use Rattle.pix_table.proofs.lemmas.matching.BlockBoundLemmas.{clear_far, far_more}
use Rattle.pix_table.proofs.threshold.in_blocks.first_near.Goals as goal

pub returns-then-k-blocks : goal.returns-then-k-blocks
returns-then-k-blocks c =
    let zeros = bit_at-trailing_zeros w64 c.loop-rest.rest (omega arith) (omega arith) in
    clear_far c.args.blocks.now c.args.bits c.loop-rest.rest c.loop-rest.k _ (length c.args.blocks.now) (numbers c.args.clr) (numbers c.args.least)
    c.loop-rest.invariant.far c.loop-rest.invariant.rest zeros.2 (omega arith)

pub returns-then-has_near : goal.returns-then-has_near
returns-then-has_near c =
    let zeros = bit_at-trailing_zeros w64 c.loop-rest.rest (omega arith) (omega arith) in (
      omega arith,
      clear_far c.args.blocks.now c.args.bits c.loop-rest.rest c.loop-rest.k _ _ (numbers c.args.clr) (numbers c.args.least) c.loop-rest.invariant.far
          c.loop-rest.invariant.rest zeros.2 (omega arith),
    )

pub loop-rest-preserved : goal.loop-rest-preserved
loop-rest-preserved c =
    let zeros = bit_at-trailing_zeros w64 c.loop-rest.rest (omega arith) (omega arith) in
    record {
      within = omega arith;
      rest = shifted_bits c.args.bits c.loop-rest.rest c.loop-rest.k _ c.loop-rest.invariant.rest;
      far = far_more c.args.blocks.now c.args.bits _ (numbers c.args.clr) (numbers c.args.least)
          (clear_far c.args.blocks.now c.args.bits c.loop-rest.rest c.loop-rest.k _ _ (numbers c.args.clr) (numbers c.args.least) c.loop-rest.invariant.far
          c.loop-rest.invariant.rest zeros.2 (omega arith))
          (λ d. subst (λ b. IsFar b (numbers c.args.clr) (numbers c.args.least)) (get_or_default c.args.blocks.now _ no_block d (omega arith)) (c.if-has_near.ensures refl));
    }

pub returns : goal.returns
returns c =
    clear_far c.args.blocks.now c.args.bits 0 c.loop-rest.k (length c.args.blocks.now) (length c.args.blocks.now) (numbers c.args.clr) (numbers c.args.least)
    c.loop-rest.invariant.far (rw (c.loop-rest-test.false) at c.loop-rest.invariant.rest) (λ i below. bit_at-zero i) (omega arith)
