-- Of `nearest_near`: that the least key is that of the nearest lane.
use Rattle.std.proofs.Common.{◌≡◌, ◌+◌, ◌*◌, ◌/◌, ◌%◌, ◌≤◌, ℕ, length, arith, subst}
use Rattle.std.specs.Int.{w64}
use Rattle.std.proofs.lemmas.Nat.Bits.{bit_at_clear_other}
use Rattle.pix_table.specs.matching.Lanes.{IsBlockKey, key_of}
use Rattle.pix_table.specs.matching.NearBlocks.{far_lane}
use Rattle.pix_table.specs.matching.SeenLanes.{no_views}
use Rattle.pix_table.proofs.lemmas.matching.BlockKeys.{block_lane, least_of_all, nearest_of_key}
use Rattle.pix_table.proofs.lemmas.matching.NearBlocks.{lane_least}
use Rattle.pix_table.proofs.rgba.near_blocks.nearest_near.Goals as goal

pub least_of_bits-requires-clause-first : goal.least_of_bits-requires-clause-first
least_of_bits-requires-clause-first c =
    block_lane (far_lane c.args.blocks.now c.args.sought) _ (length c.args.blocks.now) c.least_key-first.result (c.least_key-first.ensures no_views)
    (omega (arith, c.from-own.ensures, c.requires.near))

pub returns : goal.returns
returns c =
    let far : ℕ → ℕ = far_lane c.args.blocks.now c.args.sought in
    let n = length c.args.blocks.now in
    let key = c.least_of_bits.result in
    let h = c.least_of_bits.ensures in
    nearest_of_key far (16 * n) key (omega (arith, c.requires.few)) h.is (λ q b.
    let q_is : 16 * (q / 16) + q % 16 ≡ q = omega arith in
    subst (λ p. key ≤ key_of (far_lane c.args.blocks.now c.args.sought) p) q_is
    (least_of_all far c.near_bits.result _ (c.from-own.result / 16) c.least_key-first.result key n (q / 16) (q % 16) (c.least_key-first.ensures no_views) h.least
    (λ k i inside small clear.
    omega (
      arith,
      c.near_bits.ensures k (omega (arith, inside, c.requires.few)) clear,
      lane_least c.args.blocks.now c.args.ends.now c.args.sought k i c.requires.ends inside small,
    ))
    (λ k inside not_own. bit_at_clear_other w64 c.near_bits.result (c.from-own.result / 16) (omega (arith, c.from-own.ensures)) k (omega (arith, inside, c.requires.few)) not_own)
    (λ k i inside small set. h.each k i inside small set) (omega (arith, b)) (omega arith)))
