-- Of `closest_first`: that the invariant of its loop holds at first and after each turn, and how
-- many entries it tells of.
use Rattle.std.proofs.Common.{◌≡◌, ◌+◌, ◌*◌, map, arith, subst}
use Rattle.std.proofs.lemmas.List.{length-map}
use Rattle.std.specs.Prelude.{max}
use Rattle.pix_table.specs.threshold.ColorBlocks.{IsBest}
use Rattle.pix_table.specs.matching.Nearest.{numbers}
use Rattle.pix_table.proofs.lemmas.threshold.ColorBlockLemmas.{blocks_far, blocks_fit}
use Rattle.pix_table.proofs.threshold.in_blocks.closest_first.Goals as goal

pub loop-k-init : goal.loop-k-init
loop-k-init g c =
    let entries = map g.C.TableColor.channels c.args.colors.now in
    record {
      within = c.next_near-k.ensures.within;
      best = blocks_far entries (numbers c.args.clr) 0 c.next_near-k.result _ _ c.args.blocks.now c.requires.blocks (omega arith) c.next_near-k.ensures.within
          c.closest_of_one-at.ensures c.next_near-k.ensures.far;
    }

pub closest_between-requires-clause-within : goal.closest_between-requires-clause-within
closest_between-requires-clause-within g c =
    omega (arith, c.loop-k-test.true, blocks_fit _ _ c.requires.blocks, length-map c.args.colors.now g.C.TableColor.channels)

pub loop-k-preserved : goal.loop-k-preserved
loop-k-preserved g c =
    let entries = map g.C.TableColor.channels c.args.colors.now in
    let k = c.loop-k.k in
    let more : 16 * k + 16 ≡ max (16 * (k + 1)) 1 = omega arith in
    let best : IsBest entries (numbers c.args.clr) (max (16 * (k + 1)) 1) c.closest_between.result.0 (numbers c.closest_between.result.1) =
    subst (λ n. IsBest entries (numbers c.args.clr) n c.closest_between.result.0 (numbers c.closest_between.result.1)) more c.closest_between.ensures in
    record {
      within = c.next_near-k-in-loop-k.ensures.within;
      best = blocks_far entries (numbers c.args.clr) (k + 1) c.next_near-k-in-loop-k.result _ _ c.args.blocks.now c.requires.blocks
          c.next_near-k-in-loop-k.ensures.order c.next_near-k-in-loop-k.ensures.within best c.next_near-k-in-loop-k.ensures.far;
    }

pub returns-then-cells_near-few-clause-within : goal.returns-then-cells_near-few-clause-within
returns-then-cells_near-few-clause-within g c =
    omega (arith, c.max-start.ensures, c.loop-k-test.true, c.requires.some, blocks_fit _ _ c.requires.blocks, length-map c.args.colors.now g.C.TableColor.channels)

pub returns-clause-within : goal.returns-clause-within
returns-clause-within g c =
    omega (arith, c.max-count.ensures, c.requires.some, blocks_fit _ _ c.requires.blocks, length-map c.args.colors.now g.C.TableColor.channels)
