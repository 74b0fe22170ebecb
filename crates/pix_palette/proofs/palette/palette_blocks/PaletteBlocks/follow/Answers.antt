-- Of `PaletteBlocks::follow`: that the blocks stay where there is no room, and that the invariant of its
-- loop over `k` holds at first and after each turn.
use Rattle.std.proofs.Common.{◌≡◌, ◌+◌, ◌*◌, ◌∷◌, ◌++◌, [], length, map, refl, sym, subst, arith, length-append}
use Rattle.pix_table.specs.threshold.ColorBlocks.{AreBlocks, IsBlock}
use Rattle.pix_palette.specs.Palette.{numbers}
use Rattle.pix_palette.proofs.PaletteBlocksMore.{blocks_more}
use Rattle.pix_palette.proofs.palette.palette_blocks.PaletteBlocks.follow.Goals as goal

pub loop-k-init : goal.loop-k-init
loop-k-init c = record { has = c.take_memory.ensures (map numbers c.args.colors.now) c.requires; count = omega (arith, c.len-k.ensures) }

pub returns-then-not-add : goal.returns-then-not-add
returns-then-not-add c = record {
  blocks = subst (AreBlocks (map numbers c.args.colors.now)) (sym (c.if-not-add.ensures.refused refl)) c.loop-k.invariant.has.blocks;
  spans = c.add.ensures.spans;
}

pub loop-k-preserved : goal.loop-k-preserved
loop-k-preserved c =
    let entries = map numbers c.args.colors.now in
    let before = c.loop-k.self.blocks.items in
    let items : c.add.new.self.blocks.items ≡ before ++ c.new.result ∷ [] = c.if-not-add.ensures.added refl in
    let block : IsBlock entries (16 * length before) c.new.result =
    subst (λ n. IsBlock entries (16 * n) c.new.result) (sym c.loop-k.invariant.count) c.new.ensures in
    let more : length (before ++ c.new.result ∷ []) ≡ length before + 1 = length-append before (c.new.result ∷ []) in
    record {
      has = record {
        blocks = subst (AreBlocks entries) (sym items) (blocks_more entries before c.new.result c.loop-k.invariant.has.blocks block);
        spans = c.add.ensures.spans;
      };
      count = rw (items) (omega (arith, more, c.loop-k.invariant.count));
    }
