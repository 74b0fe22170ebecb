-- Of `PaletteBlocks::add`: that each block has its bounds.
use Rattle.std.proofs.Common.{◌≡◌, ◌∷◌, ◌++◌, [], ◌<◌, length, sym, subst, arith, set, length-set}
use Rattle.std.specs.Prelude.{◌/◌, ◌%◌}
use Rattle.std.proofs.lemmas.List.{get_or-set_same}
use Rattle.pix_table.specs.matching.BlockBounds.{AreBlockBounds, Covers}
use Rattle.pix_palette.proofs.PaletteBlocksMore.{span_more, span_set}
use Rattle.pix_palette.proofs.palette.palette_blocks.PaletteBlocks.add.Goals as goal

pub returns-clause-spans : goal.returns-clause-spans
returns-clause-spans c =
    let blocks = c.args.self.now.blocks.items in
    let spans = c.args.self.now.spans.items in
    let k = c.len-k.result in
    let items : c.push_reserved.new.self.items ≡ blocks ++ c.args.block ∷ [] = c.push_reserved.ensures.items in
    let count : k ≡ length blocks = omega arith in
    let room : k / 16 < length spans = omega arith in
    let set_there : AreBlockBounds blocks (set spans (k / 16) c.set.new.self) =
    span_set blocks spans k c.index_mut.result.now c.set.new.self c.requires count room c.index_mut.ensures.value c.set.ensures.others in
    let long : length (set spans (k / 16) c.set.new.self) ≡ length spans = length-set spans (k / 16) c.set.new.self in
    rw items (span_more blocks _ k c.args.block set_there count (omega (arith, long, room))
    (λ s. subst (λ g. Covers g (k % 16) c.args.block) (sym (get_or-set_same spans (k / 16) c.set.new.self s room)) c.set.ensures.own))
