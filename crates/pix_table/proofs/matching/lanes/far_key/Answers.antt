-- Of `far_key`: that it is the least key of the block.
use Rattle.pix_table.proofs.lemmas.matching.BlockKeys.{far_block_key}
use Rattle.pix_table.proofs.lemmas.matching.LaneSearch.{keys_are}
use Rattle.pix_table.proofs.matching.lanes.far_key.Goals as goal

pub returns : goal.returns
returns g c =
    far_block_key (λ block. g.B.LaneBlock.apart block c.args.sought) c.args.blocks.now c.index-blocks-j.result c.args.j c.wide_keys.result c.least_of.result
    c.requires.inside c.index-blocks-j.is
    (keys_are (λ block. g.B.LaneBlock.apart block c.args.sought) c.index-blocks-j.result c.args.j c.wide_distances.result c.wide_keys.result
    c.wide_distances.ensures.each c.wide_keys.ensures.long c.wide_keys.ensures.each)
    c.least_of.ensures
