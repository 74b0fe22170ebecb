-- Of `least_key`: that it is the least key of the block.
use Rattle.pix_table.proofs.lemmas.matching.BlockKeys.{near_block_key}
use Rattle.pix_table.proofs.matching.lanes.least_key.Goals as goal

pub returns : goal.returns
returns g c =
    near_block_key (λ block. g.B.LaneBlock.apart block c.args.sought) c.args.blocks.now c.index-blocks-j.result c.args.j c.distances.result c.keys.result
    c.least_of-key.result c.requires.inside c.index-blocks-j.is c.distances.ensures.each c.keys.ensures c.least_of-key.ensures c.if-key-ge-FAR.false
