use Rattle.std.proofs.Common.{arith}
use Rattle.pix_el.specs.Conversion.{at_depth}
use Rattle.pix_el.proofs.LightBlocks.{alphas_set}
use Rattle.pix_el.proofs.light.blocks.put_alphas.Goals as goal

pub returns : goal.returns
returns g c =
    alphas_set g.D.Channel.number g.C.Channel.number (at_depth g.C.Channel.max g.D.Channel.max) c.args.colors c.args.c
    c.at_depth.result c.at_depth-2.result c.at_depth-3.result c.at_depth-4.result
    c.index-c-3.result c.index-c-7.result c.index-c-11.result c.index-c-15.result (omega arith) (omega arith)
    c.at_depth.ensures c.at_depth-2.ensures c.at_depth-3.ensures c.at_depth-4.ensures
