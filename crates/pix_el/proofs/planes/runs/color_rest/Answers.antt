-- Of `color_rest`: the clause `composite`.
use Rattle.std.proofs.Common.{sym, arith, map}
use Rattle.pix_chan.proofs.Slices.{over-nil}
use Rattle.pix_el.specs.PixelComposite.{pixel_composite}
use Rattle.pix_el.proofs.MattePlanes.{next_color}
use Rattle.pix_el.proofs.planes.runs.color_rest.Goals as goal

pub returns-then-is_interleaved-clause-composite : goal.returns-then-is_interleaved-clause-composite
returns-then-is_interleaved-clause-composite g c =
    let first = c.color_blocks-start in
    let second = c.color_blocks in
    next_color g.D.Stored.reads (pixel_composite g.P.Pixel.layout g.O.Blend.op) first.result second.result c.args.dst.now first.new.dst second.new.dst (g.P.Pixel.numbers c.args.clr.now)
    first.ensures.composite (omega arith) second.ensures.composite

pub returns-else-has_two-clause-composite : goal.returns-else-has_two-clause-composite
returns-else-has_two-clause-composite g c = sym (over-nil _ (map g.D.Stored.reads c.args.dst.now))
