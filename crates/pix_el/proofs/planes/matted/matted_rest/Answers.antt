-- Of `matted_rest`: the clause `composite`.
use Rattle.std.proofs.Common.{sym, arith, map}
use Rattle.pix_chan.proofs.Slices.{over-nil}
use Rattle.pix_el.specs.PixelComposite.{matted_composite}
use Rattle.pix_el.proofs.MattePlanes.{next_run}
use Rattle.pix_el.specs.Planes.{coverage_of}
use Rattle.pix_el.proofs.planes.matted.matted_rest.Goals as goal

pub returns-then-is_interleaved-2-clause-composite : goal.returns-then-is_interleaved-2-clause-composite
returns-then-is_interleaved-2-clause-composite g c =
    let v = g.P.Pixel.numbers in
    let first = c.matted_blocks-start in
    let second = c.matted_blocks-then-is_interleaved-2 in
    next_run g.D.Stored.reads (coverage_of g.P.Chan.Channel.max g.M.Coverage.numbers) (λ m. matted_composite g.P.Pixel.layout g.O.Blend.op m (v c.args.clr.now)) first.result second.result c.args.dst.now first.new.dst second.new.dst c.args.src.now
    first.ensures.composite (omega arith) second.ensures.composite

pub returns-else-has_two-clause-composite : goal.returns-else-has_two-clause-composite
returns-else-has_two-clause-composite g c = sym (over-nil _ (map g.D.Stored.reads c.args.dst.now))
