-- Of `masked_rest`: the clause `composite`.
use Rattle.std.proofs.Common.{sym, arith, map, List, ℕ}
use Rattle.pix_chan.proofs.Slices.{over-nil}
use Rattle.pix_el.specs.PixelComposite.{matted_composite}
use Rattle.pix_el.specs.Planes.{coverage_of}
use Rattle.pix_el.proofs.MaskedPlanes.{next_beside}
use Rattle.pix_el.proofs.planes.masked.masked_rest.Goals as goal

pub returns-then-is_interleaved-clause-composite : goal.returns-then-is_interleaved-clause-composite
returns-then-is_interleaved-clause-composite g c =
    let first = c.masked_blocks-start in
    let second = c.masked_blocks in
    next_beside g.D.Stored.reads (coverage_of g.P.Chan.Channel.max g.M.Coverage.numbers) g.S.Stored.reads (λ (t : ℕ × List ℕ) (d : List ℕ). matted_composite g.P.Pixel.layout g.O.Blend.op t.0 t.1 d) first.result second.result c.args.dst.now first.new.dst second.new.dst
    c.args.mattes.now c.args.src.now first.ensures.composite (omega arith) (omega arith) second.ensures.composite

pub returns-else-has_two-clause-composite : goal.returns-else-has_two-clause-composite
returns-else-has_two-clause-composite g c = sym (over-nil _ (map g.D.Stored.reads c.args.dst.now))
