-- Of `four_in_mode`: the pixels where the colors are the same in both modes.
use Rattle.std.proofs.Common.{arith, subst, map, ℕ}
use Rattle.pix_el.specs.LightBlocks.{AreSameInBothModes}
use Rattle.pix_el.proofs.LightBlocks.{kept_changed}
use Rattle.pix_el.proofs.light.blocks.four_in_mode.Goals as goal

pub returns-then-are_kept : goal.returns-then-are_kept
returns-then-are_kept g c =
    let max = g.P.Chan.Channel.max in
    kept_changed max g.P.Alpha.Alpha.mode g.D.Alpha.Alpha.mode g.P.Chan.Channel.number g.P.Pixel.numbers g.met.P.Chan.Channel.numbered.fits
    c.four_pixels.result c.args.p.now (omega arith) (omega arith)
    (subst (λ (a : ℕ). AreSameInBothModes max g.P.Alpha.Alpha.mode g.D.Alpha.Alpha.mode a (map g.P.Pixel.numbers c.args.p.now)) c.requires.alpha (c.are_kept.ensures c.if-are_kept.true))
    c.four_pixels.ensures
