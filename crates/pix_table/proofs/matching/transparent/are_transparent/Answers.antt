-- Of `are_transparent`: what it answers, and that the invariant of its loop over `i` holds after
-- each turn.
use Rattle.std.proofs.Common.{◌≡◌, length, map, get_or, arith, sym, ap, ◌∙◌}
use Rattle.std.proofs.lemmas.List.{length-map}
use Rattle.pix_table.specs.matching.Nearest.{alpha_of}
use Rattle.pix_table.proofs.Below.{below_more, below_past}
use Rattle.pix_table.proofs.lemmas.matching.TransparentPixels.{alpha_at, many_alphas}
use Rattle.pix_table.proofs.matching.transparent.are_transparent.Goals as goal

pub loop-i-preserved : goal.loop-i-preserved
loop-i-preserved g c =
    let alphas = map alpha_of (map g.P.TablePixel.values c.args.pixels.now) in
    let here : get_or (map alpha_of (map g.P.TablePixel.values c.args.pixels.now)) c.loop-i.i 0 ≡ c.alpha.result =
    alpha_at g.P.TablePixel.values c.args.pixels.now c.loop-i.i c.index-pixels-i.result c.loop-i-test.true
    ∙ ap (λ p. alpha_of (g.P.TablePixel.values p)) (sym c.index-pixels-i.is) ∙ sym c.alpha.ensures in
    below_more c.args.alpha alphas c.loop-i.i (omega (arith, many_alphas g.P.TablePixel.values c.args.pixels.now)) (omega (arith, here)) c.loop-i.invariant

pub returns-then-alpha : goal.returns-then-alpha
returns-then-alpha g c =
    let alphas = map alpha_of (map g.P.TablePixel.values c.args.pixels.now) in
    let here : get_or (map alpha_of (map g.P.TablePixel.values c.args.pixels.now)) c.loop-i.i 0 ≡ c.alpha.result =
    alpha_at g.P.TablePixel.values c.args.pixels.now c.loop-i.i c.index-pixels-i.result c.loop-i-test.true
    ∙ ap (λ p. alpha_of (g.P.TablePixel.values p)) (sym c.index-pixels-i.is) ∙ sym c.alpha.ensures in
    below_past c.args.alpha alphas c.loop-i.i (omega (arith, many_alphas g.P.TablePixel.values c.args.pixels.now)) (omega (arith, here)) c.loop-i.invariant
