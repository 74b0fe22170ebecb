use Rattle.std.proofs.Common.{arith}
use Rattle.pix_el.specs.Light.{as_srgb}
use Rattle.pix_el.specs.LightBlocks.{changed_four}
use Rattle.pix_el.proofs.LightBlocks.{each_matches, levels_at, four_made}
use Rattle.pix_el.proofs.light.blocks.put_shown.Goals as goal

pub shown-requires-clause-levels : goal.shown-requires-clause-levels
shown-requires-clause-levels g c =
    let each = each_matches g.P.Chan.Channel.max g.D.Chan.Channel.number (λ p. changed_four g.P.Chan.Channel.max g.P.Alpha.Alpha.mode g.D.Alpha.Alpha.mode (g.P.Pixel.numbers p)) c.args.c c.args.src.now (omega arith) (omega arith) c.requires.levels
    c.index-c-0.result c.index-c-1.result c.index-c-2.result c.index-src-0.result in
    levels_at g.P.Chan.Channel.max (λ p. changed_four g.P.Chan.Channel.max g.P.Alpha.Alpha.mode g.D.Alpha.Alpha.mode (g.P.Pixel.numbers p)) c.index-src-0.result _ _ _ _ c.index-src-0.is each.0

pub shown-requires-2-clause-levels : goal.shown-requires-2-clause-levels
shown-requires-2-clause-levels g c =
    let each = each_matches g.P.Chan.Channel.max g.D.Chan.Channel.number (λ p. changed_four g.P.Chan.Channel.max g.P.Alpha.Alpha.mode g.D.Alpha.Alpha.mode (g.P.Pixel.numbers p)) c.args.c c.args.src.now (omega arith) (omega arith) c.requires.levels
    c.index-c-4.result c.index-c-5.result c.index-c-6.result c.index-src-1.result in
    levels_at g.P.Chan.Channel.max (λ p. changed_four g.P.Chan.Channel.max g.P.Alpha.Alpha.mode g.D.Alpha.Alpha.mode (g.P.Pixel.numbers p)) c.index-src-1.result _ _ _ _ c.index-src-1.is each.1

pub shown-requires-3-clause-levels : goal.shown-requires-3-clause-levels
shown-requires-3-clause-levels g c =
    let each = each_matches g.P.Chan.Channel.max g.D.Chan.Channel.number (λ p. changed_four g.P.Chan.Channel.max g.P.Alpha.Alpha.mode g.D.Alpha.Alpha.mode (g.P.Pixel.numbers p)) c.args.c c.args.src.now (omega arith) (omega arith) c.requires.levels
    c.index-c-8.result c.index-c-9.result c.index-c-10.result c.index-src-2.result in
    levels_at g.P.Chan.Channel.max (λ p. changed_four g.P.Chan.Channel.max g.P.Alpha.Alpha.mode g.D.Alpha.Alpha.mode (g.P.Pixel.numbers p)) c.index-src-2.result _ _ _ _ c.index-src-2.is each.2

pub shown-requires-4-clause-levels : goal.shown-requires-4-clause-levels
shown-requires-4-clause-levels g c =
    let each = each_matches g.P.Chan.Channel.max g.D.Chan.Channel.number (λ p. changed_four g.P.Chan.Channel.max g.P.Alpha.Alpha.mode g.D.Alpha.Alpha.mode (g.P.Pixel.numbers p)) c.args.c c.args.src.now (omega arith) (omega arith) c.requires.levels
    c.index-c-12.result c.index-c-13.result c.index-c-14.result c.index-src-3.result in
    levels_at g.P.Chan.Channel.max (λ p. changed_four g.P.Chan.Channel.max g.P.Alpha.Alpha.mode g.D.Alpha.Alpha.mode (g.P.Pixel.numbers p)) c.index-src-3.result _ _ _ _ c.index-src-3.is each.3

pub returns : goal.returns
returns g c =
    four_made g.D.Pixel.numbers g.P.Pixel.numbers (as_srgb g.P.Pixel.format g.D.Pixel.format) c.args.dst.now c.args.src.now
    c.shown.result c.shown-2.result c.shown-3.result c.shown-4.result c.index-src-0.result c.index-src-1.result c.index-src-2.result c.index-src-3.result (omega arith) (omega arith)
    c.index-src-0.is c.index-src-1.is c.index-src-2.is c.index-src-3.is c.shown.ensures c.shown-2.ensures c.shown-3.ensures c.shown-4.ensures
