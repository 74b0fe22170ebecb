use Rattle.std.proofs.Common.{List, ℕ, map, refl, arith}
use Rattle.std.proofs.lemmas.List.{length-map}
use Rattle.pix_el.specs.PixelComposite.{matted_color, matted_composite}
use Rattle.pix_el.proofs.Blocks.{whole_run}
use Rattle.pix_el.proofs.MattePlanes.{last_run}
use Rattle.pix_el.proofs.Replaced.{filled_over}
use Rattle.pix_el.proofs.rows.FadedPixelsChanBlit.blit.Goals as goal

pub returns-then-clears : goal.returns-then-clears
returns-then-clears g c =
    let s = g.S.Stored.reads in
    let layout = g.P.Pixel.layout in
    let alpha = g.P.Chan.Channel.number c.args.self.now.alpha in
    let src = c.args.src.now in
    filled_over g.D.Stored.reads _ (matted_composite layout g.O.Blend.op alpha) (map s src) c.args.row.now c.clear_row.new.row c.min-count.result
    (λ t d. c.if-clears.ensures refl (matted_color layout alpha t) d)
    (omega (arith, c.min-count.ensures, length-map src s)) c.clear_row.ensures

pub returns-then-start-count : goal.returns-then-start-count
returns-then-start-count g c =
    let first = c.faded_runs-start in
    let rest = c.finish_faded in
    let made = matted_composite g.P.Pixel.layout g.O.Blend.op (g.P.Chan.Channel.number c.args.self.now.alpha) in
    last_run g.D.Stored.reads g.S.Stored.reads made first.result c.args.row.now first.new.dst rest.new.row c.args.src.now first.ensures.composite (omega arith) rest.ensures

pub returns-else-start-count : goal.returns-else-start-count
returns-else-start-count g c =
    let first = c.faded_runs-start in
    let f = λ (d s : List ℕ). matted_composite g.P.Pixel.layout g.O.Blend.op (g.P.Chan.Channel.number c.args.self.now.alpha) s d in
    whole_run g.D.Stored.reads g.S.Stored.reads f c.args.row.now c.args.src.now first.result first.new.dst first.ensures.composite (omega arith)
