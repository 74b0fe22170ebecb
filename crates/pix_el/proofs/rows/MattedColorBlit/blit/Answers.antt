use Rattle.std.proofs.Common.{◌∙◌, sym, ap, ℕ, List, map, refl, arith}
use Rattle.std.proofs.lemmas.List.{length-map}
use Rattle.pix_el.specs.Pixel.{Layout}
use Rattle.pix_el.specs.PixelComposite.{matte_value, matted_color, matted_composite}
use Rattle.pix_el.proofs.Blocks.{whole_run}
use Rattle.pix_el.proofs.MattePlanes.{by_values, last_run}
use Rattle.pix_el.proofs.Replaced.{filled_over}
use Rattle.pix_el.proofs.rows.MattedColorBlit.blit.Goals as goal

pub returns-then-clears : goal.returns-then-clears
returns-then-clears g c =
    let m = g.M.Coverage.numbers in
    let layout = g.P.Pixel.layout in
    let color = g.P.Pixel.numbers c.args.self.now.clr in
    let src = c.args.src.now in
    filled_over g.D.Stored.reads _ (λ (t : List ℕ). matted_composite layout g.O.Blend.op (matte_value layout t) color) (map m src) c.args.row.now c.clear_row.new.row c.min-count.result
    (λ t d. c.if-clears.ensures refl (matted_color layout (matte_value layout t) color) d)
    (omega (arith, c.min-count.ensures, length-map src m)) c.clear_row.ensures

pub returns-then-start-count : goal.returns-then-start-count
returns-then-start-count g c =
    let n = g.D.Stored.reads in
    let m = g.M.Coverage.numbers in
    let layout : Layout = g.P.Pixel.layout in
    let color = g.P.Pixel.numbers c.args.self.now.clr in
    let row = c.args.row.now in
    let src = c.args.src.now in
    let first = c.matted_runs-start in
    let rest = c.finish_matted in
    last_run n m (λ (matte d : List ℕ). matted_composite layout g.O.Blend.op (matte_value layout matte) color d) first.result row first.new.dst rest.new.row src
    (first.ensures.composite ∙ by_values layout g.O.Blend.op g.P.Chan.Channel.max (sym (ap (λ (l : Layout). l.max) g.met.P.Pixel.laid_out)) m first.result src color (map n row))
    (omega arith) rest.ensures

pub returns-else-start-count : goal.returns-else-start-count
returns-else-start-count g c =
    let n = g.D.Stored.reads in
    let m = g.M.Coverage.numbers in
    let layout : Layout = g.P.Pixel.layout in
    let color = g.P.Pixel.numbers c.args.self.now.clr in
    let row = c.args.row.now in
    let src = c.args.src.now in
    let first = c.matted_runs-start in
    whole_run n m (λ (d matte : List ℕ). matted_composite layout g.O.Blend.op (matte_value layout matte) color d) row src first.result first.new.dst
    (first.ensures.composite ∙ by_values layout g.O.Blend.op g.P.Chan.Channel.max (sym (ap (λ (l : Layout). l.max) g.met.P.Pixel.laid_out)) m first.result src color (map n row))
    (omega arith)
