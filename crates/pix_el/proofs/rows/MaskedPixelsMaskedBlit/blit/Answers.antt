use Rattle.std.proofs.Common.{◌≡◌, ◌∙◌, sym, ap, ℕ, List, map, refl, arith}
use Rattle.std.specs.List.{zip}
use Rattle.std.proofs.lemmas.List.{length-map}
use Rattle.pix_chan.proofs.Slices.{over_both}
use Rattle.pix_el.specs.Pixel.{Layout}
use Rattle.pix_el.specs.PixelComposite.{matte_value, matted_color, matted_composite}
use Rattle.pix_el.proofs.Masked.{length-beside, masked_by_values}
use Rattle.pix_el.proofs.MaskedPlanes.{last_beside}
use Rattle.pix_el.proofs.Replaced.{filled_over}
use Rattle.pix_el.proofs.rows.MaskedPixelsMaskedBlit.blit.Goals as goal

pub returns-then-clears : goal.returns-then-clears
returns-then-clears g c =
    let m = g.M.Coverage.numbers in
    let s = g.S.Stored.reads in
    let layout = g.P.Pixel.layout in
    let mask = c.args.mask.now in
    let src = c.args.src.now in
    filled_over g.D.Stored.reads _ (λ (t : List ℕ × List ℕ). matted_composite layout g.O.Blend.op (matte_value layout t.0) t.1) (zip (map m mask) (map s src)) c.args.row.now c.clear_row.new.row c.min-count.result
    (λ t d. c.if-clears.ensures refl (matted_color layout (matte_value layout t.0) t.1) d)
    (omega (arith, c.min-count.ensures, length-beside m s mask src)) c.clear_row.ensures

pub returns-then-start-count : goal.returns-then-start-count
returns-then-start-count g c =
    let n = g.D.Stored.reads in
    let m = g.M.Coverage.numbers in
    let s = g.S.Stored.reads in
    let op = g.O.Blend.op in
    let layout : Layout = g.P.Pixel.layout in
    let row = c.args.row.now in
    let src = c.args.src.now in
    let mask = c.args.mask.now in
    let first = c.masked_runs-start in
    let rest = c.finish_masked in
    let max : g.P.Chan.Channel.max ≡ layout.max = sym (ap (λ (l : Layout). l.max) g.met.P.Pixel.laid_out) in
    last_beside n m s (λ (t : List ℕ × List ℕ) (d : List ℕ). matted_composite layout op (matte_value layout t.0) t.1 d) first.result row first.new.dst rest.new.row mask src
    (first.ensures.composite ∙ masked_by_values layout op g.P.Chan.Channel.max max m first.result mask (map s src) (map n row)) (omega arith) (omega arith) rest.ensures

pub returns-else-start-count : goal.returns-else-start-count
returns-else-start-count g c =
    let n = g.D.Stored.reads in
    let m = g.M.Coverage.numbers in
    let s = g.S.Stored.reads in
    let op = g.O.Blend.op in
    let layout : Layout = g.P.Pixel.layout in
    let row = c.args.row.now in
    let src = c.args.src.now in
    let mask = c.args.mask.now in
    let first = c.masked_runs-start in
    let max : g.P.Chan.Channel.max ≡ layout.max = sym (ap (λ (l : Layout). l.max) g.met.P.Pixel.laid_out) in
    first.ensures.composite ∙ masked_by_values layout op g.P.Chan.Channel.max max m first.result mask (map s src) (map n row)
    ∙ over_both (λ (d : List ℕ) (t : List ℕ × List ℕ). matted_composite layout op (matte_value layout t.0) t.1 d) first.result (map n row) (zip (map m mask) (map s src)) (omega (arith, length-map row n, length-beside m s mask src))
