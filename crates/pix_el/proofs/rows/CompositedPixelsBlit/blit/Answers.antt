use Rattle.std.proofs.Common.{◌∙◌, map, refl, arith, List, ℕ}
use Rattle.std.proofs.lemmas.List.{length-map}
use Rattle.pix_el.specs.PixelComposite.{pixel_composite}
use Rattle.pix_el.proofs.Blocks.{whole_run}
use Rattle.pix_el.proofs.MattePlanes.{last_run}
use Rattle.pix_el.proofs.Replaced.{replaced_row, filled_over}
use Rattle.pix_el.proofs.rows.CompositedPixelsBlit.blit.Goals as goal

pub returns-then-row-le-SHORT : goal.returns-then-row-le-SHORT
returns-then-row-le-SHORT g c =
    let n = g.D.Stored.reads in
    c.blit.ensures
    ∙ replaced_row n g.P.Pixel.layout g.O.Blend.op c.args.src.now (map n c.args.row.now) (c.if-replaces.ensures refl) g.met.D.Stored.fits c.establish_channels.ensures

pub returns-then-clears : goal.returns-then-clears
returns-then-clears g c =
    let n = g.D.Stored.reads in
    let src = c.args.src.now in
    filled_over n _ (pixel_composite g.P.Pixel.layout g.O.Blend.op) (map n src) c.args.row.now c.clear_row.new.row c.min-count.result (c.if-clears.ensures refl)
    (omega (arith, c.min-count.ensures, length-map src n)) c.clear_row.ensures

pub returns-then-start-count : goal.returns-then-start-count
returns-then-start-count g c =
    let first = c.pixel_runs-start in
    let rest = c.finish_pixels in
    last_run g.D.Stored.reads g.D.Stored.reads (pixel_composite g.P.Pixel.layout g.O.Blend.op) first.result c.args.row.now first.new.dst rest.new.row c.args.src.now first.ensures.composite (omega arith) rest.ensures

pub returns-else-start-count : goal.returns-else-start-count
returns-else-start-count g c =
    let first = c.pixel_runs-start in
    let f = λ (d s : List ℕ). pixel_composite g.P.Pixel.layout g.O.Blend.op s d in
    whole_run g.D.Stored.reads g.D.Stored.reads f c.args.row.now c.args.src.now first.result first.new.dst first.ensures.composite (omega arith)
