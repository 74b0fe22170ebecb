use Rattle.std.proofs.Common.{◌≡◌, ◌∙◌, ℕ, List, length, map, ap, sym, refl, arith}
use Rattle.std.proofs.lemmas.List.{length-map}
use Rattle.pix_el.specs.PixelComposite.{pixel_composite}
use Rattle.pix_chan.proofs.Slices.{over_color}
use Rattle.pix_el.proofs.MattePlanes.{last_color}
use Rattle.pix_el.proofs.Replaced.{one_for_each}
use Rattle.pix_el.proofs.rows.CompositedColorFill.fill.Goals as goal

pub returns-then-is_copied : goal.returns-then-is_copied
returns-then-is_copied g c =
    let n = g.D.Stored.reads in
    let op = pixel_composite g.P.Pixel.layout g.O.Blend.op in
    let clr = c.args.self.now.clr in
    let color = g.P.Pixel.numbers clr in
    let stored = c.store-clr.result in
    let long : length color ≡ g.P.Pixel.layout.count =
    ap length (g.met.P.Pixel.numbered clr) ∙ length-map (g.P.Pixel.channel_list clr) g.P.Chan.Channel.number ∙ ap length (sym c.channels.ensures.channels) ∙ c.channels.ensures.count in
    c.fill.ensures
    ∙ one_for_each (n stored) (op color) (map n c.args.row.now) (λ d.
    c.if-is_copied.ensures refl (n stored) d (ap length c.store-clr.ensures ∙ long) (g.met.D.Stored.fits stored)
    ∙ ap (λ (z : List ℕ). op z d) c.store-clr.ensures)

pub returns-then-clears : goal.returns-then-clears
returns-then-clears g c =
    let n = g.D.Stored.reads in
    let color = g.P.Pixel.numbers c.args.self.now.clr in
    c.clear_row.ensures ∙ one_for_each _ (pixel_composite g.P.Pixel.layout g.O.Blend.op color) (map n c.args.row.now) (c.if-clears.ensures refl color)

pub returns-then-start-row : goal.returns-then-start-row
returns-then-start-row g c =
    let first = c.color_runs-start in
    let rest = c.finish_color in
    last_color g.D.Stored.reads (pixel_composite g.P.Pixel.layout g.O.Blend.op) first.result c.args.row.now first.new.dst rest.new.row (g.P.Pixel.numbers c.args.self.now.clr) first.ensures.composite (omega arith) rest.ensures

pub returns-else-start-row : goal.returns-else-start-row
returns-else-start-row g c =
    let n = g.D.Stored.reads in
    let first = c.color_runs-start in
    let f = λ (d s : List ℕ). pixel_composite g.P.Pixel.layout g.O.Blend.op s d in
    let row = c.args.row.now in
    first.ensures.composite
    ∙ over_color f first.result (length row) (g.P.Pixel.numbers c.args.self.now.clr) (map n row) (omega (arith, length-map row n)) (omega (arith, length-map row n))
