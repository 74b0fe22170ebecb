use Rattle.std.specs.Vec.{with_items}
use Rattle.std.proofs.lemmas.List.{with_items_is}
use Rattle.std.proofs.Common.{List, [], ◌∷◌, ◌+◌, rules}
use Rattle.pix_raster.specs.Region.{whole}
use Rattle.pix_raster.specs.Run.{run_at}
use Rattle.pix_raster.specs.View.{ChangedIn}
use Rattle.pix_raster.specs.Draw.{command_in}
use Rattle.pix_raster.specs.declared.command.Command.{Command}
use Rattle.pix_raster.specs.declared.view.Shape.{Shape}
use Rattle.pix_raster.proofs.Shaped.{changed_rows}
use Rattle.pix_raster.proofs.raster.Raster.draw.Goals as goal

pub returns : goal.returns
returns g c =
    let layout = g.P.Pixel.layout in
    let n = g.P.Pixel.numbers in
    let m = g.M.Coverage.numbers in
    let inside = c.self.inside in
    let cs : List (Command g.row.P.Denot g.row.M.Denot) = command_in g.O.Blend.op c.args.single.now.draw ∷ [] in
    let shape : Shape = record { width = inside.width; height = inside.height; stride = inside.width } in
    let painted : ChangedIn n shape inside.pixels.items (with_items inside.pixels c.visit.new.pixels).items
    (λ x y. run_at layout n m (whole (0 + inside.width) (0 + inside.height)) cs (0 + x) (0 + y)) =
    rw (with_items_is inside.pixels c.visit.new.pixels (search rules)) (rw (c.window-window.ensures.value, c.deref_mut.ensures.value, ← c.self.view_is) at c.visit.ensures) in
    rw (← c.self.view_is) (changed_rows n inside.width inside.height inside.pixels.items (with_items inside.pixels c.visit.new.pixels).items
    (λ w h x y. run_at layout n m (whole w h) cs x y) painted)
