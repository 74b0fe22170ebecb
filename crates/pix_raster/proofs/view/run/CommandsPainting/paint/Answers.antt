use Rattle.std.proofs.Common.{◌≡◌, ◌<◌, ◌+◌, ◌∷◌, [], length, map, drop, get_or, sym, ap, ◌∙◌, arith}
use Rattle.std.proofs.lemmas.List.{length-map, get_or-map, drop_all}
use Rattle.pix_raster.specs.Region.{limit}
use Rattle.pix_raster.specs.Run.{run_at}
use Rattle.pix_raster.specs.View.{read_at, ChangedIn, picture, in_window}
use Rattle.pix_raster.proofs.Pictures.{run_in_picture}
use Rattle.pix_raster.proofs.Steps.{run_more}
use Rattle.pix_raster.proofs.view.run.CommandsPainting.paint.Goals as goal

pub loop-command-preserved : goal.loop-command-preserved
loop-command-preserved g c =
    let flat = g.C.ReadDraw.command in
    let layout = g.P.Pixel.layout in
    let n = g.D.Stored.reads in
    let m = g.M.Coverage.numbers in
    let i = c.loop-command.command-index in
    let item = c.command-item.result in
    let commands = c.args.self.now.commands.now in
    let window = c.args.window in
    let shape = window.shape in
    let dest = picture window in
    let all = map flat commands in
    let within : i < length all = omega (arith, length-map commands flat, c.loop-command-test.true) in
    let is : flat item ≡ get_or all i (flat item) =
    sym (get_or-map flat commands i item (flat item) c.loop-command-test.true ∙ ap flat (sym c.command-item.is)) in
    let done : ChangedIn n shape c.loop-command.pixels c.visit_slice.new.items (in_window window (run_at layout n m dest (flat item ∷ []))) = c.visit_slice.ensures in
    record {
      rest = λ x y lx ly.
          ap (run_at layout n m dest (drop (i + 1) all) (window.left + x) (window.top + y)) (done.points x y lx ly)
          ∙ run_more layout n m dest all i (flat item) (window.left + x) (window.top + y) (read_at n shape.stride c.loop-command.pixels x y) within is
          ∙ c.loop-command.invariant.rest x y lx ly;
      stays = λ place none. done.stays place none ∙ c.loop-command.invariant.stays place none;
    }

pub returns : goal.returns
returns g c =
    let commands = c.args.self.now.commands.now in
    let all = map g.C.ReadDraw.command commands in
    let window = c.args.window in
    let width = window.left + window.shape.width in
    let height = window.top + window.shape.height in
    let fits = c.requires.fits in
    record {
      points = λ x y lx ly.
          rw (drop_all c.loop-command.command-index all (omega (arith, length-map commands g.C.ReadDraw.command))) at (c.loop-command.invariant.rest x y lx ly)
          ∙ run_in_picture g.P.Pixel.layout g.D.Stored.reads g.M.Coverage.numbers all width height limit limit (window.left + x) (window.top + y) _ fits.across fits.down fits.across fits.down (omega arith) (omega arith);
      stays = c.loop-command.invariant.stays;
    }
