use Rattle.std.proofs.Common.{◌≡◌, ◌<◌, ◌+◌, ◌∷◌, [], length, map, drop, get_or, sym, ap, ◌∙◌, arith}
use Rattle.std.proofs.lemmas.List.{length-map, get_or-map, drop_all}
use Rattle.pix_raster.specs.Run.{run_at}
use Rattle.pix_raster.specs.View.{read_at, ChangedIn, largest, in_window}
use Rattle.pix_raster.proofs.Steps.{run_more}
use Rattle.pix_flat.specs.Command.{command_of}
use Rattle.pix_flat.specs.Status.{fault_of}
use Rattle.pix_flat.proofs.Faults.{none_at}
use Rattle.pix_flat.proofs.Ran.{told_at, count_told}
use Rattle.pix_flat.proofs.list.FlatListPainting.paint.Goals as goal

pub loop-command-preserved : goal.loop-command-preserved
loop-command-preserved g c =
    let flat = g.C.Flatten.flat in
    let layout = g.P.Pixel.layout in
    let n = g.D.Stored.reads in
    let m = g.M.Coverage.numbers in
    let i = c.loop-command.command-index in
    let item = c.command-item.result in
    let commands = c.args.self.now.commands.now in
    let window = c.args.window in
    let shape = window.shape in
    let all = map command_of (map flat commands) in
    let here = command_of (flat item) in
    let within : i < length all = omega (arith, count_told flat commands, c.loop-command-test.true) in
    let is : here ≡ get_or all i here = told_at flat commands i item c.loop-command-test.true c.command-item.is in
    let done : ChangedIn n shape c.loop-command.pixels c.paint.new.pixels (in_window window (run_at layout n m largest (here ∷ []))) = c.paint.ensures in
    record {
      rest = λ x y lx ly.
          ap (run_at layout n m largest (drop (i + 1) all) (window.left + x) (window.top + y)) (done.points x y lx ly)
          ∙ run_more layout n m largest all i here (window.left + x) (window.top + y) (read_at n shape.stride c.loop-command.pixels x y) within is
          ∙ c.loop-command.invariant.rest x y lx ly;
      stays = λ place none. done.stays place none ∙ c.loop-command.invariant.stays place none;
    }

pub paint-requires-clause-sound : goal.paint-requires-clause-sound
paint-requires-clause-sound g c =
    let flat = g.C.Flatten.flat in
    let commands = c.args.self.now.commands.now in
    let item = c.command-item.result in
    let i = c.loop-command.command-index in
    let within : i < length (map flat commands) = omega (arith, length-map commands flat, c.loop-command-test.true) in
    ap fault_of (ap flat c.command-item.is ∙ sym (get_or-map flat commands i item (flat item) c.loop-command-test.true))
    ∙ none_at (map flat commands) i (flat item) c.requires.can_paint within

pub returns : goal.returns
returns g c =
    let commands = c.args.self.now.commands.now in
    let all = map command_of (map g.C.Flatten.flat commands) in
    record {
      points = λ x y lx ly.
          rw (drop_all c.loop-command.command-index all (omega (arith, count_told g.C.Flatten.flat commands))) at (c.loop-command.invariant.rest x y lx ly);
      stays = c.loop-command.invariant.stays;
    }
