-- What holds at each turn of the loop over `command` in the painting of a list of commands.
use Rattle.std.proofs.Common.{◌≡◌, ℕ, ◌<◌, [], drop, map, get_or}
use Rattle.pix_raster.specs.View.{read_at, IsNoPoint, largest, in_window}
use Rattle.pix_raster.specs.Run.{run_at}
use Rattle.pix_flat.specs.Command.{command_of}
use Rattle.pix_flat.proofs.list.FlatListPainting.paint.Given as goal

-- what the commands that are left make of the window now is what all of them make of it at the
-- start, and all else stays
abbrev pub invariant-loop-command : goal.invariant-loop-command
invariant-loop-command g l =
    let n = g.D.Stored.reads in
    let window = l.fn.window in
    let run = run_at g.P.Pixel.layout n g.M.Coverage.numbers largest in
    let all = map command_of (map g.C.Flatten.flat l.command-items) in
    let read = read_at n window.shape.stride in
    record {
      rest : (x y : ℕ) → x < window.shape.width → y < window.shape.height
          → in_window window (run (drop l.command-index all)) x y (read l.pixels x y) ≡ in_window window (run all) x y (read l.initial.pixels x y);
      stays : (place : ℕ) → IsNoPoint window.shape place → get_or (map n l.pixels) place [] ≡ get_or (map n l.initial.pixels) place [];
    }
