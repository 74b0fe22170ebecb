use Rattle.std.proofs.Common.{◌≡◌, ◌≤◌, ◌<◌, ◌+◌, ◌*◌, ◌-◌, ℕ, length, map, [], ◌∙◌, ap, cond, Bool, rules, arith}
use Rattle.pix_raster.specs.View.{read_at}
use Rattle.pix_raster.specs.Clip.{where_in}
use Rattle.pix_raster.proofs.Shaped.{changed_in_box}
use Rattle.pix_raster.proofs.Zones.{Part, part_each, zoned-map, length-part, row-step}
use Rattle.pix_raster.proofs.view.fill_window.Goals as goal

pub offset_bounds-pixels-start : goal.offset_bounds-pixels-start
offset_bounds-pixels-start g c =
    let seen = c.in_window-seen.result in
    let shape = c.args.window.shape in
    let in_width : seen.columns.end ≤ shape.width = c.in_window-seen.ensures.in_width in
    let in_height : seen.rows.end ≤ shape.height = c.in_window-seen.ensures.in_height in
    let row : c.loop-y.y * shape.stride + shape.width ≤ length c.args.pixels.now = c.requires.fits.shaped.last c.loop-y.y (omega arith) in
    let fits : c.loop-y.y * shape.stride + seen.columns.start ≤ length c.loop-y.pixels = omega arith in
    search rules

pub loop-y-preserved : goal.loop-y-preserved
loop-y-preserved g c =
    let n = g.F.Fill.reads in
    let f = g.F.Fill.makes c.args.change.now in
    let seen = c.in_window-seen.result in
    let shape = c.args.window.shape in
    let in_width : seen.columns.end ≤ shape.width = c.in_window-seen.ensures.in_width in
    let in_height : seen.rows.end ≤ shape.height = c.in_window-seen.ensures.in_height in
    let row : c.loop-y.y * shape.stride + shape.width ≤ length c.args.pixels.now = c.requires.fits.shaped.last c.loop-y.y (omega arith) in
    let a : ℕ = c.loop-y.y * shape.stride + seen.columns.start in
    let k : ℕ = c.loop-y.y * shape.stride + seen.columns.end - a in
    let fits : a + k ≤ length c.loop-y.pixels = omega arith in
    let part : Part (λ _. f) [] (map n c.loop-y.pixels) (map n c.fill.new.row) a k = part_each n f [] c.loop-y.pixels c.fill.new.row a k fits c.fill.ensures in
    record {
      long = length-part n (λ _. f) [] c.loop-y.pixels c.fill.new.row a k fits part ∙ c.loop-y.invariant.long;
      done = row-step (λ _ _. f) [] (map n c.args.pixels.now) (map n c.loop-y.pixels) _ shape.stride seen.columns.start seen.columns.end seen.rows.start c.loop-y.y k
          (omega arith) (omega (arith, c.requires.fits.shaped.apart)) (omega arith) (omega arith) (zoned-map n (λ _. f) [] c.loop-y.pixels c.fill.new.row a k fits part) c.loop-y.invariant.done;
    }

pub returns-after-loop-y : goal.returns-after-loop-y
returns-after-loop-y g c =
    let n = g.F.Fill.reads in
    let f = g.F.Fill.makes c.args.change.now in
    let shape = c.args.window.shape in
    let seen = c.in_window-seen.ensures in
    let columns = c.in_window-seen.result.columns in
    let rows = c.in_window-seen.result.rows in
    let e : c.loop-y.y ≡ rows.end = omega (arith, seen.from_top) in
    let done : (x y : ℕ) → x < shape.stride → read_at n shape.stride c.loop-y.pixels x y ≡ where_in columns rows (λ _ _. f) x y (read_at n shape.stride c.args.pixels.now x y) =
    rw e at c.loop-y.invariant.done in
    changed_in_box n shape c.args.pixels.now c.loop-y.pixels columns rows (λ _ _. f) _ seen.in_width seen.in_height c.requires.fits.shaped.apart (search rules) done
    (λ x y pixel lx ly. ap (λ (b : Bool). cond b (f pixel) pixel) (seen.points x y lx ly))
