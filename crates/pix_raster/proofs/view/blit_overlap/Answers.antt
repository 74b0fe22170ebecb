use Rattle.std.proofs.Common.{◌≡◌, ℕ, ◌≤◌, ◌+◌, ◌*◌, ◌-◌, List, length, map, get_or, arith, rules, [], ◌∙◌, ap}
use borrow.Author.Rules.{scaled_fits≤}
use Rattle.pix_raster.proofs.Zones.{Part, part_over, zoned-map, length-part, row-step}
use Rattle.pix_raster.proofs.view.blit_overlap.Goals as goal

pub offset_bounds-pixels-start : goal.offset_bounds-pixels-start
offset_bounds-pixels-start g c =
    let here : c.loop-y.y * c.args.stride + c.args.overlap.columns.dst.end ≤ length c.args.pixels.now = c.requires.down c.loop-y.y (omega arith) in
    let fits : c.loop-y.y * c.args.stride + c.args.overlap.columns.dst.start ≤ length c.loop-y.pixels = omega arith in
    scaled_fits≤ _ (length c.loop-y.pixels) _ fits (search rules)

pub loop-y-preserved : goal.loop-y-preserved
loop-y-preserved g c =
    let n = g.B.Blit.reads in
    let m = g.B.Blit.source_reads in
    let f = g.B.Blit.makes c.args.change.now in
    let src = c.args.src.now in
    let columns = c.args.overlap.columns in
    let rows = c.args.overlap.rows in
    let src_stride : ℕ = c.args.src_stride in
    let y : ℕ = c.loop-y.y in
    let row : ℕ = rows.src_start + (y - rows.dst.start) in
    let at : ℕ → ℕ → List ℕ = λ a b. get_or (map m src) ((rows.src_start + (b - rows.dst.start)) * src_stride + (columns.src_start + (a - columns.dst.start))) [] in
    let here : y * c.args.stride + columns.dst.end ≤ length c.args.pixels.now = c.requires.down y (omega arith) in
    let there : row * src_stride + (columns.src_start + (columns.dst.end - columns.dst.start)) ≤ length src = c.requires.src_down row (omega arith) in
    let a : ℕ = y * c.args.stride + columns.dst.start in
    let s : ℕ = row * src_stride + columns.src_start in
    let k : ℕ = a + (columns.dst.end - columns.dst.start) - a in
    let ks : s + (columns.dst.end - columns.dst.start) - s ≡ k = omega arith in
    let fits : a + k ≤ length c.loop-y.pixels = omega arith in
    let fits_src : s + k ≤ length src = omega arith in
    let part : Part (λ i. f (get_or (map m src) (s + i) [])) [] (map n c.loop-y.pixels) (map n c.blit.new.row) a k =
    part_over n m f [] [] c.loop-y.pixels c.blit.new.row src a s k fits fits_src (rw ks at c.blit.ensures) in
    let place : (i : ℕ) → s + i ≡ row * src_stride + (columns.src_start + (columns.dst.start + i - columns.dst.start)) = λ i. omega arith in
    let part' : Part (λ i. f (at (columns.dst.start + i) y)) [] (map n c.loop-y.pixels) (map n c.blit.new.row) a k = record {
      long = part.long;
      at = λ i lt. part.at i lt ∙ ap (λ p. f (get_or (map m src) p []) (get_or (map n c.loop-y.pixels) (a + i) [])) (place i);
    } in
    record {
      long = length-part n _ [] c.loop-y.pixels c.blit.new.row a k fits part ∙ c.loop-y.invariant.long;
      done = row-step (λ x y. f (at x y)) [] (map n c.args.pixels.now) (map n c.loop-y.pixels) _ c.args.stride columns.dst.start columns.dst.end rows.dst.start y k
          c.requires.ordered c.requires.across (omega arith) (omega arith) (zoned-map n _ [] c.loop-y.pixels c.blit.new.row a k fits part') c.loop-y.invariant.done;
    }

pub returns : goal.returns
returns g c = let e : c.loop-y.y ≡ c.args.overlap.rows.dst.end = omega arith in rw e at c.loop-y.invariant.done
