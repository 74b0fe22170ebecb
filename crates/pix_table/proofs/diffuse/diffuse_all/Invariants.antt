-- What holds at each turn of the loop over `k` in `diffuse_all`.
use Rattle.std.proofs.Common.{◌≡◌, ◌%◌, ◌<◌, ◌≤◌, ℕ, [], map, get_or}
use Rattle.pix_table.specs.diffuse.Diffusion.{in_picture, is_back}
use Rattle.pix_table.specs.matching.Nearest.{alpha_of}
use Rattle.pix_table.specs.diffuse.Done.{AreDone}
use Rattle.pix_table.proofs.diffuse.diffuse_all.Given as goal

-- the first k pixels of the scan are diffused
abbrev pub invariant-loop-k : goal.invariant-loop-k
invariant-loop-k g l = record {
  done : AreDone g.S.DiffusedColor.of_channels g.S.DiffusedColor.apart l.how.scan l.bound l.how.strength (map g.C.ShownAs.shown l.entries) l.how.alpha l.how.transparent_index l.how.width
      (map (λ pixel. g.S.DiffusedColor.given (g.P.TablePixel.values pixel)) l.pixels) l.k (map g.S.DiffusedColor.spread l.wanted) (map g.S.DiffusedColor.spread l.found) l.near l.indices;
  can : (j : ℕ) → j < l.k → l.how.alpha ≤ alpha_of (get_or (map (λ pixel. g.S.DiffusedColor.given (g.P.TablePixel.values pixel)) l.pixels) (in_picture l.how.scan l.how.width j) [])
      → g.S.DiffusedColor.can_be_given (get_or (map (λ pixel. g.S.DiffusedColor.given (g.P.TablePixel.values pixel)) l.pixels) (in_picture l.how.scan l.how.width j) []);
  same : g.N.FindsNearest.among l.search (map g.C.ShownAs.shown l.entries);
  column : l.column ≡ l.k % l.how.width;
  back : l.back ≡ is_back l.how.scan l.how.width l.k;
}
