-- Of `diffuse_indexed_rgba`: the entries and the pixels as they are seen.
use Rattle.std.proofs.Common.{◌≡◌, ℕ, List, map, sym, subst}
use Rattle.std.proofs.lemmas.Simd.{map-map}
use Rattle.pix_table.specs.matching.Nearest.{IsNearestBy}
use Rattle.pix_table.specs.diffuse.ErrorBound.{IsErrorBound}
use Rattle.pix_table.specs.diffuse.Diffusion.{IsDiffusedScan, AreShownAroundBy}
use Rattle.pix_table.specs.SeenPixels.{seen, seen_distance}
use Rattle.pix_table.specs.diffuse.SeenDiffusion.{seen_of_channels}
use Rattle.pix_table.specs.matching.SeenLanes.{AreSeenLanes}
use Rattle.pix_table.proofs.lemmas.diffuse.NearErrors.{seen_around}
use Rattle.pix_table.proofs.rgba.diffuse.diffuse_indexed_rgba.Goals as goal

pub returns-clause-diffused : goal.returns-clause-diffused
returns-clause-diffused g c =
    let entries : List (List ℕ) = map seen (map g.E.TablePixel.values c.args.entries.now) in
    let pixels : map seen (map g.P.TablePixel.values c.args.pixels.now) ≡ map (λ pixel. seen (g.P.TablePixel.values pixel)) c.args.pixels.now =
    map-map seen g.P.TablePixel.values c.args.pixels.now in
    record {
      clear = c.nearest.result;
      nearest = subst (λ l. IsNearestBy seen_distance entries l c.nearest.result) c.none.ensures
          (c.nearest.ensures entries (subst (λ l. AreSeenLanes l c.of-lanes.result) c.seen_entries-colors.ensures.numbers c.of-lanes.ensures));
      diffused = subst (λ ps. IsDiffusedScan seen_of_channels seen_distance c.args.how.scan c.args.how.strength entries 1 c.nearest.result c.args.how.width ps c.diffuse_all.new.indices) (sym pixels)
          (subst (λ es. IsDiffusedScan seen_of_channels seen_distance c.args.how.scan c.args.how.strength es 1 c.nearest.result c.args.how.width
          (map (λ pixel. seen (g.P.TablePixel.values pixel)) c.args.pixels.now) c.diffuse_all.new.indices) c.seen_entries-colors.ensures.numbers c.diffuse_all.ensures.diffused);
    }

pub returns-clause-near : goal.returns-clause-near
returns-clause-near g c =
    let entries : List (List ℕ) = map seen (map g.E.TablePixel.values c.args.entries.now) in
    let pixels : map seen (map g.P.TablePixel.values c.args.pixels.now) ≡ map (λ pixel. seen (g.P.TablePixel.values pixel)) c.args.pixels.now =
    map-map seen g.P.TablePixel.values c.args.pixels.now in
    let scan = c.diffuse_all.ensures.diffused in
    seen_around entries (map g.P.TablePixel.values c.args.pixels.now) scan.bound c.nearest.result c.diffuse_all.new.indices
    (subst (λ es. IsErrorBound es scan.bound) c.seen_entries-colors.ensures.numbers scan.is_bound)
    (subst (λ l. IsNearestBy seen_distance entries l c.nearest.result) c.none.ensures
    (c.nearest.ensures entries (subst (λ l. AreSeenLanes l c.of-lanes.result) c.seen_entries-colors.ensures.numbers c.of-lanes.ensures)))
    (subst (λ ps. AreShownAroundBy seen_distance 4 entries 1 c.nearest.result ps c.diffuse_all.new.indices) (sym pixels)
    (subst (λ es. AreShownAroundBy seen_distance 4 es 1 c.nearest.result (map (λ pixel. seen (g.P.TablePixel.values pixel)) c.args.pixels.now) c.diffuse_all.new.indices)
    c.seen_entries-colors.ensures.numbers c.diffuse_all.ensures.near))
