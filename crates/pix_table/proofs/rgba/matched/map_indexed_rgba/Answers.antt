-- Of `map_indexed_rgba`: that the invariant of its loop over `k` holds at first, and after each turn.
use Rattle.std.proofs.Common.{arith, rules, ◌≡◌, ℕ, List, [], ap, sym, ◌∙◌, subst, map, get_or, length-set}
use Rattle.std.proofs.lemmas.List.{get_or-map, length-replicate}
use Rattle.std.proofs.lemmas.List.Elements.{All-replicate}
use Rattle.pix_table.specs.matching.Nearest.{IsNearestBy}
use Rattle.pix_table.specs.SeenPixels.{seen, seen_distance}
use Rattle.pix_table.specs.quantization.SeenGroups.{seen_key_numbers}
use Rattle.pix_table.specs.matching.SeenLanes.{AreSeenLanes}
use Rattle.pix_table.specs.declared.rgba.matched.MatchedPixel.{MatchedPixel}
use Rattle.pix_table.proofs.Writes.{set_more}
use Rattle.pix_table.proofs.rgba.matched.map_indexed_rgba.Goals as goal

pub loop-k-init : goal.loop-k-init
loop-k-init g c =
    let entries : List (List ℕ) = map seen (map g.E.TablePixel.values c.args.entries.now) in
    let lanes : AreSeenLanes entries c.of-lanes.result = subst (λ l. AreSeenLanes l c.of-lanes.result) c.seen_entries-colors.ensures.numbers c.of-lanes.ensures in
    let start : IsNearestBy seen_distance (map seen (map g.E.TablePixel.values c.args.entries.now)) (seen (seen_key_numbers 0)) c.nearest.result =
    subst (λ l. IsNearestBy seen_distance entries l c.nearest.result) c.seen_of.ensures.numbers (c.nearest.ensures entries lanes) in
    let first : MatchedPixel = record { key = 0; index = c.nearest.result } in
    record {
      long = c.requires.many;
      many = length-replicate 1024 first;
      places = All-replicate (λ p. IsNearestBy seen_distance entries (seen (seen_key_numbers p.key)) p.index) 1024 first start;
      matched = λ j below. absurd (omega (arith, below));
    }

pub loop-k-preserved : goal.loop-k-preserved
loop-k-preserved g c =
    let entries : List (List ℕ) = map seen (map g.E.TablePixel.values c.args.entries.now) in
    let pixels = c.args.pixels.now in
    let k = c.loop-k.k in
    let lanes : AreSeenLanes entries c.of-lanes.result = subst (λ l. AreSeenLanes l c.of-lanes.result) c.seen_entries-colors.ensures.numbers c.of-lanes.ensures in
    let pixel : seen (g.P.TablePixel.values c.index-pixels-k.result) ≡ seen (get_or (map g.P.TablePixel.values pixels) k []) =
    ap (λ p. seen (g.P.TablePixel.values p)) c.index-pixels-k.is
    ∙ ap seen (sym (get_or-map g.P.TablePixel.values pixels k c.index-pixels-k.result [] (omega arith))) in
    let found = c.index_of-index.ensures.nearest entries lanes c.loop-k.invariant.places in
    record {
      long = length-set _ _ _ ∙ c.loop-k.invariant.long;
      many = search rules;
      places = c.index_of-index.ensures.places entries lanes c.loop-k.invariant.places;
      matched = set_more (λ j i. IsNearestBy seen_distance entries (seen (get_or (map g.P.TablePixel.values pixels) j [])) i) c.loop-k.indices k
          c.index_of-index.result (omega arith) c.loop-k.invariant.matched
          (subst (λ l. IsNearestBy seen_distance entries l c.index_of-index.result) pixel found);
    }
