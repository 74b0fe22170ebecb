-- Of `views_of`: that the invariant of its loop over `p` holds after each turn.
use Rattle.std.proofs.Common.{arith, ◌≡◌, ◌-◌, ℕ, List, [], ap, sym, ◌∙◌, subst, map, get_or, length, length-set, min}
use Rattle.std.proofs.lemmas.List.{get_or-map, length-map}
use Rattle.std.proofs.lemmas.List.Elements.{All-get_or}
use Rattle.pix_table.specs.matching.Nearest.{numbers}
use Rattle.pix_table.specs.SeenPixels.{AreSeen, over_white, seen_numbers}
use Rattle.pix_table.specs.matching.SeenLanes.{over_black}
use Rattle.pix_table.proofs.Writes.{mapped_more}
use Rattle.pix_table.proofs.rgba.views.views_of.Goals as goal

pub both_views-views-requires : goal.both_views-views-requires
both_views-views-requires c =
    let entries = c.args.entries.now in
    let long = length-map entries seen_numbers in
    subst AreSeen (get_or-map seen_numbers entries c.min.result _ [] (omega arith))
    (All-get_or AreSeen (map seen_numbers entries) c.min.result [] (omega (arith, long)) c.requires.seen)

pub loop-p-preserved : goal.loop-p-preserved
loop-p-preserved c =
    let entries = c.args.entries.now in
    let p = c.loop-p.p in
    let at : ℕ → List ℕ = (λ q. get_or (map seen_numbers entries) (min q (length (map seen_numbers entries) - 1)) []) in
    let place : c.min.result ≡ min p (length (map seen_numbers entries) - 1) = omega (arith, length-map entries seen_numbers) in
    let entry = sym (get_or-map seen_numbers entries c.min.result _ [] (omega arith)) ∙ ap (λ k. get_or (map seen_numbers entries) k []) place in
    record {
      long_black = length-set _ _ _ ∙ c.loop-p.invariant.long_black;
      long_white = length-set _ _ _ ∙ c.loop-p.invariant.long_white;
      black = mapped_more numbers (λ q l. l ≡ over_black (at q)) c.loop-p.black p c.both_views-views.result.black (omega arith) c.loop-p.invariant.black
          (c.both_views-views.ensures.black ∙ ap over_black entry);
      white = mapped_more numbers (λ q l. l ≡ over_white (at q)) c.loop-p.white p c.both_views-views.result.white (omega arith) c.loop-p.invariant.white
          (c.both_views-views.ensures.white ∙ ap over_white entry);
    }
