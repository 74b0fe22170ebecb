-- Of `nearest`: its clauses, and that the invariant of its loop over `i` holds after each turn.
use Rattle.std.proofs.Common.{◌≡◌, ◌+◌, [], map, get_or, Some, sym, ap, ◌∙◌, arith}
use Rattle.std.proofs.lemmas.List.{length-map, get_or-map}
use Rattle.pix_table.specs.matching.Nearest.{numbers, distance, distance_to}
use Rattle.pix_table.proofs.lemmas.matching.NearestEntries.{IsNearestBelow, nearest_changes, nearest_stays, nearest_of_all, nearest_of_first}
use Rattle.pix_table.proofs.matching.search.nearest.Goals as goal
use Rattle.pix_table.proofs.matching.search.nearest.Goals.{then-next-least, else-next-least}

pub loop-i-preserved : goal.loop-i-preserved
loop-i-preserved g c =
    let colors = c.args.colors.now in
    let i = c.loop-i.i in
    let entry : numbers c.color-in-loop-i.result ≡ get_or (map g.C.TableColor.channels c.args.colors.now) i [] =
    c.color-in-loop-i.ensures ∙ ap g.C.TableColor.channels c.index-colors-i.is ∙ sym (get_or-map g.C.TableColor.channels c.args.colors.now i c.index-colors-i.result [] (omega arith)) in
    let next : c.distance-next.result ≡ distance_to (map g.C.TableColor.channels c.args.colors.now) (numbers c.args.clr) i =
    c.distance-next.ensures.distance ∙ ap (λ p. distance p (numbers c.args.clr)) entry in
    elim c.if-next-least.branch [
      | then-next-least w ↦
          let new : IsNearestBelow (map g.C.TableColor.channels c.args.colors.now) (numbers c.args.clr) (i + 1) i c.distance-next.result =
          nearest_changes _ _ i c.loop-i.at _ _ c.loop-i.invariant (omega (arith, length-map c.args.colors.now g.C.TableColor.channels)) next w.if-next-least.true in
          rw (w.at-is, w.least-is) new
      | else-next-least w ↦
          let new : IsNearestBelow (map g.C.TableColor.channels c.args.colors.now) (numbers c.args.clr) (i + 1) c.loop-i.at c.loop-i.least =
          nearest_stays _ _ i c.loop-i.at _ _ c.loop-i.invariant next w.if-next-least.false in
          rw (w.at-is, w.least-is) new
    ]

pub returns-clause-nearest : goal.returns-clause-nearest
returns-clause-nearest g c =
    nearest_of_all _ _ c.loop-i.i c.loop-i.at _ (omega (arith, length-map c.args.colors.now g.C.TableColor.channels)) c.loop-i.invariant

pub returns-clause-standing : goal.returns-clause-standing
returns-clause-standing g c = λ i first.
    ap Some (nearest_of_first _ _ c.loop-i.at i (nearest_of_all _ _ c.loop-i.i c.loop-i.at _ (omega (arith, length-map c.args.colors.now g.C.TableColor.channels)) c.loop-i.invariant) first)
