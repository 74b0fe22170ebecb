-- Of `closest_between`: that the invariant of its loop over `i` holds after each turn.
use Rattle.std.proofs.Common.{◌≡◌, ◌+◌, [], map, get_or, true, false, sym, ap, ◌∙◌, arith, subst}
use Rattle.std.proofs.lemmas.List.{get_or-map}
use Rattle.pix_table.specs.threshold.ColorBlocks.{IsBest}
use Rattle.pix_table.specs.matching.Nearest.{numbers}
use Rattle.pix_table.specs.threshold.PaletteMatch.{color_difference, difference_to, is_closer, is_within}
use Rattle.pix_table.proofs.lemmas.threshold.PaletteMatches.{best_closer, best_stays, far_stays}
use Rattle.pix_table.proofs.threshold.closest_between.Goals as goal
use Rattle.pix_table.proofs.threshold.closest_between.Goals.{then-is_near+then-is_closer, then-is_near+else-is_closer, else-is_near}

pub loop-i-preserved : goal.loop-i-preserved
loop-i-preserved g c =
    let i = c.loop-i.i in
    let entry : numbers c.color-color.result ≡ get_or (map g.C.TableColor.channels c.args.colors.now) i [] =
    c.color-color.ensures ∙ ap g.C.TableColor.channels c.index-colors-i.is ∙ sym (get_or-map g.C.TableColor.channels c.args.colors.now i c.index-colors-i.result [] (omega arith)) in
    let from_entry : color_difference (numbers c.color-color.result) (numbers c.args.clr) ≡ difference_to (map g.C.TableColor.channels c.args.colors.now) (numbers c.args.clr) i =
    ap (λ p. color_difference p (numbers c.args.clr)) entry in
    elim c.if-is_near.branch [
      | then-is_near+then-is_closer w ↦
          let next : numbers w.apart-difference.result ≡ difference_to (map g.C.TableColor.channels c.args.colors.now) (numbers c.args.clr) i =
          w.apart-difference.ensures ∙ from_entry in
          let closer : is_closer (numbers w.apart-difference.result) (numbers c.loop-i.least) ≡ true = sym w.is_closer.ensures ∙ w.if-is_closer.true in
          let new : IsBest (map g.C.TableColor.channels c.args.colors.now) (numbers c.args.clr) (i + 1) i (numbers w.apart-difference.result) =
          best_closer _ _ i c.loop-i.at _ _ c.loop-i.invariant next closer in
          rw (w.at-is, w.least-is) new
      | then-is_near+else-is_closer w ↦
          let next : numbers w.apart-difference.result ≡ difference_to (map g.C.TableColor.channels c.args.colors.now) (numbers c.args.clr) i =
          w.apart-difference.ensures ∙ from_entry in
          let farther : is_closer (numbers w.apart-difference.result) (numbers c.loop-i.least) ≡ false = sym w.is_closer.ensures ∙ w.if-is_closer.false in
          let new : IsBest (map g.C.TableColor.channels c.args.colors.now) (numbers c.args.clr) (i + 1) c.loop-i.at (numbers c.loop-i.least) =
          best_stays _ _ i c.loop-i.at _ _ c.loop-i.invariant next farther in
          rw (w.at-is, w.least-is) new
      | else-is_near w ↦
          let far : is_within (color_difference (numbers c.color-color.result) (numbers c.args.clr)) (numbers c.loop-i.least) ≡ false = sym c.is_near.ensures ∙ w.if-is_near.false in
          let new : IsBest (map g.C.TableColor.channels c.args.colors.now) (numbers c.args.clr) (i + 1) c.loop-i.at (numbers c.loop-i.least) =
          far_stays _ _ i c.loop-i.at _ c.loop-i.invariant (subst (λ d. is_within d (numbers c.loop-i.least) ≡ false) from_entry far) in
          rw (w.at-is, w.least-is) new
    ]
