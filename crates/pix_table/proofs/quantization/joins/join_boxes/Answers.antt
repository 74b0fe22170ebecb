-- Of `join_boxes`: that the boxes are joined so far.
use Rattle.std.proofs.Common.{◌≡◌, ◌-◌, ◌+◌, refl, arith, ◌∙◌, subst}
use Rattle.pix_table.specs.quantization.ColorGroups.{IsGroup}
use Rattle.pix_table.specs.quantization.Joins.{none}
use Rattle.pix_table.specs.quantization.Pairs.{AreGroupsOf, join_at}
use Rattle.pix_table.proofs.lemmas.quantization.PairLemmas.{join_colors, join_more}
use Rattle.pix_table.proofs.quantization.joins.join_boxes.Goals as goal

pub returns-then-count-room-clause-joined : goal.returns-then-count-room-clause-joined
returns-then-count-room-clause-joined g c = λ boxes are few. (boxes, none boxes, are)

pub loop-done-init : goal.loop-done-init
loop-done-init g c = λ boxes are few.
    let e : c.args.count ≡ c.args.count - 0 = omega arith in (
      boxes,
      none boxes,
      subst (λ n. AreGroupsOf (IsGroup g.S.BoxSums.are g.S.BoxSums.weigh) boxes c.args.groups.now n) e are,
      c.find_pairs.ensures boxes are,
      refl,
    )

pub loop-done-preserved : goal.loop-done-preserved
loop-done-preserved g c = λ boxes are few.
    let old = c.loop-done.invariant boxes are few in
    let step = c.join_next.ensures old.0 old.2 old.3 in
    let e : c.args.count - c.loop-done.done - 1 ≡ c.args.count - (c.loop-done.done + 1) = omega arith in (
      join_at old.0 step.0 step.1,
      join_more old.0 step.0 step.1 step.2.order step.2.within g.S.BoxSums.weigh boxes old.1 step.2,
      subst (λ n. AreGroupsOf (IsGroup g.S.BoxSums.are g.S.BoxSums.weigh) (join_at old.0 step.0 step.1) c.join_next.new.groups n) e step.3,
      step.4,
      join_colors old.0 step.0 step.1 step.2.order step.2.within ∙ old.4,
    )
