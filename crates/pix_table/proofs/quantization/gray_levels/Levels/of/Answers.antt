-- Of `of`: that the invariant of its loop over `i` holds at first, and what it returns.
use Rattle.std.proofs.Common.{◌≡◌, ◌+◌, ◌-◌, get_or, arith, refl}
use Rattle.pix_table.proofs.lemmas.quantization.LevelLemmas.{all_listed, levels_listed, listed_none, none_listed, one_listed}
use Rattle.pix_table.proofs.quantization.gray_levels.Levels.of.Goals as goal
use Rattle.pix_table.proofs.quantization.gray_levels.Levels.of.Goals.{then-count-gt0, else-count-gt0}

pub loop-i-init : goal.loop-i-init
loop-i-init c = listed_none c.count_levels-every.result _ refl

pub loop-i-preserved : goal.loop-i-preserved
loop-i-preserved c =
    let every = c.count_levels-every.result in
    let at : 255 - c.loop-i.i + c.loop-i.i ≡ 255 = omega arith in
    elim c.if-count-gt0.branch [
      | then-count-gt0 w ↦
          let e = w.push.ensures in
          rw w.levels-is
          (one_listed every c.loop-i.levels _ c.loop-i.i (255 - c.loop-i.i) (get_or every (255 - c.loop-i.i) 0) at refl w.if-count-gt0.true e.values e.counts e.len
          c.loop-i.invariant)
      | else-count-gt0 w ↦
          let absent : get_or every (255 - c.loop-i.i) 0 ≡ 0 = omega (arith, w.if-count-gt0.false) in
          rw w.levels-is (none_listed every c.loop-i.levels c.loop-i.i (255 - c.loop-i.i) at absent c.loop-i.invariant)
    ]

pub returns-clause-levels : goal.returns-clause-levels
returns-clause-levels c =
    let e = c.count_levels-every.ensures in
    levels_listed c.loop-i.i c.count_levels-every.result c.loop-i.levels c.args.colors.now (omega arith) (λ v h. e.each v (omega arith))
    (λ k d h. omega (arith, e.bytes k d h)) e.fit c.loop-i.invariant

pub returns-clause-of : goal.returns-clause-of
returns-clause-of c =
    let e = c.count_levels-every.ensures in
    all_listed c.loop-i.i c.count_levels-every.result c.loop-i.levels c.args.colors.now (omega arith) (λ v h. e.each v (omega arith))
    (λ k d h. omega (arith, e.bytes k d h)) c.loop-i.invariant
