-- Of `index_in`: the clauses `indexed` and `before`, and that the invariant of its loop over `i`
-- holds at first and stays.
use Rattle.std.specs.Prelude.{IfSome}
use Rattle.std.proofs.Common.{◌≡◌, ◌<◌, Some, refl, ◌∙◌, arith, rules}
use Rattle.pix_palette.specs.Indexing.{values}
use Rattle.pix_table.proofs.lemmas.threshold.IndexingSets.{none_set, one_set, stopped, before_less}
use Rattle.pix_palette.proofs.IndexingSets.{color_at, value_more, many_colors, gray_more}
use Rattle.pix_palette.proofs.palette.slots_indexing.index_in.Goals as goal

pub loop-i-init : goal.loop-i-init
loop-i-init g c = record { set = none_set _ _ _ _ _ _; gray = refl; right = c.new-beside.ensures _ _; near = c.color-near.ensures; within = c.requires.within; more = omega arith; room = refl; before = refl }

pub returns-in_default-clause-indexed : goal.returns-in_default-clause-indexed
returns-in_default-clause-indexed g c =
    let s = rw (c.loop-i.invariant.room, c.loop-i.invariant.near) at c.set_cached-answer.ensures.set in
    let above : IfSome c.set_cached-answer.result.0 (λ i. g.P.IndexPixel.GREATEST < i) = rw c.in-Some.is (omega (arith, c.GREATEST.ensures, c.if-index-GREATEST.false)) in
    stopped _ _ _ _ _ c.loop-i.i _ _ _ _ c.loop-i.invariant.set
    (omega (arith, many_colors g.S.Pixel.format g.S.Gamma.Gamma-2.mode g.S.Pixel.numbers c.args.pixels.now))
    (color_at g.S.Pixel.format g.S.Gamma.Gamma-2.mode g.S.Pixel.numbers c.args.pixels.now c.loop-i.i c.index-pixels-i.result _ (omega arith) c.index-pixels-i.is c.convert-clr.ensures)
    (c.convert-clr.result, c.set_cached-answer.result.0, refl, s, above)

pub returns-in_default-clause-before : goal.returns-in_default-clause-before
returns-in_default-clause-before g c =
    before_less c.loop-i.slots _ _ c.loop-i.used c.loop-i.invariant.more c.set_cached-answer.ensures.before ∙ c.loop-i.invariant.before

pub returns-in_default-2-clause-indexed : goal.returns-in_default-2-clause-indexed
returns-in_default-2-clause-indexed g c =
    let s = rw (c.loop-i.invariant.room, c.loop-i.invariant.near) at c.set_cached-answer.ensures.set in
    let above : IfSome c.set_cached-answer.result.0 (λ i. g.P.IndexPixel.GREATEST < i) = search rules in
    stopped _ _ _ _ _ c.loop-i.i _ _ _ _ c.loop-i.invariant.set
    (omega (arith, many_colors g.S.Pixel.format g.S.Gamma.Gamma-2.mode g.S.Pixel.numbers c.args.pixels.now))
    (color_at g.S.Pixel.format g.S.Gamma.Gamma-2.mode g.S.Pixel.numbers c.args.pixels.now c.loop-i.i c.index-pixels-i.result _ (omega arith) c.index-pixels-i.is c.convert-clr.ensures)
    (c.convert-clr.result, c.set_cached-answer.result.0, refl, s, above)

pub returns-in_default-2-clause-before : goal.returns-in_default-2-clause-before
returns-in_default-2-clause-before g c =
    before_less c.loop-i.slots _ _ c.loop-i.used c.loop-i.invariant.more c.set_cached-answer.ensures.before ∙ c.loop-i.invariant.before

pub loop-i-preserved : goal.loop-i-preserved
loop-i-preserved g c =
    let some : c.set_cached-answer.result.0 ≡ Some c.in-Some.index = c.in-Some.is in
    let s = rw (c.loop-i.invariant.room, c.loop-i.invariant.near, some) at c.set_cached-answer.ensures.set in
    record {
      set = one_set _ _ _ _ _ c.loop-i.i (values g.P.Pixel.numbers c.loop-i.indices) _ _ c.in-Some.index _ c.loop-i.invariant.set
          (omega (arith, many_colors g.S.Pixel.format g.S.Gamma.Gamma-2.mode g.S.Pixel.numbers c.args.pixels.now))
          (color_at g.S.Pixel.format g.S.Gamma.Gamma-2.mode g.S.Pixel.numbers c.args.pixels.now c.loop-i.i c.index-pixels-i.result _ (omega arith) c.index-pixels-i.is c.convert-clr.ensures)
          (c.convert-clr.result, refl, s, omega (arith, c.GREATEST.ensures, c.if-index-GREATEST.true))
          _ (value_more g.P.Pixel.numbers c.loop-i.indices c.loop-i.i c.of_index.result c.in-Some.index (omega arith) c.of_index.ensures);
      gray = gray_more g.P.Pixel.numbers c.loop-i.indices c.loop-i.i c.of_index.result c.in-Some.index (omega arith) c.of_index.ensures c.loop-i.invariant.gray;
      right = rw (c.loop-i.invariant.near) at c.set_cached-answer.ensures.right;
      near = c.loop-i.invariant.near;
      within = c.set_cached-answer.ensures.within;
      more = omega (arith, c.loop-i.invariant.more, c.set_cached-answer.ensures.more);
      room = c.set_cached-answer.ensures.room ∙ c.loop-i.invariant.room;
      before = before_less c.loop-i.slots _ _ c.loop-i.used c.loop-i.invariant.more c.set_cached-answer.ensures.before ∙ c.loop-i.invariant.before;
    }
