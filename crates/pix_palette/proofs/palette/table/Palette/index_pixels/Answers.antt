-- Of `Palette::index_pixels`: the clauses `indexed` and `gray`, and that the invariant of its loop
-- over `i` holds at first and stays.
use Rattle.std.proofs.Common.{map, refl, ◌∙◌, arith}
use Rattle.pix_palette.specs.Palette.{numbers}
use Rattle.pix_table.proofs.lemmas.threshold.CachedColors.{none_right}
use Rattle.pix_table.proofs.lemmas.threshold.IndexingSets.{none_set, one_set, all_set, stopped}
use Rattle.pix_palette.specs.Indexing.{values}
use Rattle.pix_palette.proofs.IndexingSets.{color_at, value_more, many_colors, many_values, gray_more, all_gray}
use Rattle.pix_palette.proofs.palette.table.Palette.index_pixels.Goals as goal

pub loop-i-init : goal.loop-i-init
loop-i-init g c = record { set = none_set _ _ _ _ _ _; gray = refl; right = none_right _ (map numbers c.args.self.now.colors.items) _ c.new-cache.ensures; finder = c.finder_of-finder.ensures (map numbers c.args.self.now.colors.items); limit = refl; threshold = refl }

pub returns-in-None-clause-indexed : goal.returns-in-None-clause-indexed
returns-in-None-clause-indexed g c =
    let s = rw (c.loop-i.invariant.threshold, c.loop-i.invariant.limit, c.GREATEST.ensures) at c.in-None.ensures.set in
    stopped _ _ _ _ _ c.loop-i.i _ _ _ _ c.loop-i.invariant.set
    (omega (arith, many_colors g.S.Pixel.format g.S.Gamma.Gamma-2.mode g.S.Pixel.numbers c.args.pixels.now))
    (color_at g.S.Pixel.format g.S.Gamma.Gamma-2.mode g.S.Pixel.numbers c.args.pixels.now c.loop-i.i c.index-pixels-i.result _ (omega arith) c.index-pixels-i.is c.convert-clr.ensures) s

pub loop-i-preserved : goal.loop-i-preserved
loop-i-preserved g c =
    let s = rw (c.loop-i.invariant.threshold, c.loop-i.invariant.limit, c.GREATEST.ensures) at c.in-Some.ensures.set in
    record {
      set = one_set _ _ _ _ _ c.loop-i.i (values g.P.Pixel.numbers c.loop-i.indices) _ _ c.in-Some.index _ c.loop-i.invariant.set
          (omega (arith, many_colors g.S.Pixel.format g.S.Gamma.Gamma-2.mode g.S.Pixel.numbers c.args.pixels.now))
          (color_at g.S.Pixel.format g.S.Gamma.Gamma-2.mode g.S.Pixel.numbers c.args.pixels.now c.loop-i.i c.index-pixels-i.result _ (omega arith) c.index-pixels-i.is c.convert-clr.ensures) s
          _ (value_more g.P.Pixel.numbers c.loop-i.indices c.loop-i.i c.of_index.result c.in-Some.index (omega arith) c.of_index.ensures);
      gray = gray_more g.P.Pixel.numbers c.loop-i.indices c.loop-i.i c.of_index.result c.in-Some.index (omega arith) c.of_index.ensures c.loop-i.invariant.gray;
      right = rw (c.loop-i.invariant.threshold) at c.set_index.ensures.right;
      finder = c.set_index.ensures.finder;
      limit = c.set_index.ensures.limit ∙ c.loop-i.invariant.limit;
      threshold = c.set_index.ensures.threshold ∙ c.loop-i.invariant.threshold;
    }

pub returns-clause-indexed : goal.returns-clause-indexed
returns-clause-indexed g c =
    all_set _ _ _ _ _ c.loop-i.i _ _ c.loop-i.invariant.set
    (omega (arith, many_colors g.S.Pixel.format g.S.Gamma.Gamma-2.mode g.S.Pixel.numbers c.args.pixels.now))
    (omega (arith, many_values g.P.Pixel.numbers c.loop-i.indices))

pub returns-clause-gray : goal.returns-clause-gray
returns-clause-gray g c = λ _. all_gray g.P.Pixel.numbers c.loop-i.indices c.loop-i.i (omega arith) c.loop-i.invariant.gray

pub set_index-requires-clause-right : goal.set_index-requires-clause-right
set_index-requires-clause-right g c = rw (c.loop-i.invariant.threshold) c.loop-i.invariant.right

pub set_index-requires-clause-finder : goal.set_index-requires-clause-finder
set_index-requires-clause-finder g c = c.loop-i.invariant.finder
