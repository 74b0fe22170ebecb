-- Of `write_indices`: its clauses, and that the invariant of its loop over `i` holds after each
-- turn.
use Rattle.std.proofs.Common.{◌∷◌, ◌++◌, [], take, sym, ap, ◌∙◌, arith}
use Rattle.std.proofs.lemmas.List.{take_all, take_more}
use Rattle.pix_palette.specs.Indexing.{values}
use Rattle.pix_palette.proofs.IndexingSets.{value_more, many_values, gray_more, all_gray}
use Rattle.pix_palette.proofs.palette.quantization.write_indices.Goals as goal

pub loop-i-preserved : goal.loop-i-preserved
loop-i-preserved g c = record {
  indices = value_more g.P.Pixel.numbers c.loop-i.pixels c.loop-i.i c.of_index.result c.from.result (omega arith) c.of_index.ensures
      ∙ ap (λ l. l ++ c.from.result ∷ []) c.loop-i.invariant.indices ∙ ap (λ n. take c.loop-i.i c.args.indices.now ++ n ∷ []) c.from.ensures
      ∙ sym (take_more c.args.indices.now c.loop-i.i 0 (omega arith));
  gray = gray_more g.P.Pixel.numbers c.loop-i.pixels c.loop-i.i c.of_index.result c.from.result (omega arith) c.of_index.ensures c.loop-i.invariant.gray;
}

pub returns-clause-indices : goal.returns-clause-indices
returns-clause-indices g c =
    sym (take_all c.loop-i.i (values g.P.Pixel.numbers c.loop-i.pixels) (omega (arith, many_values g.P.Pixel.numbers c.loop-i.pixels)))
    ∙ c.loop-i.invariant.indices ∙ take_all c.loop-i.i c.args.indices.now (omega arith)

pub returns-clause-gray : goal.returns-clause-gray
returns-clause-gray g c = all_gray g.P.Pixel.numbers c.loop-i.pixels c.loop-i.i (omega arith) c.loop-i.invariant.gray
