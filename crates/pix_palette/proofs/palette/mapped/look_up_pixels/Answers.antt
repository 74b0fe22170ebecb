-- Of `look_up_pixels`: its clauses, and that the invariant of its loop over `i` stays.
use Rattle.std.proofs.Common.{◌≡◌, get_or, ap, ◌∙◌, arith}
use Rattle.pix_palette.specs.Indexing.{values}
use Rattle.pix_palette.proofs.IndexingSets.{value_at, many_values}
use Rattle.pix_table.proofs.Below.{below_more, below_past, below_all}
use Rattle.pix_table.proofs.Writes.{looked_more}
use Rattle.pix_palette.proofs.palette.mapped.look_up_pixels.Goals as goal

pub returns-then-index-entries-clause-inside : goal.returns-then-index-entries-clause-inside
returns-then-index-entries-clause-inside g c =
    let at : c.to_index-index.result ≡ get_or (values g.P.Pixel.numbers c.args.indices.now) c.loop-i.i 0 =
    c.to_index-index.ensures ∙ value_at g.P.Pixel.numbers c.args.indices.now c.loop-i.i c.index-indices-i.result (omega arith) c.index-indices-i.is in
    below_past _ (values g.P.Pixel.numbers c.args.indices.now) c.loop-i.i (omega (arith, many_values g.P.Pixel.numbers c.args.indices.now)) (omega (arith, at))
    c.loop-i.invariant.below

pub loop-i-preserved : goal.loop-i-preserved
loop-i-preserved g c =
    let at : c.to_index-index.result ≡ get_or (values g.P.Pixel.numbers c.args.indices.now) c.loop-i.i 0 =
    c.to_index-index.ensures ∙ value_at g.P.Pixel.numbers c.args.indices.now c.loop-i.i c.index-indices-i.result (omega arith) c.index-indices-i.is in
    record {
      below = below_more _ (values g.P.Pixel.numbers c.args.indices.now) c.loop-i.i (omega (arith, many_values g.P.Pixel.numbers c.args.indices.now)) (omega (arith, at))
          c.loop-i.invariant.below;
      found = looked_more c.args.entries.now c.loop-i.pixels (λ j. get_or (values g.P.Pixel.numbers c.args.indices.now) j 0) c.loop-i.i c.index-entries-index.result
          (omega arith) (omega (arith, at))
          (c.index-entries-index.is ∙ ap (λ k. get_or c.args.entries.now k c.index-entries-index.result) at) c.loop-i.invariant.found;
    }

pub returns-clause-inside : goal.returns-clause-inside
returns-clause-inside g c =
    below_all _ (values g.P.Pixel.numbers c.args.indices.now) c.loop-i.i (omega (arith, many_values g.P.Pixel.numbers c.args.indices.now)) c.loop-i.invariant.below
