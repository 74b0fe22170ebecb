-- Of `visit` of `Mapping`: that the invariant of its loop over `i` holds at first and stays, and
-- that all pixels have their indices.
use Rattle.std.proofs.Common.{◌≡◌, ◌<◌, ℕ, List, [], length, get_or, refl, ◌∙◌, sym, subst, arith}
use Rattle.std.proofs.lemmas.List.{get_or_default}
use Rattle.pix_table.specs.matching.Nearest.{IsNearest}
use Rattle.pix_palette.specs.Indexing.{colors_of}
use Rattle.pix_palette.proofs.IndexingSets.{color_at, each_value_more, gray_more, all_gray}
use Rattle.pix_palette.proofs.palette.mapped.MappingSearchVisitor.visit.Goals as goal

-- the nearest entry of a color that was read
read_nearest : (entries : List (List ℕ)) (color color' : List ℕ) (i i' : ℕ) → color' ≡ color → i' ≡ i → IsNearest entries color' i → IsNearest entries color i'
read_nearest entries color color' i i' f h near = subst (λ c. IsNearest entries c i') f (subst (IsNearest entries color') (sym h) near)

pub loop-i-preserved : goal.loop-i-preserved
loop-i-preserved g c =
    let pixels = c.args.self.now.pixels.now in
    let below : c.loop-i.i < length pixels = omega (arith, c.requires.2.0) in
    let item = get_or pixels c.loop-i.i c.index-self-i.result in
    let pixel = color_at g.S.Pixel.format g.S.Gamma.Gamma-2.mode g.S.Pixel.numbers pixels c.loop-i.i item _ below
    (get_or_default pixels c.loop-i.i c.index-self-i.result item below) c.convert-clr.ensures in
    record {
      nearest = λ entries finds. each_value_more g.P.Pixel.numbers
          (λ k n. IsNearest entries (get_or (colors_of g.S.Pixel.format g.S.Gamma.Gamma-2.mode g.S.Pixel.numbers pixels) k []) n)
          c.loop-i.items c.loop-i.i c.of_index.result c.from.result (omega arith) c.of_index.ensures
          (λ k below. c.loop-i.invariant.nearest entries finds k below)
          (read_nearest entries _ _ _ _ (c.color.ensures ∙ pixel) c.from.ensures (c.nearest_entry-index.ensures.nearest entries (c.loop-i.invariant.same entries finds)));
      gray = gray_more g.P.Pixel.numbers c.loop-i.items c.loop-i.i c.of_index.result c.from.result (omega arith) c.of_index.ensures c.loop-i.invariant.gray;
      same = λ entries finds. c.nearest_entry-index.ensures.same entries (c.loop-i.invariant.same entries finds);
    }

pub returns : goal.returns
returns g c = λ entries finds. (
  λ k below. c.loop-i.invariant.nearest entries finds k (omega (arith, c.requires.2.0)),
  all_gray g.P.Pixel.numbers c.loop-i.items c.loop-i.i (omega arith) c.loop-i.invariant.gray,
)
