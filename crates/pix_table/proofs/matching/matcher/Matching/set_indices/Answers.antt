-- Of `set_indices` of `Matching`: that the invariant of its loop over `i` holds after each turn, and that
-- all pixels are matched.
use Rattle.std.proofs.Common.{◌≡◌, ◌∙◌, [], map, get_or, sym, ap, subst, arith}
use Rattle.std.proofs.lemmas.List.{length-map, get_or-map}
use Rattle.pix_table.specs.matching.Nearest.{IsMatched, numbers}
use Rattle.pix_table.proofs.lemmas.matching.FoundColors.{answered_first}
use Rattle.pix_table.proofs.Writes.{set_more}
use Rattle.pix_table.proofs.matching.matcher.Matching.set_indices.Goals as goal

pub loop-i-init : goal.loop-i-init
loop-i-init g c = record {
  matched = λ entries finds k below. absurd (omega arith);
  same = λ entries finds. c.nearest_entry-index.ensures.same entries finds;
  answers = λ entries finds.
      answered_first entries g.row.COUNT c.word_of-answers.result c.nearest_entry-index.result (numbers c.default-black.result) c.word_of-answers.ensures.color c.word_of-answers.ensures.index
      (c.nearest_entry-index.ensures.nearest entries finds);
}

pub loop-i-preserved : goal.loop-i-preserved
loop-i-preserved g c =
    let m = c.args.self.now in
    let values = g.P.TablePixel.values in
    let pixels = c.args.self.now.pixels.now in
    let item = c.index-pixels-i.result in
    let pixel : values c.index-pixels-i.result ≡ get_or (map values pixels) c.loop-i.i [] =
    ap values c.index-pixels-i.is ∙ sym (get_or-map values pixels c.loop-i.i item [] (omega (arith, c.requires.many))) in
    record {
      matched = λ entries finds.
          set_more (λ k i. IsMatched entries m.alpha m.transparent_index (get_or (map values pixels) k []) i) c.loop-i.indices c.loop-i.i c.matched.result (omega arith)
          (c.loop-i.invariant.matched entries finds)
          (subst (λ p. IsMatched entries m.alpha m.transparent_index p c.matched.result) pixel (c.matched.ensures.matched entries (c.loop-i.invariant.same entries finds) (c.loop-i.invariant.answers entries finds)));
      same = λ entries finds. c.matched.ensures.same entries (c.loop-i.invariant.same entries finds);
      answers = λ entries finds. c.matched.ensures.answers entries (c.loop-i.invariant.same entries finds) (c.loop-i.invariant.answers entries finds);
    }

pub returns : goal.returns
returns g c = λ entries finds.
    let values = g.P.TablePixel.values in
    let pixels = c.args.self.now.pixels.now in
    record {
      many = omega (arith, c.requires.many, length-map pixels values);
      each = λ k below. c.loop-i.invariant.matched entries finds k (omega (arith, c.requires.many, length-map pixels values));
    }
