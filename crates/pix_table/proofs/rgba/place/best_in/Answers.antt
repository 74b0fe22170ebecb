-- Of `best_in`: that the sums are few, that the invariant of its loop over `value` holds, and its clause at each return.
use Rattle.std.proofs.Common.{◌≡◌, ◌+◌, ◌∙◌, ℕ, List, arith, sym, map}
use Rattle.pix_table.specs.quantization.BestPlaces.{is_below}
use Rattle.pix_table.specs.quantization.SeenCut.{seen_weight}
use Rattle.pix_table.specs.quantization.SeenSums.{AreSeenSums, IsSummed, seen_gain_at}
use Rattle.pix_table.proofs.lemmas.quantization.PlacesBy.{done_by}
use Rattle.pix_table.proofs.lemmas.quantization.PlaceSteps.{begun_by, past_all, bytes_past}
use Rattle.pix_table.proofs.lemmas.quantization.SeenSumLemmas.{all_bytes, are_few, are_part, below_more, below_none, can_cut, same_below, some_others, value_sums, whole_count}
use Rattle.pix_table.proofs.lemmas.quantization.SumLemmas.{length_sum, sum_le, sum_next}
use Rattle.pix_table.proofs.lemmas.quantization.SeenWeights.{gain_same, passed_by, whole_weight}
use Rattle.pix_table.proofs.rgba.place.best_in.Goals as goal

pub weight-whole-requires-clause-some : goal.weight-whole-requires-clause-some
weight-whole-requires-clause-some g c =
    let is = c.requires.before.1 in
    omega (arith, whole_count c.requires.before.0 c.args.all is.whole, is.some)

pub weight-whole-requires-clause-few : goal.weight-whole-requires-clause-few
weight-whole-requires-clause-few g c =
    let is = c.requires.before.1 in
    are_few _ _ _ is.seen is.whole

pub loop-value-init : goal.loop-value-init
loop-value-init g c =
    let e = c.none-low.ensures in
    record {
      low = λ box is. below_none c.args.k box c.none-low.result e.count e.red e.green e.blue e.alpha;
      best = λ box is before. begun_by 4 seen_gain_at box c.args.k c.args.best before;
    }

pub loop-value-preserved-then-part-eq0 : goal.loop-value-preserved-then-part-eq0
loop-value-preserved-then-part-eq0 g c =
    let v = c.loop-value.value in
    let next : (box : List (List ℕ)) → IsSummed c.args.k box (map g.S.PartSums.whole c.args.parts.now) c.args.all
    → AreSeenSums (is_below c.args.k (c.loop-value.value + 1)) box c.loop-value.low =
    λ box is. same_below c.args.k v box c.loop-value.low _ is.seen (c.loop-value.invariant.low box is)
    (value_sums g.S.PartSums.whole c.args.k v c.from.result box c.args.parts.now c.index-parts-from.result c.sums-part.result is.values c.from.ensures (omega arith) c.index-parts-from.is c.sums-part.ensures) c.if-part-eq0.true in
    record {
      low = next;
      best = λ box is before. passed_by c.args.k v box c.loop-value.low c.args.all c.loop-value.best is.whole (c.loop-value.invariant.low box is)
          (next box is) (c.loop-value.invariant.best box is before);
    }

pub and-low-requires-clause-count : goal.and-low-requires-clause-count
and-low-requires-clause-count g c =
    let box = c.requires.before.0 in
    let is = c.requires.before.1 in
    omega (
      arith,
      (c.loop-value.invariant.low box is).count,
      (value_sums g.S.PartSums.whole c.args.k c.loop-value.value c.from.result box c.args.parts.now c.index-parts-from.result c.sums-part.result is.values c.from.ensures (omega arith) c.index-parts-from.is c.sums-part.ensures).count,
      sum_next c.args.k c.loop-value.value (λ x. 1) box,
      sum_le (is_below c.args.k (c.loop-value.value + 1)) (λ x. 1) box,
      length_sum box,
      is.few,
    )

pub and-low-requires-clause-few : goal.and-low-requires-clause-few
and-low-requires-clause-few g c =
    let is = c.requires.before.1 in
    are_few _ _ _ is.seen (c.loop-value.invariant.low c.requires.before.0 is)

pub and-low-requires-clause-more : goal.and-low-requires-clause-more
and-low-requires-clause-more g c =
    let is = c.requires.before.1 in
    are_few _ _ _ is.seen (value_sums g.S.PartSums.whole c.args.k c.loop-value.value c.from.result c.requires.before.0 c.args.parts.now c.index-parts-from.result c.sums-part.result is.values c.from.ensures (omega arith) c.index-parts-from.is c.sums-part.ensures)

pub returns-then-low-all : goal.returns-then-low-all
returns-then-low-all g c = λ box is before.
    let e = c.and-low.ensures in
    let low = below_more c.args.k c.loop-value.value box c.loop-value.low c.sums-part.result c.and-low.result (c.loop-value.invariant.low box is)
    (value_sums g.S.PartSums.whole c.args.k c.loop-value.value c.from.result box c.args.parts.now c.index-parts-from.result c.sums-part.result is.values c.from.ensures (omega arith) c.index-parts-from.is c.sums-part.ensures)
    e.count e.red e.green e.blue e.alpha in
    done_by 4 seen_gain_at box c.args.k (c.loop-value.value + 1) c.loop-value.best (c.loop-value.invariant.best box is before)
    (past_all box c.args.k (c.loop-value.value + 1)
    (omega (arith, low.count, whole_count box c.args.all is.whole, c.if-low-all.true)))

pub better_at-best-requires : goal.better_at-best-requires
better_at-best-requires g c =
    let box = c.requires.before.0 in
    let is = c.requires.before.1 in
    let e = c.and-low.ensures in
    let low = below_more c.args.k c.loop-value.value box c.loop-value.low c.sums-part.result c.and-low.result (c.loop-value.invariant.low box is)
    (value_sums g.S.PartSums.whole c.args.k c.loop-value.value c.from.result box c.args.parts.now c.index-parts-from.result c.sums-part.result is.values c.from.ensures (omega arith) c.index-parts-from.is c.sums-part.ensures)
    e.count e.red e.green e.blue e.alpha in
    are_part _ box c.and-low.result c.args.all is.seen low is.whole
    (omega (arith, c.and-low.ensures.count, c.if-part-eq0.false)) (some_others _ box c.and-low.result c.args.all low is.whole c.if-low-all.false)

pub loop-value-preserved : goal.loop-value-preserved
loop-value-preserved g c =
    let v = c.loop-value.value + 1 in
    let e = c.and-low.ensures in
    let next : (box : List (List ℕ)) → IsSummed c.args.k box (map g.S.PartSums.whole c.args.parts.now) c.args.all
    → AreSeenSums (is_below c.args.k (c.loop-value.value + 1)) box c.and-low.result =
    λ box is. below_more c.args.k c.loop-value.value box c.loop-value.low c.sums-part.result c.and-low.result (c.loop-value.invariant.low box is)
    (value_sums g.S.PartSums.whole c.args.k c.loop-value.value c.from.result box c.args.parts.now c.index-parts-from.result c.sums-part.result is.values c.from.ensures (omega arith) c.index-parts-from.is c.sums-part.ensures)
    e.count e.red e.green e.blue e.alpha in
    record {
      low = next;
      best = λ box is before.
          let low = next box is in
          let can = can_cut c.args.k v box c.and-low.result c.args.all c.requires.channel low is.whole
          (omega (arith, c.and-low.ensures.count, c.if-part-eq0.false)) c.if-low-all.false in
          let whole : c.weight-whole.result ≡ seen_weight box =
          c.weight-whole.ensures.weight ∙ whole_weight box c.args.all is.seen is.whole in
          c.better_at-best.ensures box (c.loop-value.invariant.best box is before) can
          (sym (gain_same c.args.k v box c.and-low.result c.args.all c.weight-whole.result low is.whole whole));
    }

pub returns : goal.returns
returns g c = λ box is before.
    done_by 4 seen_gain_at box c.args.k (c.loop-value.value + 1) c.loop-value.best (c.loop-value.invariant.best box is before)
    (bytes_past box c.args.k (c.loop-value.value + 1) (all_bytes box is.seen) (omega arith))
