-- Of `best_in`: that the sums are few, that the invariant of its loop over `value` holds, and its clause at each return.
use Rattle.std.proofs.Common.{◌≡◌, ◌+◌, ◌*◌, ◌≤◌, ℕ, List, ◌∙◌, arith, sym}
use Rattle.pix_table.specs.quantization.Places.{weight}
use Rattle.pix_table.specs.quantization.BestPlaces.{AreSums, HasSums, gain_at, is_below}
use Rattle.pix_table.proofs.lemmas.quantization.SumLemmas.{length_sum, sum_le, sum_next}
use Rattle.pix_table.proofs.lemmas.quantization.BoxSumLemmas.{below_first, below_next, part_at, are_few, are_part, both_few, gain_same, whole_count, whole_weight}
use Rattle.pix_table.proofs.lemmas.quantization.PlaceLemmas.{channel_done}
use Rattle.pix_table.proofs.lemmas.quantization.PlaceSteps.{begun_at, full_past, bytes_past, same_below, passed_by, can_cut, some_others}
use Rattle.pix_table.proofs.quantization.place.best_in.Goals as goal
use Rattle.pix_table.proofs.quantization.place.best_in.Given.{Over}
use Rattle.pix_table.proofs.quantization.place.best_in.Goals.{Else-part-eq0}

pub weight-whole-requires-clause-some : goal.weight-whole-requires-clause-some
weight-whole-requires-clause-some g c =
    let h = c.requires.sums.1 in omega (arith, h.some, whole_count c.requires.sums.0 c.args.all h.whole)

pub weight-whole-requires-clause-red : goal.weight-whole-requires-clause-red
weight-whole-requires-clause-red g c = let h = c.requires.sums.1 in (are_few _ _ _ h.bytes h.whole).0

pub weight-whole-requires-clause-green : goal.weight-whole-requires-clause-green
weight-whole-requires-clause-green g c = let h = c.requires.sums.1 in (are_few _ _ _ h.bytes h.whole).1

pub weight-whole-requires-clause-blue : goal.weight-whole-requires-clause-blue
weight-whole-requires-clause-blue g c = let h = c.requires.sums.1 in (are_few _ _ _ h.bytes h.whole).2

pub loop-value-init : goal.loop-value-init
loop-value-init g c =
    let e = c.none-low.ensures in
    record {
      low = λ box h. below_first c.args.k c.args.first box c.none-low.result h.least e.count e.red e.green e.blue;
      best = λ box h before. begun_at 3 gain_at box c.args.k c.args.first c.args.first c.args.best h.least (omega arith) before;
    }

pub loop-value-preserved-then-part-eq0 : goal.loop-value-preserved-then-part-eq0
loop-value-preserved-then-part-eq0 g c =
    let v = c.loop-value.value in
    let low : (box : List (List ℕ)) → HasSums g.P.ByValue.sums c.args.parts.now c.args.k c.args.first c.args.all box
    → AreSums (is_below c.args.k (c.loop-value.value + 1)) box c.loop-value.low =
    (λ box h. same_below c.args.k v box c.loop-value.low _ h.bytes (c.loop-value.invariant.low box h)
    (part_at c.args.k v c.from.result box c.at-part.result (c.at-part.ensures box h.each) c.from.ensures) c.if-part-eq0.true) in
    record {
      low = low;
      best = λ box h before. passed_by c.args.k v box c.loop-value.low c.args.all c.loop-value.best h.whole (c.loop-value.invariant.low box h)
          (low box h) (c.loop-value.invariant.best box h before);
    }

few : (g : Over) (c : Else-part-eq0 g)
    → let s = c.loop-value.low in
    let p = c.at-part.result in
    (s.red + p.red ≤ 255 * (s.count + p.count)) × (s.green + p.green ≤ 255 * (s.count + p.count)) × (s.blue + p.blue ≤ 255 * (s.count + p.count))
few g c =
    let box = c.requires.sums.0 in
    let h = c.requires.sums.1 in
    both_few _ _ box box c.loop-value.low _ h.bytes h.bytes (c.loop-value.invariant.low box h) (c.at-part.ensures box h.each)

pub and-low-requires-clause-few : goal.and-low-requires-clause-few
and-low-requires-clause-few g c =
    let box = c.requires.sums.0 in
    let h = c.requires.sums.1 in
    let k = c.args.k in
    let v = c.loop-value.value in
    omega (
      arith,
      (c.loop-value.invariant.low box h).count,
      (part_at k v c.from.result box c.at-part.result (c.at-part.ensures box h.each) c.from.ensures).count,
      sum_next k v (λ x. 1) box,
      sum_le (is_below k (v + 1)) (λ x. 1) box,
      length_sum box,
      whole_count box c.args.all h.whole,
    )

pub and-low-requires-clause-red : goal.and-low-requires-clause-red
and-low-requires-clause-red g c = (few g c).0

pub and-low-requires-clause-green : goal.and-low-requires-clause-green
and-low-requires-clause-green g c = (few g c).1

pub and-low-requires-clause-blue : goal.and-low-requires-clause-blue
and-low-requires-clause-blue g c = (few g c).2

pub returns-then-low-all : goal.returns-then-low-all
returns-then-low-all g c = λ box h before.
    let e = c.and-low.ensures in
    let m = c.loop-value.value + 1 in
    let low = below_next c.args.k c.loop-value.value c.from.result box c.loop-value.low c.at-part.result c.and-low.result
    (c.at-part.ensures box h.each) c.from.ensures (c.loop-value.invariant.low box h) e.count e.red e.green e.blue in
    channel_done box c.args.k m c.loop-value.best (c.loop-value.invariant.best box h before)
    (full_past box c.args.k m c.and-low.result low (omega (arith, whole_count box c.args.all h.whole, c.if-low-all.true)))

pub better_at-best-requires-clause-sums : goal.better_at-best-requires-clause-sums
better_at-best-requires-clause-sums g c = let h = c.requires.sums.1 in (c.args.k, c.requires.sums.0, h.each, h.whole)

pub better_at-best-requires-clause-part : goal.better_at-best-requires-clause-part
better_at-best-requires-clause-part g c =
    let box = c.requires.sums.0 in
    let h = c.requires.sums.1 in
    let e = c.and-low.ensures in
    let low = below_next c.args.k c.loop-value.value c.from.result box c.loop-value.low c.at-part.result c.and-low.result
    (c.at-part.ensures box h.each) c.from.ensures (c.loop-value.invariant.low box h) e.count e.red e.green e.blue in
    are_part _ box c.and-low.result c.args.all h.bytes low h.whole (omega (arith, c.and-low.ensures.count, c.if-part-eq0.false))
    (some_others _ box c.and-low.result c.args.all low h.whole c.if-low-all.false)

pub better_at-best-requires-clause-whole : goal.better_at-best-requires-clause-whole
better_at-best-requires-clause-whole g c = c.weight-whole.ensures.few

pub loop-value-preserved : goal.loop-value-preserved
loop-value-preserved g c =
    let v = c.loop-value.value + 1 in
    let e = c.and-low.ensures in
    let low : (box : List (List ℕ)) → HasSums g.P.ByValue.sums c.args.parts.now c.args.k c.args.first c.args.all box
    → AreSums (is_below c.args.k (c.loop-value.value + 1)) box c.and-low.result =
    (λ box h. below_next c.args.k c.loop-value.value c.from.result box c.loop-value.low c.at-part.result c.and-low.result
    (c.at-part.ensures box h.each) c.from.ensures (c.loop-value.invariant.low box h) e.count e.red e.green e.blue) in
    record {
      low = low;
      best = λ box h before.
          let can = can_cut c.args.k v box c.and-low.result c.args.all c.requires.channel (low box h) h.whole
          (omega (arith, c.and-low.ensures.count, c.if-part-eq0.false)) c.if-low-all.false in
          let whole : c.weight-whole.result ≡ weight box = c.weight-whole.ensures.weight ∙ whole_weight box c.args.all h.whole in
          let gains = sym (gain_same c.args.k v box c.and-low.result c.args.all c.weight-whole.result (low box h) h.whole whole) in
          c.better_at-best.ensures box (c.loop-value.invariant.best box h before) can gains;
    }

pub returns : goal.returns
returns g c = λ box h before.
    let m = c.loop-value.value + 1 in
    channel_done box c.args.k m c.loop-value.best (c.loop-value.invariant.best box h before) (bytes_past box c.args.k m h.bytes (omega arith))
