-- Of `total`: that the sums are those of the colors below each value, and at the end of all.
use Rattle.std.proofs.Common.{◌≡◌, ◌+◌, ◌*◌, ◌≤◌, arith, subst, get_or}
use Rattle.pix_table.specs.quantization.BestPlaces.{AreSums, is_at, is_below}
use Rattle.pix_table.specs.declared.quantization.box_sums.Sums.{Sums}
use Rattle.pix_table.proofs.lemmas.quantization.SumLemmas.{length_sum, sum_le, sum_next}
use Rattle.pix_table.proofs.lemmas.quantization.BoxSumLemmas.{below_none, below_more, below_all, both_few}
use Rattle.pix_table.proofs.quantization.box_sums.total.Goals as goal

abbrev nothing : Sums
nothing = record { count = 0; red = 0; green = 0; blue = 0 }

pub loop-value-init : goal.loop-value-init
loop-value-init c =
    let e = c.none-sums.ensures in
    λ box h. below_none c.args.k box c.none-sums.result e.count e.red e.green e.blue

pub loop-value-preserved : goal.loop-value-preserved
loop-value-preserved c = λ box h.
    let v = c.loop-value.value in
    let e = c.and-sums.ensures in
    below_more c.args.k v box c.loop-value.sums (get_or c.args.parts.now v nothing) c.and-sums.result (c.loop-value.invariant box h)
    (h.each v nothing c.loop-value-test.true) e.count e.red e.green e.blue

pub returns : goal.returns
returns c = λ box h bytes.
    let e : c.loop-value.value ≡ 256 = omega arith in
    below_all c.args.k box c.loop-value.sums bytes
    (subst (λ v. AreSums (is_below c.args.k v) box c.loop-value.sums) e (c.loop-value.invariant box h))

few : (c : goal.After-and-arg-1)
    → let s = c.loop-value.sums in
    let p = get_or c.args.parts.now c.loop-value.value nothing in
    (s.red + p.red ≤ 255 * (s.count + p.count)) × (s.green + p.green ≤ 255 * (s.count + p.count)) × (s.blue + p.blue ≤ 255 * (s.count + p.count))
few c =
    let r = c.requires in
    let v = c.loop-value.value in
    both_few (is_below c.args.k v) (is_at c.args.k v) r.0 r.0 c.loop-value.sums (get_or c.args.parts.now v nothing) r.2 r.2
    (c.loop-value.invariant r.0 r.1) (r.1.each v nothing c.loop-value-test.true)

pub and-sums-requires-clause-few : goal.and-sums-requires-clause-few
and-sums-requires-clause-few c =
    let r = c.requires in
    let v = c.loop-value.value in
    omega (
      arith,
      (c.loop-value.invariant r.0 r.1).count,
      (r.1.each v nothing c.loop-value-test.true).count,
      sum_next c.args.k v (λ x. 1) r.0,
      sum_le (is_below c.args.k (v + 1)) (λ x. 1) r.0,
      length_sum r.0,
      r.3,
    )

pub and-sums-requires-clause-red : goal.and-sums-requires-clause-red
and-sums-requires-clause-red c = (few c).0

pub and-sums-requires-clause-green : goal.and-sums-requires-clause-green
and-sums-requires-clause-green c = (few c).1

pub and-sums-requires-clause-blue : goal.and-sums-requires-clause-blue
and-sums-requires-clause-blue c = (few c).2
