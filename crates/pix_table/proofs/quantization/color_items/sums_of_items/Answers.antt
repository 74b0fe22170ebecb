-- Of `sums_of_items`: that the sums are those of no colors at first, and of one item more after each turn.
use Rattle.std.proofs.Common.{◌+◌, ◌*◌, ◌≤◌, ◌∙◌, true, All, arith, ap, refl, subst, sym, take}
use Rattle.std.proofs.lemmas.List.Elements.{All-nil}
use Rattle.pix_table.specs.matching.Nearest.{numbers}
use Rattle.pix_table.specs.quantization.BestPlaces.{AreBytes, AreSums}
use Rattle.pix_table.specs.quantization.Items.{pair_items, spread}
use Rattle.pix_table.proofs.lemmas.quantization.BoxSumLemmas.{whole_count}
use Rattle.pix_table.proofs.lemmas.quantization.ColorItems.{few_times, items_all, spread_bytes, spread_next, spread_room, sums_times}
use Rattle.pix_table.proofs.quantization.color_items.sums_of_items.Goals as goal

pub loop-i-init : goal.loop-i-init
loop-i-init c =
    let e = c.none-sums.ensures in
    record { sums = record { count = e.count; red = e.red; green = e.green; blue = e.blue }; bytes = All-nil AreBytes }

few : (c : goal.After-of_times)
    → let s = c.loop-i.sums in
    let t = c.of_times.result in
    (s.red + t.red ≤ 255 * (s.count + t.count)) × (s.green + t.green ≤ 255 * (s.count + t.count)) × (s.blue + t.blue ≤ 255 * (s.count + t.count))
few c =
    let h = c.loop-i.invariant in
    let x = c.item_at-count.result in
    let e = c.of_times.ensures in
    few_times (λ color. true) (spread 3 (take c.loop-i.i (pair_items numbers c.args.items.now))) x.1 x.0 c.loop-i.sums c.of_times.result h.bytes h.sums
    e.bytes e.count e.red e.green e.blue

pub and-sums-requires-clause-few : goal.and-sums-requires-clause-few
and-sums-requires-clause-few c =
    let x = c.item_at-count.result in
    omega (
      arith,
      c.requires,
      c.of_times.ensures.count,
      whole_count (spread 3 (take c.loop-i.i (pair_items numbers c.args.items.now))) c.loop-i.sums c.loop-i.invariant.sums,
      spread_room c.args.items.now c.loop-i.i x.1 x.0 c.loop-i-test.true c.item_at-count.ensures,
    )

pub and-sums-requires-clause-red : goal.and-sums-requires-clause-red
and-sums-requires-clause-red c = (few c).0

pub and-sums-requires-clause-green : goal.and-sums-requires-clause-green
and-sums-requires-clause-green c = (few c).1

pub and-sums-requires-clause-blue : goal.and-sums-requires-clause-blue
and-sums-requires-clause-blue c = (few c).2

pub loop-i-preserved : goal.loop-i-preserved
loop-i-preserved c =
    let h = c.loop-i.invariant in
    let x = c.item_at-count.result in
    let s = c.loop-i.sums in
    let e = c.and-sums.ensures in
    let t = c.of_times.ensures in
    let before = spread 3 (take c.loop-i.i (pair_items numbers c.args.items.now)) in
    record {
      sums = subst (λ l. AreSums (λ color. true) l c.and-sums.result)
          (sym (spread_next c.args.items.now c.loop-i.i x.1 x.0 c.loop-i-test.true c.item_at-count.ensures))
          (sums_times (λ color. true) before x.1 x.0 s c.and-sums.result refl h.sums (e.count ∙ ap (λ m. s.count + m) t.count)
          (e.red ∙ ap (λ m. s.red + m) t.red) (e.green ∙ ap (λ m. s.green + m) t.green) (e.blue ∙ ap (λ m. s.blue + m) t.blue));
      bytes = spread_bytes c.args.items.now c.loop-i.i x.1 x.0 c.loop-i-test.true c.item_at-count.ensures h.bytes t.bytes;
    }

pub returns : goal.returns
returns c =
    let h = c.loop-i.invariant in
    let all = ap (spread 3) (items_all c.args.items.now c.loop-i.i (omega arith)) in
    record {
      sums = subst (λ l. AreSums (λ color. true) l c.loop-i.sums) all h.sums;
      bytes = subst (All AreBytes) all h.bytes;
    }
