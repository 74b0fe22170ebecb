-- Of `sum_groups`: the sums are those of no items at first, and of one item more after each turn.
use Rattle.std.proofs.Common.{◌≡◌, ◌+◌, length, map, replicate, get_or, arith, sym, ap, ◌∙◌, subst}
use Rattle.std.proofs.lemmas.List.{get_or_default, length-map}
use Rattle.pix_table.specs.matching.Nearest.{IsNearestBy}
use Rattle.pix_table.specs.SeenPixels.{seen_distance, seen_numbers}
use Rattle.pix_table.specs.quantization.SeenGroups.{AreSeenItemGroups}
use Rattle.pix_table.specs.declared.rgba.sums.SeenSums.{SeenSums}
use Rattle.pix_table.proofs.lemmas.quantization.SeenItemGroups.{groups_of_items, grouped_more, grouped_none, grouped_same, item_seen, sums_open, times_few}
use Rattle.pix_table.proofs.rgba.refine.sum_groups.Goals as goal
use Rattle.pix_table.proofs.rgba.refine.sum_groups.Goals.{then-count-gt0, else-count-gt0}

abbrev nothing : SeenSums
nothing = record { count = 0; red = 0; green = 0; blue = 0; alpha = 0 }

pub loop-k-init : goal.loop-k-init
loop-k-init c =
    let all : c.fill.new.self ≡ replicate (length c.args.sums.now) c.none.result = c.fill.ensures.after (λ y is. is) in
    let e = c.none.ensures in
    subst (AreSeenItemGroups (map seen_numbers c.args.entries.now) (map seen_numbers c.args.colors.now) c.args.items.pairs 0) (sym all)
    (grouped_none (map seen_numbers c.args.entries.now) (map seen_numbers c.args.colors.now) c.args.items.pairs (length c.args.sums.now) c.none.result
    (omega (arith, c.requires.many, length-map c.args.entries.now seen_numbers)) e.count e.red e.green e.blue e.alpha)

pub returns : goal.returns
returns c = λ all are seen.
    let last : c.loop-k.k ≡ c.args.items.pairs + c.args.items.singles = omega arith in
    groups_of_items (map seen_numbers c.args.entries.now) all (map seen_numbers c.args.colors.now) c.args.items.pairs c.args.items.singles c.loop-k.sums are seen
    (subst (λ n. AreSeenItemGroups (map seen_numbers c.args.entries.now) (map seen_numbers c.args.colors.now) c.args.items.pairs n c.loop-k.sums) last
    c.loop-k.invariant)

-- the color of an item that counts is seen
pub nearest_by_cell-near-requires-clause-seen : goal.nearest_by_cell-near-requires-clause-seen
nearest_by_cell-near-requires-clause-seen c =
    let all = c.requires.colors in
    item_seen all.0 (map seen_numbers c.args.colors.now) c.args.items.pairs c.args.items.singles c.loop-k.k c.item-count.result.1 c.item-count.result.0 all.1 all.2
    (omega (arith, c.loop-k-test.true)) (sym c.item-count.ensures.count) (omega (arith, c.if-count-gt0.true)) (sym c.item-count.ensures.color)

pub and-requires-clause-count : goal.and-requires-clause-count
and-requires-clause-count c =
    let near : IsNearestBy seen_distance (map seen_numbers c.args.entries.now) (seen_numbers c.item-count.result.0) c.nearest_by_cell-near.result =
    c.nearest_by_cell-near.ensures (map seen_numbers c.args.entries.now) c.of-lanes.ensures in
    let known = sums_open (map seen_numbers c.args.entries.now) (map seen_numbers c.args.colors.now) c.args.items.pairs c.loop-k.k
    (c.args.items.pairs + c.args.items.singles) c.item-count.result.1 c.from-entry.result 18446744073709551616 c.loop-k.sums nothing
    (omega (arith, near.stands, c.from-entry.ensures)) (omega (arith, c.loop-k-test.true)) (sym c.item-count.ensures.count) c.requires.count c.loop-k.invariant in
    omega (arith, known.1, c.of_times.ensures.count)

pub and-requires-clause-few : goal.and-requires-clause-few
and-requires-clause-few c =
    let near : IsNearestBy seen_distance (map seen_numbers c.args.entries.now) (seen_numbers c.item-count.result.0) c.nearest_by_cell-near.result =
    c.nearest_by_cell-near.ensures (map seen_numbers c.args.entries.now) c.of-lanes.ensures in
    (sums_open (map seen_numbers c.args.entries.now) (map seen_numbers c.args.colors.now) c.args.items.pairs c.loop-k.k
    (c.args.items.pairs + c.args.items.singles) c.item-count.result.1 c.from-entry.result 18446744073709551616 c.loop-k.sums nothing
    (omega (arith, near.stands, c.from-entry.ensures)) (omega (arith, c.loop-k-test.true)) (sym c.item-count.ensures.count) c.requires.count c.loop-k.invariant).0

pub and-requires-clause-more : goal.and-requires-clause-more
and-requires-clause-more c =
    let all = c.requires.colors in
    let e = c.of_times.ensures in
    times_few c.item-count.result.1 c.item-count.result.0 c.of_times.result
    (item_seen all.0 (map seen_numbers c.args.colors.now) c.args.items.pairs c.args.items.singles c.loop-k.k c.item-count.result.1 c.item-count.result.0 all.1 all.2
    (omega (arith, c.loop-k-test.true)) (sym c.item-count.ensures.count) (omega (arith, c.if-count-gt0.true)) (sym c.item-count.ensures.color))
    e.count e.red e.green e.blue e.alpha

pub loop-k-preserved : goal.loop-k-preserved
loop-k-preserved c =
    let entries = map seen_numbers c.args.entries.now in
    let items = map seen_numbers c.args.colors.now in
    let all = c.requires.colors in
    elim c.if-count-gt0.branch [
      | then-count-gt0 w ↦
          let old : SeenSums = get_or c.loop-k.sums w.from-entry.result nothing in
          let e = w.of_times.ensures in
          let a = w.and.ensures in
          let near : IsNearestBy seen_distance (map seen_numbers c.args.entries.now) (seen_numbers c.item-count.result.0) w.from-entry.result =
          subst (IsNearestBy seen_distance entries (seen_numbers c.item-count.result.0)) (sym w.from-entry.ensures) (w.nearest_by_cell-near.ensures entries c.of-lanes.ensures) in
          rw w.sums-is
          (grouped_more entries items c.args.items.pairs c.loop-k.k c.item-count.result.1 w.from-entry.result c.loop-k.sums c.item-count.result.0 old w.and.result
          (sym c.item-count.ensures.count) (sym c.item-count.ensures.color)
          (item_seen all.0 items c.args.items.pairs c.args.items.singles c.loop-k.k c.item-count.result.1 c.item-count.result.0 all.1 all.2
          (omega (arith, c.loop-k-test.true)) (sym c.item-count.ensures.count) (omega (arith, w.if-count-gt0.true)) (sym c.item-count.ensures.color))
          near (get_or_default c.loop-k.sums w.from-entry.result nothing old (omega (arith, near.stands, c.loop-k.invariant.many)))
          (a.count ∙ ap (λ m. old.count + m) e.count) (a.red ∙ ap (λ m. old.red + m) e.red) (a.green ∙ ap (λ m. old.green + m) e.green)
          (a.blue ∙ ap (λ m. old.blue + m) e.blue) (a.alpha ∙ ap (λ m. old.alpha + m) e.alpha) c.loop-k.invariant)
      | else-count-gt0 w ↦
          rw w.sums-is
          (grouped_same entries items c.args.items.pairs c.loop-k.k c.loop-k.sums
          (sym c.item-count.ensures.count ∙ (let none : c.item-count.result.1 ≡ 0 = omega (arith, w.if-count-gt0.false) in none)) c.loop-k.invariant)
    ]
