-- Of `count_shares`: the counts are those of no items at first, and of one item more after each turn.
use Rattle.std.proofs.Common.{◌≡◌, ◌+◌, length, map, replicate, get_or, arith, refl, sym, ◌∙◌, subst}
use Rattle.std.proofs.lemmas.List.{get_or_default, length-map}
use Rattle.pix_table.specs.matching.Nearest.{IsNearestBy}
use Rattle.pix_table.specs.SeenPixels.{seen_distance, seen_numbers}
use Rattle.pix_table.specs.quantization.SeenShares.{AreItemSharesOf}
use Rattle.pix_table.specs.declared.rgba.opaque.Share.{Share}
use Rattle.pix_table.proofs.lemmas.quantization.SeenItemGroups.{item_seen}
use Rattle.pix_table.proofs.lemmas.quantization.SeenShares.{shares_more, shares_none, shares_of_items, shares_open, shares_same}
use Rattle.pix_table.proofs.rgba.opaque.count_shares.Goals as goal
use Rattle.pix_table.proofs.rgba.opaque.count_shares.Goals.{then-count-gt0, else-count-gt0}

abbrev nothing : Share
nothing = record { all = 0; opaque = 0 }

pub loop-k-init : goal.loop-k-init
loop-k-init c =
    let all : c.fill.new.self ≡ replicate (length c.args.shares.now) nothing = c.fill.ensures.after (λ y is. is) in
    subst (AreItemSharesOf (map seen_numbers c.args.entries.now) (map seen_numbers c.args.colors.now) c.args.items.pairs 0) (sym all)
    (shares_none (map seen_numbers c.args.entries.now) (map seen_numbers c.args.colors.now) c.args.items.pairs (length c.args.shares.now) nothing
    (omega (arith, c.requires.many, length-map c.args.entries.now seen_numbers)) refl refl)

pub returns : goal.returns
returns c = λ all are.
    let last : c.loop-k.k ≡ c.args.items.pairs + c.args.items.singles = omega arith in
    shares_of_items (map seen_numbers c.args.entries.now) all (map seen_numbers c.args.colors.now) c.args.items.pairs c.args.items.singles c.loop-k.shares are
    (subst (λ n. AreItemSharesOf (map seen_numbers c.args.entries.now) (map seen_numbers c.args.colors.now) c.args.items.pairs n c.loop-k.shares) last
    c.loop-k.invariant)

-- the color of an item that counts is seen
pub nearest_by_cell-near-requires-clause-seen : goal.nearest_by_cell-near-requires-clause-seen
nearest_by_cell-near-requires-clause-seen c =
    let all = c.requires.colors in
    item_seen all.0 (map seen_numbers c.args.colors.now) c.args.items.pairs c.args.items.singles c.loop-k.k c.item-count.result.1 c.item-count.result.0 all.1 all.2
    (omega (arith, c.loop-k-test.true)) (sym c.item-count.ensures.count) (omega (arith, c.if-count-gt0.true)) (sym c.item-count.ensures.color)

pub with-requires-clause-all : goal.with-requires-clause-all
with-requires-clause-all c =
    let near : IsNearestBy seen_distance (map seen_numbers c.args.entries.now) (seen_numbers c.item-count.result.0) c.nearest_by_cell-near.result =
    c.nearest_by_cell-near.ensures (map seen_numbers c.args.entries.now) c.of-lanes.ensures in
    let known = shares_open (map seen_numbers c.args.entries.now) (map seen_numbers c.args.colors.now) c.args.items.pairs c.loop-k.k
    (c.args.items.pairs + c.args.items.singles) c.item-count.result.1 c.from-entry.result 18446744073709551616 c.loop-k.shares nothing
    (omega (arith, near.stands, c.from-entry.ensures)) (omega (arith, c.loop-k-test.true)) (sym c.item-count.ensures.count) c.requires.count c.loop-k.invariant in
    known.1

pub with-requires-clause-opaque : goal.with-requires-clause-opaque
with-requires-clause-opaque c =
    let near : IsNearestBy seen_distance (map seen_numbers c.args.entries.now) (seen_numbers c.item-count.result.0) c.nearest_by_cell-near.result =
    c.nearest_by_cell-near.ensures (map seen_numbers c.args.entries.now) c.of-lanes.ensures in
    let known = shares_open (map seen_numbers c.args.entries.now) (map seen_numbers c.args.colors.now) c.args.items.pairs c.loop-k.k
    (c.args.items.pairs + c.args.items.singles) c.item-count.result.1 c.from-entry.result 18446744073709551616 c.loop-k.shares nothing
    (omega (arith, near.stands, c.from-entry.ensures)) (omega (arith, c.loop-k-test.true)) (sym c.item-count.ensures.count) c.requires.count c.loop-k.invariant in
    known.0

pub loop-k-preserved : goal.loop-k-preserved
loop-k-preserved c =
    let entries = map seen_numbers c.args.entries.now in
    let items = map seen_numbers c.args.colors.now in
    elim c.if-count-gt0.branch [
      | then-count-gt0 w ↦
          let old : Share = get_or c.loop-k.shares w.from-entry.result nothing in
          let e = w.with.ensures in
          let near : IsNearestBy seen_distance (map seen_numbers c.args.entries.now) (seen_numbers c.item-count.result.0) w.from-entry.result =
          subst (IsNearestBy seen_distance entries (seen_numbers c.item-count.result.0)) (sym w.from-entry.ensures) (w.nearest_by_cell-near.ensures entries c.of-lanes.ensures) in
          rw w.shares-is
          (shares_more entries items c.args.items.pairs c.loop-k.k c.item-count.result.1 w.from-entry.result c.loop-k.shares (seen_numbers c.item-count.result.0)
          old w.with.result (sym c.item-count.ensures.count) (sym c.item-count.ensures.color) near
          (get_or_default c.loop-k.shares w.from-entry.result nothing old (omega (arith, near.stands, c.loop-k.invariant.many)))
          e.all e.opaque c.loop-k.invariant)
      | else-count-gt0 w ↦
          rw w.shares-is
          (shares_same entries items c.args.items.pairs c.loop-k.k c.loop-k.shares
          (sym c.item-count.ensures.count ∙ (let none : c.item-count.result.1 ≡ 0 = omega (arith, w.if-count-gt0.false) in none)) c.loop-k.invariant)
    ]
