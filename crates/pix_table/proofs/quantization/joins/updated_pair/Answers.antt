-- Of `updated_pair`: that two boxes may be joined, and that the pair is that of the boxes as they are now.
use Rattle.std.proofs.Common.{◌≡◌, ◌+◌, ◌-◌, ◌<◌, ℕ, ltb, inl, inr, arith, ap, ◌∙◌, lt-ltb, le-ltb}
use Rattle.std.proofs.lemmas.Bool.{cases_lt}
use mir.Val.{bool_byte}
use Rattle.pix_table.specs.quantization.ColorGroups.{IsGroup}
use Rattle.pix_table.specs.quantization.Pairs.{skip}
use Rattle.pix_table.proofs.lemmas.quantization.PairLemmas.{group_is, may_join, pair_found, pair_kept, skip_above, skip_below}
use Rattle.pix_table.proofs.quantization.joins.updated_pair.Goals as goal

pub earlier-requires : goal.earlier-requires
earlier-requires g c =
    may_join (IsGroup g.S.BoxSums.are g.S.BoxSums.weigh) c.requires.boxes.1 c.args.groups.now c.args.count c.args.k c.args.i c.index-groups-k.result c.index-groups-i.result
    c.requires.boxes.3 c.requires.boxes.4 (omega (arith, c.if-k-i.false, c.if-i-k.false))
    (omega (arith, c.requires.boxes.2.order, c.requires.boxes.2.within, c.requires.boxes.2.many, c.requires.boxes.3.many)) c.index-groups-k.is
    c.index-groups-i.is

-- the place of the later box, after one was taken away
place_is : (j with less : ℕ) → less ≡ bool_byte (ltb j with) → (with ≡ j → ⊥) → skip j (with - less) ≡ with
place_is j with less e apart = elim (cases_lt j with) [
  | inl b ↦
      let one : less ≡ 1 = e ∙ ap bool_byte (lt-ltb j with b) in
      skip_above j (with - less) (omega (arith, one, b)) ∙ (let z : with - less + 1 ≡ with = omega (arith, one, b) in z)
  | inr b ↦
      let none : less ≡ 0 = e ∙ ap bool_byte (le-ltb j with b) in
      skip_below j (with - less) (omega (arith, none, b, apart)) ∙ (let z : with - less ≡ with = omega (arith, none) in z)
]

pub returns : goal.returns
returns g c = λ old new joined groups pair.
    let order : c.args.k < c.args.i = omega (arith, c.if-k-i.false, c.if-i-k.false) in
    let inside : c.args.i < c.args.count = omega (arith, joined.order, joined.within, joined.many, groups.many) in
    pair_found g.S.BoxSums.weigh old new c.args.i c.args.j c.args.k c.args.pair.cost c.args.pair.with (c.args.pair.with - c.from.result) joined c.if-k-i.false pair
    (place_is c.args.j c.args.pair.with c.from.result c.from.ensures c.if-pair-j.false) c.if-pair-i.false c.earlier.result order
    (c.earlier.ensures _ _
    (group_is (IsGroup g.S.BoxSums.are g.S.BoxSums.weigh) new c.args.groups.now c.args.count c.args.k c.index-groups-k.result groups (omega (arith, order, inside)) c.index-groups-k.is)
    (group_is (IsGroup g.S.BoxSums.are g.S.BoxSums.weigh) new c.args.groups.now c.args.count c.args.i c.index-groups-i.result groups inside c.index-groups-i.is))

pub returns-then-i-k : goal.returns-then-i-k
returns-then-i-k g c = λ old new joined groups pair.
    pair_kept g.S.BoxSums.weigh old new c.args.i c.args.j c.args.k c.args.pair.cost c.args.pair.with (c.args.pair.with - c.from.result) joined c.if-k-i.false pair
    (place_is c.args.j c.args.pair.with c.from.result c.from.ensures c.if-pair-j.false) c.if-pair-i.false c.if-i-k.true
