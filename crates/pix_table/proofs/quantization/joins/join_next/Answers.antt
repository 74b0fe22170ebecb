-- Of `join_next`: that the two boxes may be joined, and what is kept of the boxes then.
use Rattle.std.proofs.Common.{ℕ, get_or, arith}
use Rattle.pix_table.specs.quantization.ColorGroups.{IsGroup}
use Rattle.pix_table.specs.quantization.Pairs.{join_at}
use Rattle.pix_table.specs.declared.quantization.joins.Pair.{Pair}
use Rattle.pix_table.proofs.lemmas.quantization.PairLemmas.{groups_after, join_colors, join_is, may_join, next_in, pairs_without}
use Rattle.pix_table.proofs.quantization.joins.join_next.Goals as goal

abbrev first : Pair
first = record { cost = 0; with = 0 }

pub join-requires : goal.join-requires
join-requires g c =
    let h = c.requires.boxes in
    let found = c.next_pair-i.ensures in
    let pair = next_in g.S.BoxSums.weigh h.0 c.args.pairs.now c.next_pair-i.result c.args.count first c.requires.two c.requires.room h.1.many h.3 found.within
    found.least found.first in
    may_join (IsGroup g.S.BoxSums.are g.S.BoxSums.weigh) h.0 c.args.groups.now c.args.count c.next_pair-i.result (get_or c.args.pairs.now c.next_pair-i.result first).with
    c.index-groups-i.result c.index-groups-j.result h.1 h.2 pair.order (omega (arith, pair.within, h.1.many)) c.index-groups-i.is c.index-groups-j.is

pub update_pairs-requires-clause-boxes : goal.update_pairs-requires-clause-boxes
update_pairs-requires-clause-boxes g c =
    let h = c.requires.boxes in
    let i : ℕ = c.next_pair-i.result in
    let j : ℕ = (get_or c.args.pairs.now c.next_pair-i.result first).with in
    let found = c.next_pair-i.ensures in
    let pair = next_in g.S.BoxSums.weigh h.0 c.args.pairs.now i c.args.count first c.requires.two c.requires.room h.1.many h.3 found.within found.least
    found.first in (
      h.0,
      join_at h.0 i j,
      join_is h.0 i j pair.order pair.within,
      groups_after (IsGroup g.S.BoxSums.are g.S.BoxSums.weigh) g.S.BoxSums.weigh h.0 c.args.groups.now c.take_away.new.items i j c.args.count c.index-groups-i.result
          c.index-groups-j.result c.join.result pair h.1 c.index-groups-i.is c.index-groups-j.is c.join.ensures c.take_away.auto.items c.take_away.ensures,
      omega (arith, join_colors h.0 i j pair.order pair.within, h.2),
      pairs_without g.S.BoxSums.weigh h.0 c.args.pairs.now c.take_away-2.new.items j c.args.count h.1.many h.3 c.take_away-2.ensures,
    )

pub returns : goal.returns
returns g c = λ boxes are pairs.
    let i : ℕ = c.next_pair-i.result in
    let j : ℕ = (get_or c.args.pairs.now c.next_pair-i.result first).with in
    let found = c.next_pair-i.ensures in
    let pair = next_in g.S.BoxSums.weigh boxes c.args.pairs.now i c.args.count first c.requires.two c.requires.room are.many pairs found.within found.least
    found.first in
    let groups = groups_after (IsGroup g.S.BoxSums.are g.S.BoxSums.weigh) g.S.BoxSums.weigh boxes c.args.groups.now c.take_away.new.items i j c.args.count c.index-groups-i.result
    c.index-groups-j.result c.join.result pair are c.index-groups-i.is c.index-groups-j.is c.join.ensures c.take_away.auto.items c.take_away.ensures in (
      i,
      j,
      pair,
      groups,
      c.update_pairs.ensures boxes (join_at boxes i j) (join_is boxes i j pair.order pair.within) groups
          (pairs_without g.S.BoxSums.weigh boxes c.args.pairs.now c.take_away-2.new.items j c.args.count are.many pairs c.take_away-2.ensures),
    )
