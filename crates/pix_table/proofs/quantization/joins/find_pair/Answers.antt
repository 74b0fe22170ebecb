-- Of `find_pair`: that two boxes may be joined, and that the best pair is kept.
use Rattle.std.proofs.Common.{◌+◌, refl, arith, sym}
use Rattle.pix_table.specs.quantization.ColorGroups.{IsGroup}
use Rattle.pix_table.specs.quantization.Joins.{cost_at}
use Rattle.pix_table.proofs.lemmas.quantization.PairLemmas.{begun, group_is, grown, may_join}
use Rattle.pix_table.proofs.quantization.joins.find_pair.Goals as goal

pub cost_of-requires : goal.cost_of-requires
cost_of-requires g c =
    may_join (IsGroup g.S.BoxSums.are g.S.BoxSums.weigh) c.requires.boxes.0 c.args.groups.now c.args.count c.args.k (c.args.k + 1) c.index-groups-k.result c.index-groups-k-2.result
    c.requires.boxes.1 c.requires.boxes.2 (omega arith) c.requires.later c.index-groups-k.is c.index-groups-k-2.is

pub loop-with-init : goal.loop-with-init
loop-with-init g c = λ boxes are.
    let first = group_is (IsGroup g.S.BoxSums.are g.S.BoxSums.weigh) boxes c.args.groups.now c.args.count c.args.k c.index-groups-k.result are (omega (arith, c.requires.later)) c.index-groups-k.is in
    let second = group_is (IsGroup g.S.BoxSums.are g.S.BoxSums.weigh) boxes c.args.groups.now c.args.count (c.args.k + 1) c.index-groups-k-2.result are c.requires.later c.index-groups-k-2.is in
    begun (cost_at g.S.BoxSums.weigh boxes c.args.k) c.args.k c.cost_of.result (c.args.k + 1) refl (sym (c.cost_of.ensures _ _ first second))

pub better-best-requires : goal.better-best-requires
better-best-requires g c =
    may_join (IsGroup g.S.BoxSums.are g.S.BoxSums.weigh) c.requires.boxes.0 c.args.groups.now c.args.count c.args.k c.loop-with.with c.index-groups-k.result c.index-groups-with.result
    c.requires.boxes.1 c.requires.boxes.2 (omega arith) (omega arith) c.index-groups-k.is c.index-groups-with.is

pub loop-with-preserved : goal.loop-with-preserved
loop-with-preserved g c = λ boxes are.
    let first = group_is (IsGroup g.S.BoxSums.are g.S.BoxSums.weigh) boxes c.args.groups.now c.args.count c.args.k c.index-groups-k.result are (omega (arith, c.requires.later)) c.index-groups-k.is in
    let second = group_is (IsGroup g.S.BoxSums.are g.S.BoxSums.weigh) boxes c.args.groups.now c.args.count c.loop-with.with c.index-groups-with.result are (omega arith) c.index-groups-with.is in
    grown (cost_at g.S.BoxSums.weigh boxes c.args.k) c.args.k c.loop-with.with c.loop-with.best c.better-best.result (c.loop-with.invariant boxes are)
    (c.better-best.ensures _ _ first second)
