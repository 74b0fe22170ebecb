-- Of `set_groups`: what is kept of one box more.
use Rattle.std.proofs.Common.{None, arith}
use Rattle.std.proofs.lemmas.List.Sums.{sum_by_more}
use Rattle.pix_table.specs.quantization.ColorGroups.{IsGroup}
use Rattle.pix_table.specs.quantization.Items.{spread, times_of}
use Rattle.pix_table.specs.declared.quantization.pieces.Piece.{Piece}
use Rattle.pix_table.proofs.lemmas.quantization.CutBoxes.{few_piece, fit_piece}
use Rattle.pix_table.proofs.lemmas.quantization.CutGroups.{groups_more}
use Rattle.pix_table.proofs.quantization.cut.set_groups.Goals as goal

abbrev none : Piece
none = record { len = 0; place = None }

pub sums_of-requires-clause-fit : goal.sums_of-requires-clause-fit
sums_of-requires-clause-fit g c = fit_piece g.I.Item.numbers g.C.Cutting.fits c.args.items.now c.loop-i.start _ c.requires.fit

pub sums_of-requires-clause-few : goal.sums_of-requires-clause-few
sums_of-requires-clause-few g c = few_piece g.I.Item.numbers (times_of g.C.Counted.channels) c.args.items.now c.loop-i.start _ _ c.requires.few_colors

pub loop-i-preserved : goal.loop-i-preserved
loop-i-preserved g c = record {
  start = omega (arith, c.loop-i.invariant.start, sum_by_more (λ (p : Piece). p.len) c.args.pieces.now c.loop-i.i none c.loop-i-test.true);
  set = groups_more (IsGroup g.C.Sums.BoxSums.are g.C.Sums.BoxSums.weigh) g.I.Item.numbers (spread g.C.Counted.channels) c.args.items.now c.args.pieces.now c.loop-i.groups c.loop-i.i _ c.loop-i.start none
      c.of.result c.loop-i-test.true (omega (arith, c.loop-i-test.true, c.loop-i.auto.groups, c.requires.room)) c.loop-i.invariant.start (omega arith)
      (c.of.ensures _ c.sums_of.ensures) c.loop-i.invariant.set;
}

pub of-requires : goal.of-requires
of-requires g c = (_, c.sums_of.ensures)
