-- Of `round`: that the sums make it.
use Rattle.std.proofs.Common.{◌+◌, map, length, refl, arith, sym}
use Rattle.std.proofs.lemmas.List.{length-map}
use Rattle.pix_table.specs.matching.Nearest.{numbers}
use Rattle.pix_table.specs.declared.color.Color.{Color}
use Rattle.pix_table.proofs.lemmas.quantization.Rounds.{none_moved, one_moves, one_stays, round_made, same_more, sums_few}
use Rattle.pix_table.proofs.quantization.refine.round.Invariants.{nothing}
use Rattle.pix_table.proofs.quantization.refine.round.Goals as goal
use Rattle.pix_table.proofs.quantization.refine.round.Goals.{then-sums-i-gt0, else-sums-i-gt0, Joined-sums-i-gt0}

abbrev black : Color
black = record { red = 0; green = 0; blue = 0 }

pub loop-i-init : goal.loop-i-init
loop-i-init c = record { moved = none_moved (map numbers c.args.entries.now) c.set_sums_by_entry.new.sums nothing; same = λ e. refl }

pub loop-i-preserved : goal.loop-i-preserved
loop-i-preserved c =
    elim c.if-sums-i-gt0.branch [
      | then-sums-i-gt0 w ↦
          let e = w.mean-next.ensures in
          record {
            moved = rw w.entries-is
                (one_moves (map numbers c.args.entries.now) c.loop-i.entries c.set_sums_by_entry.new.sums nothing c.loop-i.i w.mean-next.result (omega arith)
                w.if-sums-i-gt0.true (rw (e.red, e.green, e.blue) refl) c.loop-i.invariant.moved);
            same = λ none. rw w.entries-is
                (same_more (map numbers c.args.entries.now) c.loop-i.entries c.loop-i.i w.mean-next.result black c.loop-i.is_moved w.same.result c.if-sums-i-gt0.is_moved
                w.same.ensures w.is_moved-is c.loop-i.invariant.same none);
          }
      | else-sums-i-gt0 w ↦
          rw (w.entries-is, w.is_moved-is)
          (record {
            moved = one_stays (map numbers c.args.entries.now) (map numbers c.loop-i.entries) c.set_sums_by_entry.new.sums nothing c.loop-i.i
                (omega (arith, w.if-sums-i-gt0.false)) c.loop-i.invariant.moved;
            same = c.loop-i.invariant.same;
          })
    ]

pub mean-next-requires-clause-red : goal.mean-next-requires-clause-red
mean-next-requires-clause-red c =
    (sums_few (map numbers c.args.entries.now) (map numbers c.args.colors.now) c.args.items.pairs (c.args.items.pairs + c.args.items.singles)
    (length c.args.entries.now) c.set_sums_by_entry.new.sums nothing (sym (length-map c.args.entries.now numbers)) c.set_sums_by_entry.ensures c.loop-i.i
    c.loop-i-test.true).red

pub mean-next-requires-clause-green : goal.mean-next-requires-clause-green
mean-next-requires-clause-green c =
    (sums_few (map numbers c.args.entries.now) (map numbers c.args.colors.now) c.args.items.pairs (c.args.items.pairs + c.args.items.singles)
    (length c.args.entries.now) c.set_sums_by_entry.new.sums nothing (sym (length-map c.args.entries.now numbers)) c.set_sums_by_entry.ensures c.loop-i.i
    c.loop-i-test.true).green

pub mean-next-requires-clause-blue : goal.mean-next-requires-clause-blue
mean-next-requires-clause-blue c =
    (sums_few (map numbers c.args.entries.now) (map numbers c.args.colors.now) c.args.items.pairs (c.args.items.pairs + c.args.items.singles)
    (length c.args.entries.now) c.set_sums_by_entry.new.sums nothing (sym (length-map c.args.entries.now numbers)) c.set_sums_by_entry.ensures c.loop-i.i
    c.loop-i-test.true).blue

pub returns-clause-round : goal.returns-clause-round
returns-clause-round c = λ all are.
    round_made (map numbers c.args.entries.now) all (map numbers c.args.colors.now) (map numbers c.loop-i.entries) c.args.items.pairs c.args.items.singles
    (length c.args.entries.now) c.loop-i.i c.set_sums_by_entry.new.sums nothing c.requires.some (sym (length-map c.args.entries.now numbers))
    c.loop-i-test.false are c.set_sums_by_entry.ensures c.loop-i.invariant.moved
