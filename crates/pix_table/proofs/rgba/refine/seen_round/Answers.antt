-- Of `seen_round`: that the sums make it.
use Rattle.std.proofs.Common.{map, get_or, refl, arith, sym, ◌∙◌}
use Rattle.std.proofs.lemmas.List.{length-map}
use Rattle.pix_table.specs.SeenPixels.{seen_numbers}
use Rattle.pix_table.specs.quantization.SeenGroups.{AreGroupSums}
use Rattle.pix_table.specs.quantization.SeenTables.{seen_settled}
use Rattle.pix_table.specs.declared.rgba.color.SeenColor.{SeenColor}
use Rattle.pix_table.proofs.lemmas.quantization.Rounds.{same_more_by}
use Rattle.pix_table.proofs.lemmas.quantization.SeenRounds.{group_of, none_settled, one_settles, round_made, same_numbers, seen_at}
use Rattle.pix_table.proofs.rgba.refine.seen_round.Invariants.{nothing}
use Rattle.pix_table.proofs.rgba.refine.seen_round.Goals as goal

abbrev black : SeenColor
black = record { red = 0; green = 0; blue = 0; alpha = 0 }

pub loop-i-init : goal.loop-i-init
loop-i-init c = record {
  settled = none_settled AreGroupSums seen_settled (map seen_numbers c.args.entries.now) c.sum_groups.new.sums nothing c.requires.entries;
  same = λ e. refl;
}

pub settled-next-requires-clause-sums : goal.settled-next-requires-clause-sums
settled-next-requires-clause-sums c =
    let all = c.requires.colors in
    let h = group_of AreGroupSums (map seen_numbers c.args.entries.now) all.0 c.sum_groups.new.sums nothing c.loop-i.i
    (omega (arith, length-map c.args.entries.now seen_numbers)) (c.sum_groups.ensures all.0 all.1 all.2) in
    (h.0, h.1)

pub settled-next-requires-clause-entry : goal.settled-next-requires-clause-entry
settled-next-requires-clause-entry c = seen_at c.loop-i.entries c.loop-i.i black (omega arith) c.loop-i.invariant.settled.seen

pub loop-i-preserved : goal.loop-i-preserved
loop-i-preserved c =
    let e = c.settled-next.ensures in
    record {
      settled = one_settles AreGroupSums seen_settled (map seen_numbers c.args.entries.now) c.loop-i.entries c.sum_groups.new.sums nothing c.loop-i.i c.settled-next.result black (omega arith)
          e.seen e.settled c.loop-i.invariant.settled;
      same = λ none.
          same_more_by seen_numbers (map seen_numbers c.args.entries.now) c.loop-i.entries c.loop-i.i c.settled-next.result black c.loop-i.is_moved c.same.result _
          (λ is. same_numbers c.settled-next.result (get_or c.loop-i.entries c.loop-i.i black) (sym c.same.ensures ∙ is)) refl c.loop-i.invariant.same none;
    }

pub returns-clause-round : goal.returns-clause-round
returns-clause-round c = λ all are seen.
    round_made AreGroupSums seen_settled (map seen_numbers c.args.entries.now) all (map seen_numbers c.loop-i.entries) c.loop-i.i c.sum_groups.new.sums
    nothing (omega (arith, c.requires.some, length-map c.args.entries.now seen_numbers)) (omega (arith, c.loop-i-test.false, length-map c.args.entries.now seen_numbers))
    (c.sum_groups.ensures all are seen) c.loop-i.invariant.settled
