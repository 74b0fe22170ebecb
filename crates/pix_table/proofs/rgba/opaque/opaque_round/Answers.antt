-- Of `opaque_round`: that the counts make it.
use Rattle.std.proofs.Common.{map, arith}
use Rattle.std.proofs.lemmas.List.{length-map}
use Rattle.pix_table.specs.SeenPixels.{seen_numbers}
use Rattle.pix_table.specs.quantization.SeenShares.{AreShares}
use Rattle.pix_table.specs.quantization.SeenTables.{opaque_settled}
use Rattle.pix_table.specs.declared.rgba.color.SeenColor.{SeenColor}
use Rattle.pix_table.proofs.lemmas.quantization.SeenRounds.{none_settled, one_settles, round_made, seen_at}
use Rattle.pix_table.proofs.rgba.opaque.opaque_round.Invariants.{nothing}
use Rattle.pix_table.proofs.rgba.opaque.opaque_round.Goals as goal

abbrev black : SeenColor
black = record { red = 0; green = 0; blue = 0; alpha = 0 }

pub loop-i-init : goal.loop-i-init
loop-i-init c = record {
  settled = none_settled AreShares opaque_settled (map seen_numbers c.args.entries.now) c.count_shares.new.shares nothing c.requires.entries;
}

pub opaque_settled-requires : goal.opaque_settled-requires
opaque_settled-requires c = seen_at c.loop-i.entries c.loop-i.i black (omega arith) c.loop-i.invariant.settled.seen

pub loop-i-preserved : goal.loop-i-preserved
loop-i-preserved c =
    let e = c.opaque_settled.ensures in
    record {
      settled = one_settles AreShares opaque_settled (map seen_numbers c.args.entries.now) c.loop-i.entries c.count_shares.new.shares nothing c.loop-i.i
          c.opaque_settled.result black (omega arith) e.seen e.settled c.loop-i.invariant.settled;
    }

pub returns-clause-round : goal.returns-clause-round
returns-clause-round c = λ all are.
    round_made AreShares opaque_settled (map seen_numbers c.args.entries.now) all (map seen_numbers c.loop-i.entries) c.loop-i.i c.count_shares.new.shares
    nothing (omega (arith, c.requires.some, length-map c.args.entries.now seen_numbers)) (omega (arith, c.loop-i-test.false, length-map c.args.entries.now seen_numbers))
    (c.count_shares.ensures all are) c.loop-i.invariant.settled
