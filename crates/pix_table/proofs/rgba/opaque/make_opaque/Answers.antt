-- Of `make_opaque`: that where no entry may become opaque, none changes in the last step.
use Rattle.std.proofs.Common.{map, arith}
use Rattle.std.proofs.lemmas.List.{length-map}
use Rattle.pix_table.specs.SeenPixels.{seen_numbers}
use Rattle.pix_table.specs.quantization.SeenTables.{opaque_settled}
use Rattle.pix_table.proofs.lemmas.quantization.SeenRounds.{round_stays}
use Rattle.pix_table.proofs.rgba.opaque.make_opaque.Goals as goal

pub returns-else-has_nearly_opaque-clause-round : goal.returns-else-has_nearly_opaque-clause-round
returns-else-has_nearly_opaque-clause-round c = λ all are.
    round_stays opaque_settled (map seen_numbers c.args.entries.now) all (omega (arith, c.requires.some, length-map c.args.entries.now seen_numbers))
    (c.has_nearly_opaque.ensures c.if-has_nearly_opaque.false)
