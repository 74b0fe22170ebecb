-- Of `refine_to_opaque`: that no round makes the squared error greater, and that the last step is of the same colors.
use Rattle.std.proofs.Common.{map}
use Rattle.pix_table.specs.SeenPixels.{seen_distance, seen_numbers}
use Rattle.pix_table.specs.quantization.SeenTables.{seen_settled}
use Rattle.pix_table.proofs.lemmas.quantization.RefinedTables.{rounds_fall}
use Rattle.pix_table.proofs.lemmas.quantization.SeenErrors.{settled_falls}
use Rattle.pix_table.proofs.rgba.refine.refine_to_opaque.Goals as goal

pub returns-clause-refined : goal.returns-clause-refined
returns-clause-refined c = λ all are seen.
    let last = map seen_numbers c.refine_seen_by.new.entries in
    let rounds = c.refine_seen_by.ensures.rounds all are seen in (
      last,
      rounds,
      rounds_fall seen_distance seen_settled settled_falls c.args.rounds all (map seen_numbers c.args.entries.now) last rounds,
      c.make_opaque.ensures.round all are,
    )
