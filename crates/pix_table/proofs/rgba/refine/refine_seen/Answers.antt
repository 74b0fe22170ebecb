-- Of `refine_seen`: that what is made of the items is made of the colors.
use Rattle.std.proofs.Common.{◌≤◌, map, arith, refl, subst, sym}
use Rattle.std.proofs.lemmas.List.{length-map}
use Rattle.pix_table.specs.quantization.Refine.{AreRoundsBy}
use Rattle.pix_table.specs.quantization.SquaredErrors.{squared_error_by}
use Rattle.pix_table.specs.SeenPixels.{seen_distance, seen_numbers}
use Rattle.pix_table.specs.quantization.SeenTables.{opaque_settled, seen_settled}
use Rattle.pix_table.proofs.lemmas.quantization.SeenRounds.{round_stays}
use Rattle.pix_table.proofs.lemmas.quantization.SumLemmas.{length_sum}
use Rattle.pix_table.proofs.rgba.refine.refine_seen.Goals as goal

pub refine_to_opaque-requires-clause-count : goal.refine_to_opaque-requires-clause-count
refine_to_opaque-requires-clause-count c =
    omega (arith, c.count_colors-items.ensures.items (λ q. 1), length_sum (map seen_numbers c.args.colors.now), length-map c.args.colors.now seen_numbers)

pub refine_to_opaque-requires-clause-colors : goal.refine_to_opaque-requires-clause-colors
refine_to_opaque-requires-clause-colors c = (map seen_numbers c.args.colors.now, c.count_colors-items.ensures.items, c.requires.colors)

pub returns-then-not-has_nearly_opaque-clause-refined : goal.returns-then-not-has_nearly_opaque-clause-refined
returns-then-not-has_nearly_opaque-clause-refined c =
    let colors = map seen_numbers c.args.colors.now in
    let entries = map seen_numbers c.args.entries.now in
    let same : squared_error_by seen_distance (map seen_numbers c.args.entries.now) (map seen_numbers c.args.colors.now)
    ≤ squared_error_by seen_distance (map seen_numbers c.args.entries.now) (map seen_numbers c.args.colors.now) = omega arith in (
      entries,
      subst (λ n. AreRoundsBy seen_distance seen_settled n colors entries entries) (sym c.if-rounds-eq0.true) refl,
      same,
      round_stays opaque_settled entries colors (omega (arith, c.requires.some, length-map c.args.entries.now seen_numbers))
          (c.has_nearly_opaque.ensures c.if-not-has_nearly_opaque.true),
    )
