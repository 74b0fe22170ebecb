-- Of `has_nearly_opaque`: that none of the entries changes where it finds none.
use Rattle.std.proofs.Common.{◌≡◌, [], map, get_or, arith, ap, sym, ◌∙◌, inl, inr}
use Rattle.std.proofs.lemmas.Bool.{cases_lt}
use Rattle.std.proofs.lemmas.List.{get_or-map, length-map}
use Rattle.std.proofs.lemmas.List.Elements.{All-from_get_or}
use Rattle.pix_table.specs.SeenPixels.{seen_numbers}
use Rattle.pix_table.specs.quantization.SeenTables.{opaque_settled}
use Rattle.pix_table.specs.declared.rgba.color.SeenColor.{SeenColor}
use Rattle.pix_table.proofs.lemmas.quantization.SeenRounds.{seen_at}
use Rattle.pix_table.proofs.rgba.opaque.has_nearly_opaque.Goals as goal

abbrev black : SeenColor
black = record { red = 0; green = 0; blue = 0; alpha = 0 }

pub is_nearly_opaque-requires : goal.is_nearly_opaque-requires
is_nearly_opaque-requires c = seen_at c.args.entries.now c.loop-i.i black c.loop-i-test.true c.requires

pub loop-i-preserved : goal.loop-i-preserved
loop-i-preserved c = record {
  stay = λ group k b. elim (cases_lt k c.loop-i.i) [
    | inl l ↦ c.loop-i.invariant.stay group k l
    | inr l ↦
        let same : k ≡ c.loop-i.i = omega (arith, b, l) in
        let at : get_or (map seen_numbers c.args.entries.now) k [] ≡ seen_numbers (get_or c.args.entries.now c.loop-i.i black) =
        ap (λ j. get_or (map seen_numbers c.args.entries.now) j []) same ∙ get_or-map seen_numbers c.args.entries.now c.loop-i.i black [] c.loop-i-test.true in
        ap (λ e. opaque_settled e group) at ∙ c.is_nearly_opaque.ensures c.if-is_nearly_opaque.false group ∙ sym at
  ];
}

pub returns : goal.returns
returns c = λ e group.
    All-from_get_or (λ entry. opaque_settled entry group ≡ entry) (map seen_numbers c.args.entries.now) []
    (λ k b. c.loop-i.invariant.stay group k (omega (arith, b, c.loop-i-test.false, length-map c.args.entries.now seen_numbers)))
