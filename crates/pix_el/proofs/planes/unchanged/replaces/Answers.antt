use Rattle.std.proofs.Common.{◌∙◌, sym}
use Rattle.std.proofs.lemmas.Bool.{true≢false}
use Rattle.pix_el.proofs.Replaced.{replaces_by}
use Rattle.pix_el.proofs.planes.unchanged.replaces.Goals as goal
use Rattle.pix_el.proofs.planes.unchanged.replaces.Goals.{then-has_no_hue, else-has_no_hue}

pub returns-then-is_one : goal.returns-then-is_one
returns-then-is_one g c = λ is.
    let row = g.met.O.Blend.tabled in
    elim c.if-has_no_hue.branch [
      | then-has_no_hue w ↦
          replaces_by g.P.Pixel.layout g.O.Blend.op (c.has_no_hue.ensures w.if-has_no_hue.true)
          (row.0 ∙ w.is_one.ensures (sym w.value-is ∙ c.if-is_one.true)) (row.1 ∙ c.is_zero.ensures is)
      | else-has_no_hue w ↦ absurd (true≢false (sym c.if-is_one.true ∙ w.value-is ∙ w.if-has_no_hue.false))
    ]
