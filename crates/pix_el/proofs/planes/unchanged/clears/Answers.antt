use Rattle.std.proofs.Common.{◌∙◌, sym}
use Rattle.std.proofs.lemmas.Bool.{true≢false}
use Rattle.pix_el.proofs.Replaced.{clears_by}
use Rattle.pix_el.proofs.planes.unchanged.clears.Goals as goal
use Rattle.pix_el.proofs.planes.unchanged.clears.Goals.{then-has_no_hue, else-has_no_hue}

pub returns-then-is_zero : goal.returns-then-is_zero
returns-then-is_zero g c = λ is.
    let row = g.met.O.Blend.tabled in
    elim c.if-has_no_hue.branch [
      | then-has_no_hue w ↦
          clears_by g.P.Pixel.layout g.O.Blend.op (c.has_no_hue.ensures w.if-has_no_hue.true)
          (row.0 ∙ w.is_zero.ensures (sym w.value-is ∙ c.if-is_zero.true)) (row.1 ∙ c.is_zero-then-is_zero.ensures is)
      | else-has_no_hue w ↦ absurd (true≢false (sym c.if-is_zero.true ∙ w.value-is ∙ w.if-has_no_hue.false))
    ]
