use Rattle.std.proofs.Common.{ℕ, refl, ap, ◌∙◌, length, take, drop, ◌++◌}
use Rattle.pix_raster.specs.Image.{Image}
use Rattle.pix_raster.proofs.raster.Raster.pixels_mut.Goals as goal

pub returns : goal.returns
returns g c =
    let v = c.self.inside.pixels in
    rw (← c.self.view_is) (
      (refl, λ w. ap (λ (k : ℕ). let i : Image g.row.P.Denot = record { width = c.self.inside.width; height = c.self.inside.height; pixels = take k (w ++ drop (length w) v.items) } in i) v.ok.0),
      record { lends = tt; now = c.as_mut_slice.ensures.value; count = c.as_mut_slice.ensures.len ∙ c.self.invariant.0 },
    )
