use Rattle.std.proofs.Common.{◌-◌, ◌∙◌, ℕ, map, ap}
use Rattle.pix_chan.specs.Planes.{last_of_four}
use Rattle.pix_el.proofs.FourPixels.{last_made}
use Rattle.pix_el.proofs.planes.rgba_x8.alphas_left.Goals as goal

pub returns-else-eq : goal.returns-else-eq
returns-else-eq g c =
    let left = λ (x : ℕ). g.C.Channel.max - x in
    c.alphas8-else-eq.ensures ∙ ap last_of_four c.complement32-else-eq.ensures ∙ last_made left (map g.C.Channel.number c.args.pixels)
