use Rattle.std.proofs.Common.{◌∙◌, ap, map, List, ℕ}
use Rattle.pix_chan.specs.Planes.{with_alphas}
use Rattle.pix_el.specs.Conversion.{at_depth}
use Rattle.pix_el.specs.Planes.{by_fours}
use Rattle.pix_el.proofs.light.blocks.put_encoded.Goals as goal

pub returns : goal.returns
returns g c =
    let from : List ℕ = map (at_depth g.C.Channel.max g.D.Chan.Channel.max) (map g.C.Channel.number c.args.c) in
    c.put_four_pixels.ensures.pixels
    ∙ ap by_fours (c.put_alphas.ensures ∙ ap (λ (l : List ℕ). with_alphas l from) c.from_light16-levels.ensures)
