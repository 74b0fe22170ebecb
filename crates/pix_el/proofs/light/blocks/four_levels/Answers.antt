use Rattle.std.proofs.Common.{◌∙◌, ap, arith, map}
use Rattle.std.proofs.lemmas.List.{length-map}
use Rattle.pix_chan.specs.Srgb16.{srgb_encoded8}
use Rattle.pix_el.specs.Planes.{by_fours}
use Rattle.pix_el.proofs.LightBlocks.{fours_mapped}
use Rattle.pix_el.proofs.light.blocks.four_levels.Goals as goal

pub returns : goal.returns
returns g c =
    let v = g.P.Chan.Channel.number in
    ap by_fours c.from_light16.ensures ∙ fours_mapped srgb_encoded8 (map v c.four_in_mode.result) (omega (arith, length-map c.four_in_mode.result v))
    ∙ ap (map (map srgb_encoded8)) c.four_in_mode.ensures
