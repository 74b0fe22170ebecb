use Rattle.std.proofs.Common.{◌∙◌, map, ap, sym, subst, Fits}
use Rattle.std.proofs.lemmas.List.{map-id}
use mir.Syntax.{w8}
use lib.Lanes.{Each1}
use Rattle.pix_chan.proofs.Lanes.{same}
use Rattle.pix_el.proofs.LightBlocks.{levels_fit}
use Rattle.pix_el.proofs.light.blocks.encoded.Goals as goal

pub overflow_cast-result : goal.overflow_cast-result
overflow_cast-result c = subst (Each1 (Fits w8)) (sym c.encode_srgb8_lanes.ensures) (levels_fit c.args.lanes c.fits-lanes.1)

pub returns : goal.returns
returns c = ap (map same) c.encode_srgb8_lanes.ensures ∙ map-id _
