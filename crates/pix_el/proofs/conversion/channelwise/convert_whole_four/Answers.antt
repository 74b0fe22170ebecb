use Rattle.std.proofs.Common.{◌∙◌, ap, map}
use Rattle.pix_el.proofs.conversion.channelwise.convert_whole_four.Goals as goal

pub returns : goal.returns
returns g c = ap (map g.D.Pixel.numbers) c.put_four.ensures ∙ c.four_converted-a.ensures
