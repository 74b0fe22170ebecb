use Rattle.pix_el.specs.Conversion.{Format}
use Rattle.std.proofs.Common.{ap, ◌∙◌}
use Rattle.pix_el.proofs.Conversions.{few_channels}
use Rattle.pix_el.proofs.InLight.{four_of}
use Rattle.pix_el.proofs.light.Light.decode_srgb.Goals as goal

pub returns : goal.returns
returns g c =
    let few = few_channels g.D.Pixel.layout _ g.met.D.Pixel.laid_out g.met.Self.Model.ColorModel.few c.requires.few in
    c.from_four.ensures ∙ four_of _ g.D.Pixel.format g.D.Pixel.layout _ _ _ _ _ (ap (λ (f : Format). f.layout) g.met.D.Pixel.formatted) g.met.D.Pixel.laid_out few
    c.channel_in_light-one.ensures c.channel_in_light-two.ensures c.channel_in_light-three.ensures c.channel_in_light-four.ensures
