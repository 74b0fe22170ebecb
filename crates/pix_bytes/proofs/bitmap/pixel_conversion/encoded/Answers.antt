use Rattle.std.proofs.Common.{◌≡◌, ◌∙◌, refl, List, ℕ}
use Rattle.pix_chan.specs.declared.chan.bits16.Ch16.{Ch16}
use Rattle.pix_el.specs.Pixel.{channel}
use Rattle.pix_el.specs.Conversion.{Format}
use Rattle.pix_el.specs.Light.{channel_as_srgb}
use Rattle.pix_el.proofs.Conversions.{four_channels}
use Rattle.pix_bytes.specs.FourChannels.{as_list}
use Rattle.pix_bytes.proofs.Steps.{step_as_srgb}
use Rattle.pix_bytes.proofs.bitmap.pixel_conversion.encoded.Goals as goal

pub returns : goal.returns
returns c = λ (format to : Format) step.
    let pixel : List ℕ = as_list (λ (x : Ch16). x.value) c.args.pixel in
    let f : ℕ → ℕ = channel_as_srgb format to pixel in
    let alpha : c.at-alpha.result.value ≡ channel 65535 pixel c.args.step.end = c.at-alpha.ensures in
    four_channels f _ _ _ _ c.args.step.count c.requires.few
    (c.channel_as_srgb.ensures ∙ step_as_srgb format to _ _ _ _ _ _ _ step pixel 0 _ _ refl alpha)
    (c.channel_as_srgb-2.ensures ∙ step_as_srgb format to _ _ _ _ _ _ _ step pixel 1 _ _ refl alpha)
    (c.channel_as_srgb-3.ensures ∙ step_as_srgb format to _ _ _ _ _ _ _ step pixel 2 _ _ refl alpha)
    (c.channel_as_srgb-4.ensures ∙ step_as_srgb format to _ _ _ _ _ _ _ step pixel 3 _ _ refl alpha)
    ∙ rw step.count_is refl
