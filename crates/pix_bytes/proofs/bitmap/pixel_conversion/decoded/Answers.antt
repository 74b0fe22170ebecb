use Rattle.std.proofs.Common.{◌≡◌, ◌∙◌, ap, refl, List, ℕ, nat_lt}
use Rattle.std.specs.Prelude.{if◌then◌else◌}
use Rattle.pix_chan.specs.declared.chan.bits8.Ch8.{Ch8}
use Rattle.pix_el.specs.Pixel.{channel}
use Rattle.pix_el.specs.Conversion.{Format, at_depth}
use Rattle.pix_el.specs.Light.{channel_in_light}
use Rattle.pix_bytes.specs.FourChannels.{as_list}
use Rattle.pix_bytes.proofs.FourChannels.{four_made, channel_made}
use Rattle.pix_bytes.proofs.Steps.{step_in_light}
use Rattle.pix_bytes.proofs.bitmap.pixel_conversion.decoded.Goals as goal

pub returns : goal.returns
returns c = λ (format to : Format) step ch.
    let pixel : List ℕ = as_list (λ (x : Ch8). x.value) c.args.pixel in
    let f : ℕ → ℕ = channel_in_light format to pixel in
    let count = c.args.step.count in
    let past = λ (k x : ℕ). if nat_lt k count then x else 65535 in
    let alpha : c.at_depth-alpha.result.value ≡ at_depth 255 65535 (channel 255 pixel c.args.step.end) = c.at_depth-alpha.ensures ∙ ap (at_depth 255 65535) c.at.ensures in
    rw step.count_is (four_made 65535 _ _ _ _ count f c.requires.few
    (c.channel_in_light.ensures ∙ ap (past 0) (step_in_light format to _ _ _ _ _ _ _ step pixel 0 _ _ refl alpha) ∙ channel_made 65535 count f 0)
    (c.channel_in_light-2.ensures ∙ ap (past 1) (step_in_light format to _ _ _ _ _ _ _ step pixel 1 _ _ refl alpha) ∙ channel_made 65535 count f 1)
    (c.channel_in_light-3.ensures ∙ ap (past 2) (step_in_light format to _ _ _ _ _ _ _ step pixel 2 _ _ refl alpha) ∙ channel_made 65535 count f 2)
    (c.channel_in_light-4.ensures ∙ ap (past 3) (step_in_light format to _ _ _ _ _ _ _ step pixel 3 _ _ refl alpha) ∙ channel_made 65535 count f 3) ch)
