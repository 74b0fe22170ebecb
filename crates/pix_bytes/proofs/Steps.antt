-- A channel of a pixel, by what decides a step within a color model.
use Rattle.std.proofs.Common.{◌≡◌, ℕ, List, refl}
use Rattle.std.specs.Prelude.{if◌then◌else◌}
use Rattle.pix_chan.specs.Modes.{AlphaMode, GammaMode}
use Rattle.pix_chan.specs.Srgb16.{srgb_decoded16, srgb_encoded8}
use Rattle.pix_el.specs.Pixel.{lies_in, channel}
use Rattle.pix_el.specs.Conversion.{Format, at_depth, reencoded, channel_reencoded}
use Rattle.pix_el.specs.Light.{mode_changed, channel_in_light, channel_as_srgb}
use Rattle.pix_bytes.specs.Rows.{IsStep}

-- converted, of the pixel at the depth of the other format
pub step_converted : (format to : Format) (gamma to_gamma : GammaMode) (max to_max count first end : ℕ) (mode to_mode : AlphaMode) → IsStep format to max to_max count first end mode to_mode
    → (deep : List ℕ) (ch x alpha : ℕ) → x ≡ channel to_max deep ch → alpha ≡ channel to_max deep end
    → (if lies_in (record { start = first; end = end }) ch then reencoded to_max mode gamma to_mode to_gamma alpha x else x) ≡ channel_reencoded format gamma to to_gamma deep ch
step_converted format to gamma to_gamma max to_max count first end mode to_mode step deep ch x alpha ex ea =
    rw (step.colors_are, step.from_mode, step.mode_is, step.alpha_is, step.max_is) (rw (ex, ea) refl)

-- in light
pub step_in_light : (format to : Format) (max to_max count first end : ℕ) (mode to_mode : AlphaMode) → IsStep format to max to_max count first end mode to_mode
    → (pixel : List ℕ) (ch x alpha : ℕ) → x ≡ channel max pixel ch → alpha ≡ at_depth max to_max (channel max pixel end)
    → (if lies_in (record { start = first; end = end }) ch then mode_changed to_max mode to_mode alpha (srgb_decoded16 x) else at_depth max to_max x) ≡ channel_in_light format to pixel ch
step_in_light format to max to_max count first end mode to_mode step pixel ch x alpha ex ea =
    rw (step.colors_are, step.from_mode, step.from_max, step.mode_is, step.alpha_is, step.max_is) (rw (ex, ea) refl)

-- as sRGB
pub step_as_srgb : (format to : Format) (max to_max count first end : ℕ) (mode to_mode : AlphaMode) → IsStep format to max to_max count first end mode to_mode
    → (pixel : List ℕ) (ch x alpha : ℕ) → x ≡ channel max pixel ch → alpha ≡ channel max pixel end
    → (if lies_in (record { start = first; end = end }) ch then srgb_encoded8 (mode_changed max mode to_mode alpha x) else at_depth max to_max x) ≡ channel_as_srgb format to pixel ch
step_as_srgb format to max to_max count first end mode to_mode step pixel ch x alpha ex ea =
    rw (step.colors_are, step.from_mode, step.from_max, step.mode_is, step.alpha_is, step.max_is) (rw (ex, ea) refl)
