-- Claims on a run against the same run in exact fractions: at each point, over just the effects
-- that reach it.
use Rattle.std.specs.Prelude.{ℕ, ◌<◌, List, map}
use Rattle.pix_ops.specs.ExactRun.{ChannelEffect, Rounded}
use Rattle.pix_ops.specs.ExactRun as one_channel
use Rattle.pix_el.specs.Pixel.{Layout, channel, alpha_of}
use Rattle.pix_el.specs.PixelComposite.{matte_value}
use Rattle.pix_el.specs.Premultiplied.{IsBounded}
use Rattle.pix_raster.specs.Image.{Image, point, region_of}
use Rattle.pix_raster.specs.Run.{Effect, Cleared, Copied, Composited, Matted, effects_at}
use Rattle.pix_raster.specs.declared.command.Command.{Command}

-- an effect on the channel of a number and on the alpha
abbrev pub on_channel : Layout → ℕ → Effect → ChannelEffect
on_channel layout ch Cleared = one_channel.Replaced 0 0
on_channel layout ch (Copied source) = one_channel.Replaced (channel layout.max source ch) (alpha_of layout source)
on_channel layout ch (Composited op source) = one_channel.Composited op (channel layout.max source ch) (alpha_of layout source)
on_channel layout ch (Matted op matte source) =
    one_channel.Matted op (matte_value layout matte) (channel layout.max source ch) (alpha_of layout source)

-- the effects on that channel, one for each effect on the pixel
abbrev pub channel_effects : Layout → ℕ → List Effect → List ChannelEffect
channel_effects layout ch effects = map (on_channel layout ch) effects

-- the channel of a pixel of a number, with the alpha
abbrev pub with_alpha : Layout → ℕ → List ℕ → Rounded
with_alpha layout ch pixel = record { channel = channel layout.max pixel ch; alpha = alpha_of layout pixel }

-- The claim holds at each point of an image and of each channel that is no hue: of the channel that
-- stood there, of the effects of just those commands that reach the point, and of the channel that
-- stands there now.
abbrev pub OfEachChannel : {P M : Type 0} → Layout → (P → List ℕ) → (M → List ℕ) → List (Command P M) → (old new : Image P)
    → (Rounded → List ChannelEffect → Rounded → Type 0) → Type 0
OfEachChannel layout numbers mattes commands old new Claim =
    (x y ch : ℕ) → x < old.width → y < old.height → IsBounded layout ch
    → Claim (with_alpha layout ch (point numbers old x y))
    (channel_effects layout ch (effects_at numbers mattes (region_of old) commands x y))
    (with_alpha layout ch (point numbers new x y))
