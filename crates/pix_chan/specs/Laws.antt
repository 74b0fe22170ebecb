-- The laws of the operations of channels, beside their results.
use Rattle.std.specs.Prelude.{ℕ}
use Rattle.pix_chan.specs.Product.{channel_product, channel_quotient, IsQuotient}
use Rattle.pix_chan.specs.Step.{step, channel_lerp, IsStep, IsLerp}
use Rattle.pix_chan.specs.Nearest.{nearest, IsNearest}
use Rattle.pix_chan.specs.Depth.{IsDepth}

-- the laws of the arithmetic of a width
pub record Laws (max : ℕ) : Type 0 where
  pub quotient : IsQuotient max (channel_product max) (channel_quotient max)
  pub step : IsStep max (step max)
  pub lerp : IsLerp max (channel_lerp max)
  pub nearest : IsNearest max (nearest max)
  pub depth : IsDepth max

-- these laws as a channel has them (the member `laws` of `Channel`), closed, so that the search of
-- a proof skips them
unfoldable pub ChannelLaws : ℕ → Type 0
ChannelLaws max = Laws max

-- Opens them, for a proof that uses one: known_laws _ g.met.C.Channel.laws, under a bound C:
-- Channel.
pub known_laws : (max : ℕ) → ChannelLaws max → Laws max
unfolding ChannelLaws
known_laws max laws = laws
