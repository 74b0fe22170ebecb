-- The laws of the arithmetic of channels, for every width that has a depth. No public clause cites
-- this file.
use Rattle.std.specs.Prelude.{ℕ, ◌<◌}
use Rattle.std.proofs.Common.{arith}
use Rattle.pix_chan.specs.Product.{channel_product, fineness}
use Rattle.pix_chan.specs.Depth.{IsDepth}
use Rattle.pix_chan.specs.Laws.{ChannelLaws}
use Rattle.pix_chan.specs.ProductLaws.{product_laws}
use Rattle.pix_chan.specs.QuotientLaws.{quotient_laws}
use Rattle.pix_chan.specs.StepLaws.{step_laws, lerp_laws}
use Rattle.pix_chan.specs.NearestLaws.{nearest_laws}

-- The laws, from the maximum.
pub channel_laws : (max : ℕ) → 1 < max → IsDepth max → ChannelLaws max
unfolding ChannelLaws
channel_laws max wide depth = record {
  quotient = quotient_laws max fineness (channel_product max) (omega arith) (product_laws max (omega arith));
  step = step_laws max wide;
  lerp = lerp_laws max wide;
  nearest = nearest_laws max;
  depth = depth;
}
