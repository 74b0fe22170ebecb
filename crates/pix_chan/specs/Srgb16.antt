-- The sRGB transfer curve from eight bits to linear channels of sixteen, and back: two tables.
use Rattle.std.specs.Prelude.{◌≡◌, ℕ, ◌≤◌, ◌<◌, ◌+◌, ◌*◌, ◌/◌, ◌%◌, slice_index_or}
use Rattle.pix_chan.specs.Product.{channel_product, channel_quotient}
use Rattle.pix_chan.specs.declared.chan.srgb16.TheConstants.{DECODE16, LEVELS}

-- to linear in sixteen bits: the entry of the table
unfoldable pub srgb_decoded16 : ℕ → ℕ
srgb_decoded16 level = slice_index_or DECODE16 level 0

-- from linear of sixteen bits: the level of the first of sixteen channels, or the next one for the
-- last of them
unfoldable pub srgb_encoded8 : ℕ → ℕ
srgb_encoded8 channel = (slice_index_or LEVELS (channel / 16) 0 + channel % 16) / 16

-- a channel that was premultiplied at an alpha, and made straight again
abbrev pub through_alpha : ℕ → ℕ → ℕ
through_alpha channel alpha = channel_quotient 65535 (channel_product 65535 channel alpha) alpha

-- Decoding rises with each level and fits sixteen bits; encoding never falls and fits eight. Each
-- level comes back, also from a channel that is off by up to nine units, and from one that was
-- premultiplied and made straight: at alphas from 4096, and at those of thirteen units or more of
-- eight bits.
pub record IsCurve16 (decoded encoded : ℕ → ℕ) : Type 0 where
  pub decoded_fits : (level : ℕ) → level < 256 → decoded level < 65536
  pub encoded_fits : (channel : ℕ) → channel < 65536 → encoded channel < 256
  pub rises : (m n : ℕ) → m < n → n < 256 → decoded m < decoded n
  pub never_falls : (m n : ℕ) → m ≤ n → n < 65536 → encoded m ≤ encoded n
  pub comes_back : (level : ℕ) → level < 256 → encoded (decoded level) ≡ level
  pub comes_back_within : (level channel : ℕ) → level < 256 → channel < 65536 → channel ≤ decoded level + 9 → decoded level ≤ channel + 9 → encoded channel ≡ level
  pub comes_back_through : (level alpha : ℕ) → level < 256 → 4096 ≤ alpha → alpha < 65536 → encoded (through_alpha (decoded level) alpha) ≡ level
  pub comes_back_through_byte : (level byte : ℕ) → level < 256 → 13 ≤ byte → byte < 256 → encoded (through_alpha (decoded level) (257 * byte)) ≡ level
