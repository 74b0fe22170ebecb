-- The sRGB transfer curve on channels of eight bits: two tables.
use Rattle.std.specs.Prelude.{◌≡◌, ℕ, ◌≤◌, slice_index_or}
use Rattle.pix_chan.specs.declared.chan.srgb.TheConstants.{DECODE, ENCODE}

-- to linear: the entry of the one table
abbrev pub srgb_decoded : ℕ → ℕ
srgb_decoded channel = slice_index_or DECODE channel 0

-- from linear: the entry of the other
abbrev pub srgb_encoded : ℕ → ℕ
srgb_encoded channel = slice_index_or ENCODE channel 0

-- A curve goes from 0 to 255 and never falls.
pub record IsCurve (curve : ℕ → ℕ) : Type 0 where
  pub starts : curve 0 ≡ 0
  pub ends : curve 255 ≡ 255
  pub rises : (m n : ℕ) → m ≤ n → n ≤ 255 → curve m ≤ curve n
