-- Four pixels of four channels of sixteen bits divided by their alphas, on lanes. No public clause
-- cites this file.
use Rattle.std.specs.Prelude.{◌≡◌, ℕ, ◌+◌, ◌*◌, ◌/◌, ◌%◌, ◌^◌, ◌<◌, max, List, [], ◌∷◌, slice_index_or}
use Rattle.pix_chan.specs.declared.quotients16.TheConstants.{RECIPROCALS}

-- four numbers, each once for each channel of its pixel
abbrev pub for_each_channel : ℕ → ℕ → ℕ → ℕ → List ℕ
for_each_channel a b c d = a ∷ a ∷ a ∷ a ∷ b ∷ b ∷ b ∷ b ∷ c ∷ c ∷ c ∷ c ∷ d ∷ d ∷ d ∷ d ∷ []

-- the alphas of four pixels, by their sixteen channels
abbrev pub alphas_in : List ℕ → List ℕ
alphas_in channels =
    for_each_channel (slice_index_or channels 3 0) (slice_index_or channels 7 0) (slice_index_or channels 11 0) (slice_index_or channels 15 0)

-- the reciprocal of an alpha that comes from eight bits
abbrev pub reciprocal_of : ℕ → ℕ
reciprocal_of alpha = slice_index_or RECIPROCALS (alpha % 256) 0

-- the reciprocal of any alpha; 0 counts as 1
abbrev pub whole_reciprocal_of : ℕ → ℕ
whole_reciprocal_of alpha = 2 ^ 48 / max alpha 1 + 1

-- a number whose lower 48 bits, as a factor, divide the numbers below an alpha by that alpha
pub record IsReciprocal (alpha reciprocal : ℕ) : Type 0 where
  pub none : alpha ≡ 0 → (x : ℕ) → x < 65536 → x * (reciprocal % 2 ^ 48) / 2 ^ 32 % 65536 ≡ 0
  pub some : (x : ℕ) → x < alpha → x * (reciprocal % 2 ^ 48) / 2 ^ 32 % 65536 ≡ x * 65536 / alpha

-- a number in four parts of sixteen bits, the lowest first
abbrev pub parts : ℕ → List ℕ
parts x = x % 65536 ∷ x / 65536 % 65536 ∷ x / 65536 / 65536 % 65536 ∷ x / 65536 / 65536 / 65536 % 65536 ∷ []
