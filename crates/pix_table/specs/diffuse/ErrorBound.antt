-- The greatest error that is handed on: how far the colors that are looked up may be from the pixels.
use Rattle.std.specs.Prelude.{◌⊎◌, ◌≡◌, ℕ, ◌+◌, ◌-◌, ◌*◌, ◌/◌, ◌<◌, ◌≤◌, List, [], Bool, false, true, length, slice_index, slice_index_or}

-- a level of a channel: a number that an entry has there
abbrev pub IsLevel : (entries : List (List ℕ)) (channel level : ℕ) → Type 0
IsLevel entries channel level = (i : ℕ) × (i < length entries) × (slice_index (slice_index_or entries i []) channel ≡ level)

-- a step: from a level of a channel to the next greater one
pub record IsStep (entries : List (List ℕ)) (channel low high : ℕ) : Type 0 where
  pub low_is : IsLevel entries channel low
  pub high_is : IsLevel entries channel high
  pub order : low < high
  pub none_between : (i : ℕ) → i < length entries → (slice_index (slice_index_or entries i []) channel ≤ low) ⊎ (high ≤ slice_index (slice_index_or entries i []) channel)

-- the least bound, of 255. It is chosen by pictures
abbrev pub least_bound : ℕ
least_bound = 24

-- the greatest error of 255 that is handed on in a channel, for some entries: half of the widest step, rounded
-- up, since what lies between two levels is mixed of both, but no less than the least bound. Without a bound
-- errors add up where no entry is like what is wanted. A color has at most four channels
pub record IsErrorBound (entries : List (List ℕ)) (bound : ℕ) : Type 0 where
  pub least : least_bound ≤ bound
  pub wide : (channel low high : ℕ) → channel < 4 → IsStep entries channel low high → high - low ≤ 2 * bound
  pub reached : (bound ≡ least_bound) ⊎ ((channel : ℕ) × (low : ℕ) × (high : ℕ) × IsStep entries channel low high × (bound ≡ (high - low + 1) / 2))

-- two numbers differ by no more than a bound
abbrev pub IsNear : (bound m n : ℕ) → Type 0
IsNear bound m n = (m ≤ n + bound) × (n ≤ m + bound)

-- two colors do in each of their channels, of which there are so many
abbrev pub AreNear : (bound channels : ℕ) → List ℕ → List ℕ → Type 0
AreNear bound channels p q = (c : ℕ) → c < channels → IsNear bound (slice_index p c) (slice_index q c)

-- flags of the levels of the first n entries in a channel. No clause of a public call cites this
pub record AreLevels (entries : List (List ℕ)) (channel n : ℕ) (flags : List Bool) : Type 0 where
  pub many : length flags ≡ 256
  pub byte : (i : ℕ) → i < n → slice_index (slice_index_or entries i []) channel < 256
  pub known : (i : ℕ) → i < n → slice_index_or flags (slice_index (slice_index_or entries i []) channel) false ≡ true
  pub only : (level : ℕ) → slice_index_or flags level false ≡ true → IsLevel entries channel level
