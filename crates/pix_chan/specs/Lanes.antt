-- Lanes by their indexes. No public clause cites this file.
use Rattle.std.specs.Prelude.{ℕ, zero, suc, ◌+◌, ◌*◌, ◌/◌, ◌%◌, ◌^◌, List, [], ◌∷◌}

-- m indexes from `first` on, each n after the one before
abbrev pub indexes_from : ℕ → ℕ → ℕ → List ℕ
indexes_from n first zero = []
indexes_from n first (suc m) = first ∷ indexes_from n (first + n) m

-- the indexes of channel ch of sixteen pixels of n channels
abbrev pub indexes : ℕ → ℕ → List ℕ
indexes n ch = indexes_from n ch 16

-- the even indexes of thirty-two lanes
abbrev pub even_lanes : List ℕ
even_lanes = indexes 2 0

-- the odd indexes of thirty-two lanes
abbrev pub odd_lanes : List ℕ
odd_lanes = indexes 2 1

-- the indexes of m pairs from `first` on, each followed by the pair sixteen lanes further on
abbrev pub pairs_from : ℕ → ℕ → List ℕ
pairs_from first zero = []
pairs_from first (suc m) = first ∷ (first + 1) ∷ (first + 16) ∷ (first + 17) ∷ pairs_from (first + 2) m

-- the pairs of the lower halves of two vectors of sixteen lanes in turn
abbrev pub low_pairs : List ℕ
low_pairs = pairs_from 0 4

-- the pairs of the upper halves of two vectors of sixteen lanes in turn
abbrev pub high_pairs : List ℕ
high_pairs = pairs_from 8 4

-- the high half of 257 t, where t is x y + 128, as lanes of 16 and 32 bits compute it
abbrev pub high_half : ℕ → ℕ → ℕ
high_half x y = (x * y % 2 ^ 16 + 128) % 2 ^ 16 * 257 % 2 ^ 32 / 2 ^ 16

-- the high half of x y + 2^15
abbrev pub high_sum : ℕ → ℕ → ℕ
high_sum x y = (x * y + 2 ^ 15) / 2 ^ 16

-- h, plus one where adding it to the low half of l + 2^15 carries
abbrev pub carried : ℕ → ℕ → ℕ
carried l h = (h + ((l + 2 ^ 15) % 2 ^ 16 + h) / 2 ^ 16) % 2 ^ 16
