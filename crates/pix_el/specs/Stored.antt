-- Pixels in memory, as the lists of their channels.
use Rattle.std.specs.Prelude.{ℕ, zero, suc, List, [], ◌∷◌, take, drop}

-- the first n pixels of these channels, which lie pixel by pixel, `count` of each
abbrev pub in_pixels : {A : Type 0} → ℕ → ℕ → List A → List (List A)
in_pixels count zero channels = []
in_pixels count (suc n) channels = take count channels ∷ in_pixels count n (drop count channels)
