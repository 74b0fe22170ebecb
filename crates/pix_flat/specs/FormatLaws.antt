-- Proofs of the laws of `Stored`, which an impl takes from `specs/` alone. No public clause cites
-- this file.
use Rattle.std.specs.Prelude.{ℕ, zero, suc, ◌≤◌, List, [], ◌∷◌, map, min}
use Rattle.std.proofs.Common.{arith}
use Rattle.pix_el.specs.Pixel.{channel}
use Rattle.pix_flat.specs.Format.{bytes, words}

limited : (max : ℕ) (ns : List ℕ) (ch : ℕ) → channel max (map (λ n. min n max) ns) ch ≤ max
limited max [] ch = omega arith
limited max (n ∷ ns) zero = omega arith
limited max (n ∷ ns) (suc ch) = limited max ns ch

-- the channels of an 8-bit pixel
pub bytes_fit : (ns : List ℕ) (ch : ℕ) → channel 255 (bytes ns) ch ≤ 255
bytes_fit ns ch = limited 255 ns ch

-- the channels of a 16-bit pixel
pub words_fit : (ns : List ℕ) (ch : ℕ) → channel 65535 (words ns) ch ≤ 65535
words_fit ns ch = limited 65535 ns ch
