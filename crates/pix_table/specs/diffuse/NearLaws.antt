-- Lemmas that laws of an impl name: colors near a pixel. No clause of a public call cites this file.
use Rattle.std.proofs.Common.{ℕ, zero, suc, ◌<◌, ◌≤◌, min, List, arith}
use Rattle.std.specs.Prelude.{slice_index}
use Rattle.pix_table.specs.SeenPixels.{AreSeen}
use Rattle.pix_table.specs.diffuse.ErrorBound.{AreNear, IsNear}
use Rattle.pix_table.specs.diffuse.Diffusion.{rgb_of}
use Rattle.pix_table.specs.diffuse.SeenDiffusion.{seen_of_channels}

-- red, green and blue are at most 255
abbrev pub AreBytes : List ℕ → Type 0
AreBytes color = (c : ℕ) → c < 3 → slice_index color c ≤ 255

pub rgb_near : (bound : ℕ) (pixel : List ℕ) (number : ℕ → ℕ) → AreBytes pixel → ((c : ℕ) → slice_index pixel c ≤ 255 → IsNear bound (slice_index pixel c) (number c)) → AreNear bound 3 pixel (rgb_of number)
rgb_near bound pixel number bytes near zero few = near 0 (bytes 0 few)
rgb_near bound pixel number bytes near (suc zero) few = near 1 (bytes 1 few)
rgb_near bound pixel number bytes near (suc (suc zero)) few = near 2 (bytes 2 few)
rgb_near bound pixel number bytes near (suc (suc (suc c))) few = absurd (omega arith)

-- a number near one that is at most the alpha: kept below a number near the alpha, it is still near
below_alpha : (b p q m n : ℕ) → p ≤ q → IsNear b p m → IsNear b q n → IsNear b p (min n m)
below_alpha b p q m n few r s = (omega (arith, few, r, s), omega (arith, few, r, s))

pub seen_near : (bound : ℕ) (pixel : List ℕ) (number : ℕ → ℕ) → AreSeen pixel → ((c : ℕ) → slice_index pixel c ≤ 255 → IsNear bound (slice_index pixel c) (number c)) → AreNear bound 4 pixel (seen_of_channels number)
seen_near bound pixel number own near zero few =
    below_alpha bound (slice_index pixel 0) (slice_index pixel 3) (number 0) (number 3) own.red (near 0 (omega (arith, own.red, own.alpha))) (near 3 own.alpha)
seen_near bound pixel number own near (suc zero) few =
    below_alpha bound (slice_index pixel 1) (slice_index pixel 3) (number 1) (number 3) own.green (near 1 (omega (arith, own.green, own.alpha))) (near 3 own.alpha)
seen_near bound pixel number own near (suc (suc zero)) few =
    below_alpha bound (slice_index pixel 2) (slice_index pixel 3) (number 2) (number 3) own.blue (near 2 (omega (arith, own.blue, own.alpha))) (near 3 own.alpha)
seen_near bound pixel number own near (suc (suc (suc zero))) few = near 3 own.alpha
seen_near bound pixel number own near (suc (suc (suc (suc c)))) few = absurd (omega arith)
