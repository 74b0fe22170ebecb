-- The nearest number of equal ratios, of a whole number, and of a ratio that is cut at 0.
use Rattle.std.specs.Prelude.{ℤ, pos, negsuc}
use Rattle.std.specs.Int.{int_max}
use Rattle.std.proofs.Common.{◌≡◌, ℕ, ◌<◌, ◌≤◌, ◌+◌, ◌*◌, ◌/◌, ◌∙◌, sym, refl, arith}
use Rattle.std.proofs.lemmas.Nat.{div_below}
use Rattle.std.proofs.lemmas.Int.{ints, int_max_is}
use Rattle.pix_chan.specs.Nearest.{nearest}
use Rattle.pix_chan.proofs.Whole.{nearest_of_natural, nearest_of_negative}

pub nearest-same : (m : ℕ) (n n' d d' : ℤ) → n ≡ n' → d ≡ d' → nearest m n d ≡ nearest m n' d'
nearest-same m n n' d d' en ed = cc

pub nearest-exact : (m n : ℕ) → n ≤ m → nearest m (pos n) (pos 1) ≡ n
unfolding nearest
nearest-exact m n h = omega arith

-- half of nothing rounds to nothing
pub nearest-zero : (m d : ℕ) → 0 < d → 0 ≡ nearest m (pos 0) (pos d)
nearest-zero m d h =
    let none : (2 * 0 + d) / (2 * d) < 1 = div_below (2 * 0 + d) (2 * d) 1 (omega arith) (omega arith) in
    nearest_of_natural m 0 d 0 (omega (arith, none))

-- what is below 0 counts as 0
pub nearest-cut : (m : ℕ) (n : ℤ) (d : ℕ) → 0 < d → nearest m (int_max n (pos 0)) (pos d) ≡ nearest m n (pos d)
nearest-cut m (pos n) d h = nearest-same m _ _ _ _ (omega (arith, ints, int_max_is (pos n) (pos 0))) refl
nearest-cut m (negsuc n) d h =
    nearest-same m _ (pos 0) _ (pos d) (omega (arith, ints, int_max_is (negsuc n) (pos 0))) refl
    ∙ sym (nearest-zero m d h)
    ∙ nearest_of_negative m (negsuc n) (pos d) (omega (arith, ints)) (omega (arith, ints))
