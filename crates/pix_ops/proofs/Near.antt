-- One rounded composite is within its product count of the exact composite. The source may have
-- been rounded k times on the way from a fraction of the whole f: it has not been where k is 0 and
-- f is max.
use Rattle.std.proofs.Common.{ℕ, ◌+◌, ◌-◌, ◌*◌, ◌≤◌, min, arith, mul-le-mul_left, mul-le-mul_right, mul_comm}
use Rattle.std.proofs.lemmas.Nat.{mul-le}
use Rattle.pix_ops.specs.declared.ops.Op.{Op}
use Rattle.pix_chan.specs.Product.{channel_product, fineness, IsProduct}
use Rattle.pix_ops.specs.Operators.{Coefficient, Zero, One, OtherAlpha, OneMinusAlpha, row, reads, enters}
use Rattle.pix_ops.specs.Composite.{channel_composite}
use Rattle.pix_ops.specs.ExactComposite.{weight, Within, IsNear, IsNearMatted}
use Rattle.pix_ops.proofs.Within.{within_cut_times, within_cancel, min_times, rest_times}
use Rattle.pix_ops.proofs.Terms.{term_by, term_is}

-- a channel x, rounded at most k times on the way from the fraction n / f
pub record IsFrom (fine k max f x n : ℕ) : Type 0 where
  pub small : x ≤ max
  pub proper : n ≤ f
  pub close : Within (k * f) (x * f * fine) (max * n * fine)

-- a channel that was not rounded
pub from_itself : (fine max x : ℕ) → x ≤ max → IsFrom fine 0 max max x x
from_itself fine max x l = omega arith

-- a product with w
pub product_near : (fine max k f x n w : ℕ) (product : ℕ → ℕ → ℕ) → IsProduct fine max product → IsFrom fine k max f x n → w ≤ max
    → Within ((1 + k) * f) (product x w * f * fine) (n * w * fine)
product_near fine max k f x n w product laws from l =
    let up = mul-le-mul_right f (laws.above x w from.small l) in
    let down = mul-le-mul_right f (laws.below x w from.small l) in
    let c = mul-le-mul_right w from.close.above in
    let d = mul-le-mul_right w from.close.below in
    let e = mul-le-mul_left (k * f) l in
    within_cancel max _ _ _ laws.positive (omega arith)

-- a product is a channel that was rounded once
pub from_product : (fine max x w : ℕ) (product : ℕ → ℕ → ℕ) → IsProduct fine max product → x ≤ max → w ≤ max → IsFrom fine 1 max (max * max) (product x w) (x * w)
from_product fine max x w product laws l lw =
    let c = product_near fine max 0 max x x w product laws (from_itself fine max x l) lw in
    let up = mul-le-mul_left max c.above in
    let down = mul-le-mul_left max c.below in
    record { small = omega (arith, laws.at_most_operand x w l lw); proper = mul-le x w max max l lw; close = omega arith }

-- what a channel leaves of the max
pub rest_from : (fine k max f x n : ℕ) → IsFrom fine k max f x n → IsFrom fine k max f (max - x) (f - n)
rest_from fine k max f x n from =
    let a = rest_times max x (f * fine) from.small in
    let b = rest_times f n (max * fine) from.proper in
    record { small = omega arith; proper = omega arith; close = omega arith }

-- the source's term
pub source_near : (a : Coefficient) (fine k max f s n alpha : ℕ) (product : ℕ → ℕ → ℕ) → IsProduct fine max product → IsFrom fine k max f s n → alpha ≤ max
    → Within ((reads a + k * enters a) * f) (term_by product max a s alpha * f * fine) (n * weight a max alpha * fine)
source_near Zero fine k max f s n alpha product laws from l = omega arith
source_near One fine k max f s n alpha product laws from l = let c = from.close in omega arith
source_near OtherAlpha fine k max f s n alpha product laws from l = let c = product_near fine max k f s n alpha product laws from l in omega arith
source_near OneMinusAlpha fine k max f s n alpha product laws from l = let c = product_near fine max k f s n (max - alpha) product laws from (omega arith) in omega arith

-- the destination's term, by the source's alpha t
pub dest_near : (b : Coefficient) (fine k max f t n d : ℕ) (product : ℕ → ℕ → ℕ) → IsProduct fine max product → IsFrom fine k max f t n → d ≤ max
    → Within (((1 + k) * reads b) * f) (term_by product max b d t * f * fine) (d * weight b f n * fine)
dest_near Zero fine k max f t n d product laws from l = omega arith
dest_near One fine k max f t n d product laws from l = omega arith
dest_near OtherAlpha fine k max f t n d product laws from l = let c = product_near fine max k f t n d product laws from l in rw (laws.commutes d t) (omega arith)
dest_near OneMinusAlpha fine k max f t n d product laws from l =
    let c = product_near fine max k f (max - t) (f - n) d product laws (rest_from fine k max f t n from) l in
    rw (laws.commutes d (max - t)) (omega arith)

-- both terms, stopped at the max: s and t are the source's channel and alpha, from m / f and n / f
pub composite_near : (a b : Coefficient) (fine k max f s m t n d da : ℕ) (product : ℕ → ℕ → ℕ) → IsProduct fine max product → IsFrom fine k max f s m → IsFrom fine k max f t n → d ≤ max → da ≤ max
    → Within ((reads a + k * enters a + (1 + k) * reads b) * f)
    (min max (term_by product max a s da + term_by product max b d t) * f * fine)
    (min (f * max) (m * weight a max da + d * weight b f n) * fine)
composite_near a b fine k max f s m t n d da product laws source alpha ld lda =
    let p = source_near a fine k max f s m da product laws source lda in
    let q = dest_near b fine k max f t n d product laws alpha ld in
    let sums : Within ((reads a + k * enters a + (1 + k) * reads b) * f) ((term_by product max a s da + term_by product max b d t) * f * fine) ((m * weight a max da + d * weight b f n) * fine) = omega arith in
    rw (min_times max (term_by product max a s da + term_by product max b d t) f, mul_comm f max) (within_cut_times (max * f) _ _ _ fine sums)

-- `fine` before the numbers
turned : (d u v fine : ℕ) → Within d (u * fine) (v * fine) → Within d (fine * u) (fine * v)
turned d u v fine p = omega arith

-- a channel's composite with no matte
pub channel_near : (op : Op) (max s sa d da : ℕ) → IsProduct fineness max (channel_product max) → s ≤ max → sa ≤ max → d ≤ max → da ≤ max
    → IsNear max op s sa d da (channel_composite max op s sa d da)
channel_near op max s sa d da laws ls lsa ld lda =
    let a = (row op).source in
    let b = (row op).dest in
    let t = max in
    rw (term_is a max s da, term_is b max d sa)
    (turned _ _ _ fineness (composite_near a b fineness 0 t t s s sa sa d da (channel_product max) laws (from_itself fineness t s ls) (from_itself fineness t sa lsa) ld lda))

-- a channel's composite through the matte m
pub matted_near : (op : Op) (max s sa m d da : ℕ) → IsProduct fineness max (channel_product max) → s ≤ max → sa ≤ max → m ≤ max → d ≤ max → da ≤ max
    → IsNearMatted max op m s sa d da (channel_composite max op (channel_product max s m) (channel_product max sa m) d da)
matted_near op max s sa m d da laws ls lsa lm ld lda =
    let a = (row op).source in
    let b = (row op).dest in
    let t = max in
    let p = channel_product max in
    rw (term_is a max (p s m) da, term_is b max d (p sa m))
    (turned _ _ _ fineness (composite_near a b fineness 1 t (t * t) (p s m) (s * m) (p sa m) (sa * m) d da p laws (from_product fineness t s m p laws ls lm) (from_product fineness t sa m p laws lsa lm) ld lda))
