-- A table of reciprocals, and the quotients that they give.
use Rattle.std.proofs.Common.{◌≡◌, ℕ, zero, suc, ◌&&◌, ◌<◌, ◌≤◌, ◌+◌, ◌*◌, ◌/◌, ◌%◌, ◌-◌, Bool, true, nat_eq, List, [], ◌∷◌, length, arith, sym, ap, ◌∙◌}
use Rattle.std.proofs.lemmas.Nat.{mul-le, div-mul-add, div_below}
use Rattle.std.proofs.Math.Nat.{div-zero, div-add-mod', mod-lt}
use Rattle.std.proofs.lemmas.Bool.{and_parts, eqb-true}
use lib.ListN.{get_or}

-- a product with a reciprocal, by its parts: the dividend is q (s + t) + r, what the reciprocal
-- divides is k (s + t) + s
by_parts : (q r k s t : ℕ) → r < s + t → q * (s + t) + r + (s + t) ≤ k → (q * (s + t) + r) * (k + 1) / (k * (s + t) + s) ≡ q
by_parts q r k s t hr hk =
    let top : (r + 1) * (k + 1) ≤ (s + t) * (k + 1) = mul-le (r + 1) (k + 1) (s + t) (k + 1) (omega arith) (omega arith) in
    let side : q * t ≤ q * (s + t) = mul-le q t q (s + t) (omega arith) (omega arith) in
    let small : q * t + r * (k + 1) < k * (s + t) + s = grind (arith, top, side, hk) in
    let e : (q * (s + t) + r) * (k + 1) ≡ q * (k * (s + t) + s) + (q * t + r * (k + 1)) = grind arith in
    rw e (div-mul-add q (k * (s + t) + s) (q * t + r * (k + 1)) small)

-- a table whose entry of number k is 2^25 / k + 1, from the number i on
abbrev pub lists : ℕ → List ℕ → Bool
lists i [] = true
lists i (x ∷ xs) = nat_eq x (33554432 / i + 1) && lists (suc i) xs

reads : (i : ℕ) (xs : List ℕ) (k e : ℕ) → lists i xs ≡ true → k < length xs → get_or xs k e ≡ 33554432 / (i + k) + 1
reads i [] k e h hk = absurd (omega arith)
reads i (x ∷ xs) zero e h hk =
    let first = eqb-true x (33554432 / i + 1) (and_parts (nat_eq x (33554432 / i + 1)) (lists (suc i) xs) h).0 in
    let same : i ≡ i + 0 = omega arith in
    first ∙ ap (λ n. 33554432 / n + 1) same
reads i (x ∷ xs) (suc k) e h hk =
    let rest = reads (suc i) xs k e (and_parts (nat_eq x (33554432 / i + 1)) (lists (suc i) xs) h).1 (omega (arith, hk)) in
    let same : suc i + k ≡ i + suc k = omega arith in
    rest ∙ ap (λ n. 33554432 / n + 1) same

-- an entry that was read
pub entry : (xs : List ℕ) (k e x : ℕ) → x ≡ get_or xs k e → lists 0 xs ≡ true → k < length xs → x ≡ 33554432 / k + 1
entry xs k e x read h hk =
    let from_zero : 0 + k ≡ k = omega arith in
    read ∙ reads 0 xs k e h hk ∙ ap (λ n. 33554432 / n + 1) from_zero

-- a number over 2^25, if it is below
div_below_one : (n : ℕ) → n < 131072 → n * (33554432 / 0 + 1) / 33554432 ≡ 0
div_below_one n h =
    let none : n * 1 / 33554432 < 1 = div_below (n * 1) 33554432 1 (omega arith) (omega (arith, h)) in
    omega (arith, none)

by_parts_of : (n d p q r k s t : ℕ) → d ≡ s + t → n ≡ q * d + r → p ≡ k * d + s → r < s + t → q * (s + t) + r + (s + t) ≤ k → n * (k + 1) / p ≡ q
by_parts_of n d p q r k s t ed en ep hr hk = rw (en, ep, ed) (by_parts q r k s t hr hk)

-- the quotient, by the reciprocal of its divisor
pub by_reciprocal : (n d : ℕ) → n < 131072 → d < 256 → n * (33554432 / d + 1) / 33554432 ≡ n / d
by_reciprocal n zero hn hd = div_below_one n hn ∙ sym (div-zero n)
by_reciprocal n (suc m) hn hd =
    let d = suc m in
    let q = n / d in
    let r = n % d in
    let k = 33554432 / d in
    let s = 33554432 % d in
    let en : n ≡ q * d + r = sym (div-add-mod' n d) in
    let ep : 33554432 ≡ k * d + s = sym (div-add-mod' 33554432 d) in
    let hr : r < d = mod-lt n (omega arith) in
    let hs : s < d = mod-lt 33554432 (omega arith) in
    let ed : d ≡ s + (d - s) = omega (arith, hs) in
    let most : k * d ≤ k * 255 = mul-le k d k 255 (omega arith) (omega (arith, hd)) in
    by_parts_of n d 33554432 q r k s (d - s) ed en ep (omega (arith, hr, ed)) (rw (sym ed, sym en) (omega (arith, hn, hd, ep, most, hs)))
