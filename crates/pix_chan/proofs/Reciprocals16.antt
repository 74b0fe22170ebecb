-- Quotients by alphas of eight bits, by a table of reciprocals.
use Rattle.std.proofs.Common.{◌≡◌, ℕ, zero, suc, ◌&&◌, ◌<◌, ◌≤◌, ◌+◌, ◌*◌, ◌/◌, ◌%◌, ◌-◌, Bool, true, nat_eq, nat_lt, List, [], ◌∷◌, length, arith, sym, ap, ◌∙◌, min, refl, get_or, ltb-true}
use Rattle.std.proofs.lemmas.Nat.{mul-le, div-mul-add}
use Rattle.std.proofs.Math.Nat.{div-add-mod', mod-lt}
use Rattle.std.proofs.lemmas.Bool.{and_parts, eqb-true}
use Rattle.pix_chan.specs.Product.{channel_quotient}
use Rattle.pix_chan.specs.declared.quotients16.TheConstants.{RECIPROCALS}

-- a product with a reciprocal, by its parts: the dividend is q (s + t) + r, what the reciprocal
-- divides is k (s + t) + s
by_parts : (q r k s t : ℕ) → r < s + t → q * (s + t) + r + (s + t) ≤ k → (q * (s + t) + r) * (k + 1) / (k * (s + t) + s) ≡ q
by_parts q r k s t hr hk =
    let top : (r + 1) * (k + 1) ≤ (s + t) * (k + 1) = mul-le (r + 1) (k + 1) (s + t) (k + 1) (omega arith) (omega arith) in
    let side : q * t ≤ q * (s + t) = mul-le q t q (s + t) (omega arith) (omega arith) in
    let small : q * t + r * (k + 1) < k * (s + t) + s = grind (arith, top, side, hk) in
    let e : (q * (s + t) + r) * (k + 1) ≡ q * (k * (s + t) + s) + (q * t + r * (k + 1)) = grind arith in
    rw e (div-mul-add q (k * (s + t) + s) (q * t + r * (k + 1)) small)

by_parts_of : (n d p q r k s t : ℕ) → d ≡ s + t → n ≡ q * d + r → p ≡ k * d + s → r < s + t → q * (s + t) + r + (s + t) ≤ k → n * (k + 1) / p ≡ q
by_parts_of n d p q r k s t ed en ep hr hk = rw (en, ep, ed) (by_parts q r k s t hr hk)

abbrev whole : ℕ
whole = 281474976710656

-- a dividend of sixteen bits, 2^16 times as much
by_reciprocal : (n d : ℕ) → n < 4294967296 → 0 < d → d < 65536 → n * (whole / d + 1) / whole ≡ n / d
by_reciprocal n d hn some hd =
    let q = n / d in
    let r = n % d in
    let k = whole / d in
    let s = whole % d in
    let en : n ≡ q * d + r = sym (div-add-mod' n d) in
    let ep : whole ≡ k * d + s = sym (div-add-mod' whole d) in
    let hr : r < d = mod-lt n (omega (arith, some)) in
    let hs : s < d = mod-lt whole (omega (arith, some)) in
    let ed : d ≡ s + (d - s) = omega (arith, hs) in
    let most : k * d ≤ k * 65535 = mul-le k d k 65535 (omega arith) (omega (arith, hd)) in
    by_parts_of n d whole q r k s (d - s) ed en ep (omega (arith, hr, ed)) (rw (sym ed, sym en) (omega (arith, hn, hd, ep, most, hs)))

-- a table whose entry of number k is 2^48 / 257 k + 1, from the number i on, and that each is below
-- 2^41
abbrev test : ℕ → ℕ → Bool
test i x = nat_eq x (whole / (257 * i) + 1) && nat_lt x 2199023255552

abbrev lists : ℕ → List ℕ → Bool
lists i [] = true
lists i (x ∷ xs) = test i x && lists (suc i) xs

reads : (i : ℕ) (xs : List ℕ) (k : ℕ) → lists i xs ≡ true → k < length xs → test (i + k) (get_or xs k 0) ≡ true
reads i [] k h hk = absurd (omega (arith, hk))
reads i (x ∷ xs) zero h hk =
    let same : i + 0 ≡ i = omega arith in
    rw same (and_parts (test i x) (lists (suc i) xs) h).0
reads i (x ∷ xs) (suc k) h hk =
    let same : i + suc k ≡ suc i + k = omega arith in
    rw same (reads (suc i) xs k (and_parts (test i x) (lists (suc i) xs) h).1 (omega (arith, hk)))

-- the entries behind the first
abbrev behind : List ℕ → List ℕ
behind [] = []
behind (x ∷ xs) = xs

all_listed : lists 1 (behind RECIPROCALS) ≡ true
all_listed = refl

entry : (b : ℕ) → suc b < 256 → test (1 + b) (get_or (behind RECIPROCALS) b 0) ≡ true
entry b lt = reads 1 (behind RECIPROCALS) b all_listed (omega (arith, lt))

pub entry_is : (b : ℕ) → 0 < b → b < 256 → get_or RECIPROCALS b 0 ≡ whole / (257 * b) + 1
entry_is zero some lt = absurd (omega (arith, some))
entry_is (suc b) some lt =
    let x : ℕ = get_or (behind RECIPROCALS) b 0 in
    let e = eqb-true x (whole / (257 * (1 + b)) + 1) (and_parts (nat_eq x (whole / (257 * (1 + b)) + 1)) (nat_lt x 2199023255552) (entry b lt)).0 in
    let same : 1 + b ≡ suc b = omega arith in
    e ∙ ap (λ (n : ℕ). whole / (257 * n) + 1) same

pub entry_fits : (b : ℕ) → b < 256 → get_or RECIPROCALS b 0 < 2199023255552
entry_fits zero lt = omega arith
entry_fits (suc b) lt =
    let x : ℕ = get_or (behind RECIPROCALS) b 0 in
    ltb-true x 2199023255552 (and_parts (nat_eq x (whole / (257 * (1 + b)) + 1)) (nat_lt x 2199023255552) (entry b lt)).1

-- 2^16 taken out of both
scaled : (m : ℕ) → 65536 * m / whole ≡ m / 4294967296
scaled m = omega arith

raised : (c k : ℕ) → c * 65536 * k ≡ 65536 * (c * k)
raised c k = grind arith

-- the quotient of a channel and any alpha
pub by_alpha : (c d : ℕ) → c < 65536 → 0 < d → d < 65536 → c * (whole / d + 1) / 4294967296 ≡ c * 65536 / d
by_alpha c d hc some hd =
    let k : ℕ = whole / d + 1 in
    sym (scaled (c * k)) ∙ ap (λ (n : ℕ). n / whole) (sym (raised c k)) ∙ by_reciprocal (c * 65536) d (omega (arith, hc)) some hd

-- the quotient of a channel and an alpha of eight bits
pub by_byte : (c b : ℕ) → c < 65536 → 0 < b → b < 256 → c * (whole / (257 * b) + 1) / 4294967296 ≡ c * 65536 / (257 * b)
by_byte c b hc some hb = by_alpha c (257 * b) hc (omega (arith, some)) (omega (arith, hb))

-- a reciprocal of 48 bits by two divisions of 32 bits
in_two : (d : ℕ) → 0 < d → 4294967295 / d * 65536 + (4294967295 % d + 1) * 65536 / d ≡ whole / d
in_two d some =
    let u : ℕ = 4294967295 / d in
    let n : ℕ = (4294967295 % d + 1) * 65536 in
    let v : ℕ = n / d in
    let s : ℕ = n % d in
    let upper : 4294967295 ≡ u * d + 4294967295 % d = sym (div-add-mod' 4294967295 d) in
    let lower : n ≡ v * d + s = sym (div-add-mod' n d) in
    let rest : s < d = mod-lt n (omega (arith, some)) in
    let by_d : (u * 65536 + v) * d + s ≡ u * d * 65536 + v * d + s = grind arith in
    let all : whole ≡ (u * 65536 + v) * d + s = omega (arith, upper, lower, by_d) in
    sym (ap (λ (n : ℕ). n / d) all ∙ div-mul-add (u * 65536 + v) d s rest)

-- the same in numbers of 32 and of 64 bits
pub in_words : (d u l : ℕ) → 0 < d → d < 65536 → u ≡ 4294967295 / d → l ≡ (4294967295 % d + 1) * 65536 % 4294967296 / d
    → u * 65536 % 18446744073709551616 + l + 1 ≡ whole / d + 1
in_words d u l some hd eu el =
    let all : 4294967295 ≡ 4294967295 / d * d + 4294967295 % d = sym (div-add-mod' 4294967295 d) in
    let rest : 4294967295 % d < d = mod-lt 4294967295 (omega (arith, some)) in
    let least : 4294967295 / d * 1 ≤ 4294967295 / d * d = mul-le (4294967295 / d) 1 (4294967295 / d) d (omega arith) some in
    let upper : u * 65536 % 18446744073709551616 ≡ 4294967295 / d * 65536 = omega (arith, eu, all, least) in
    let fits : (4294967295 % d + 1) * 65536 % 4294967296 ≡ (4294967295 % d + 1) * 65536 = omega (arith, rest, hd) in
    let lower : l ≡ (4294967295 % d + 1) * 65536 / d = el ∙ ap (λ (n : ℕ). n / d) fits in
    rw (upper, lower) (ap (λ (n : ℕ). n + 1) (in_two d some))

-- that of two or more fits in 48 bits
pub reciprocal_fits : (d : ℕ) → 1 < d → whole / d + 1 < whole
reciprocal_fits d some =
    let k : ℕ = whole / d in
    let all : whole ≡ k * d + whole % d = sym (div-add-mod' whole d) in
    let twice : k * 2 ≤ k * d = mul-le k 2 k d (omega arith) (omega (arith, some)) in
    omega (arith, all, twice)

pub cut : (x y : ℕ) → 0 < y → min (65536 * x / y) 65535 ≡ channel_quotient 65535 x y
cut x zero some = absurd (omega (arith, some))
cut x (suc y) some = omega arith

pub quotient_is : (c b r : ℕ) → c < 65536 → b < 256 → r ≡ get_or RECIPROCALS b 0 → min (c * r / 4294967296) 65535 ≡ channel_quotient 65535 c (257 * b)
quotient_is c zero r hc hb e = rw e (let none : c * 0 / 4294967296 ≡ 0 = omega arith in rw none (omega arith))
quotient_is c (suc b) r hc hb e =
    let d : ℕ = 257 * suc b in
    rw (e ∙ entry_is (suc b) (omega arith) hb) (ap (λ (n : ℕ). min n 65535) (by_byte c (suc b) hc (omega arith) hb ∙ ap (λ (n : ℕ). n / d) (let t : c * 65536 ≡ 65536 * c = omega arith in t))
    ∙ cut c d (omega arith))
