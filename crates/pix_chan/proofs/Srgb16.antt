-- The tables between 8 bits and 16: all entries are tested, by computing.
use Rattle.std.proofs.Common.{◌≡◌, ℕ, zero, suc, ◌≤◌, ◌<◌, ◌+◌, ◌*◌, ◌-◌, ◌/◌, ◌%◌, ◌⊎◌, Bool, true, ◌&&◌, nat_le, nat_lt, nat_eq, min, refl, sym, subst, inl, inr, leb-true, ltb-true, eqb-true, arith}
use Rattle.std.specs.Prelude.{slice_index_or}
use Rattle.std.proofs.lemmas.Bool.{and_parts, cases_lt}
use Rattle.std.proofs.lemmas.Nat.{mul-le}
use Rattle.std.proofs.Math.Nat.{div-add-mod', mod-lt, le_refl, le_trans}
use Rattle.pix_chan.specs.SrgbCurve.{curve_side, fraction_side, IsNearestDecoded, IsNearestEncoded}
use Rattle.pix_chan.specs.Product.{channel_product}
use Rattle.pix_chan.specs.Srgb16.{srgb_encoded8, srgb_decoded16, through_alpha, IsCurve16}
use Rattle.pix_chan.specs.declared.chan.srgb16.TheConstants.{DECODE16, LEVELS}
use Rattle.pix_chan.proofs.Entries.{each_from, each_at, is_nearest_decoded, nearest_decoded}
use Rattle.pix_chan.proofs.Rising.{rises_by, rising}
use Rattle.pix_chan.proofs.SrgbOnce.{grown}

-- the tables, read at a level and at a channel
abbrev light_of : ℕ → ℕ
light_of level = slice_index_or DECODE16 level 0

abbrev level_of : ℕ → ℕ
level_of channel = (slice_index_or LEVELS (channel / 16) 0 + channel % 16) / 16

decoded_all : each_from (is_nearest_decoded 65535) 0 DECODE16 ≡ true
decoded_all = refl

pub decoded : (i n : ℕ) → n ≡ i → i < 256 → IsNearestDecoded 65535 i (slice_index_or DECODE16 n 0)
decoded i n e lt = rw e (nearest_decoded 65535 i (slice_index_or DECODE16 i 0) (each_at (is_nearest_decoded 65535) DECODE16 decoded_all i lt))

-- the two halves of being the nearest level
abbrev pub is_above : ℕ → ℕ → Bool
is_above v i = nat_le (curve_side (2 * v - 1) 510 65535) (fraction_side (2 * v - 1) 510 i)

abbrev pub is_below : ℕ → ℕ → Bool
is_below v i = nat_lt (fraction_side (2 * v + 1) 510 i) (curve_side (2 * v + 1) 510 65535)

-- Entry k stands for sixteen channels. Its level is the nearest at the first of them and at the
-- last that has it, and so is the next one at the first that has that and at the last of the
-- sixteen.
abbrev pub is_entry : ℕ → ℕ → Bool
is_entry k e =
    nat_le e 4080
    && (is_above (e / 16) (16 * k) && (is_below (e / 16) (16 * k + 15 - e % 16)
    && (is_above ((e + 15) / 16) (16 * k + 16 - e % 16) && is_below ((e + 15) / 16) (16 * k + 15))))

levels_all : each_from is_entry 0 LEVELS ≡ true
levels_all = refl

between : (v a i b : ℕ) → a ≤ i → i ≤ b → is_above v a ≡ true → is_below v b ≡ true → IsNearestEncoded 65535 i v
between v a i b al ib above below =
    let up : curve_side (2 * v - 1) 510 65535 ≤ fraction_side (2 * v - 1) 510 a = leb-true (curve_side (2 * v - 1) 510 65535) (fraction_side (2 * v - 1) 510 a) above in
    let down : fraction_side (2 * v + 1) 510 b < curve_side (2 * v + 1) 510 65535 = ltb-true (fraction_side (2 * v + 1) 510 b) (curve_side (2 * v + 1) 510 65535) below in
    record { above = le_trans up (grown (2 * v - 1) 510 a i al); below = le_trans (suc-le (grown (2 * v + 1) 510 i b ib)) down }
  where
    suc-le : {x y : ℕ} → x ≤ y → suc x ≤ suc y
    suc-le le = omega arith

parts : (k e : ℕ) → is_entry k e ≡ true → (is_above (e / 16) (16 * k) ≡ true) × (is_below (e / 16) (16 * k + 15 - e % 16) ≡ true)
    × (is_above ((e + 15) / 16) (16 * k + 16 - e % 16) ≡ true) × (is_below ((e + 15) / 16) (16 * k + 15) ≡ true) × (e ≤ 4080)
parts k e h =
    let a = is_above (e / 16) (16 * k) in
    let b = is_below (e / 16) (16 * k + 15 - e % 16) in
    let c = is_above ((e + 15) / 16) (16 * k + 16 - e % 16) in
    let d = is_below ((e + 15) / 16) (16 * k + 15) in
    let one = and_parts (nat_le e 4080) (a && (b && (c && d))) h in
    let two = and_parts a (b && (c && d)) one.1 in
    let three = and_parts b (c && d) two.1 in
    let four = and_parts c d three.1 in
    (two.0, three.0, four.0, four.1, leb-true e 4080 one.0)

-- a channel of the sixteen has the level of the first, or the one of the last
level_first : (e w : ℕ) → w < 16 - e % 16 → (e + w) / 16 ≡ e / 16
level_first e w h = omega arith

level_last : (e w : ℕ) → 16 - e % 16 ≤ w → w < 16 → (e + w) / 16 ≡ (e + 15) / 16
level_last e w h lt = omega arith

entry_by : (k e w : ℕ) → is_entry k e ≡ true → w < 16 → (w < 16 - e % 16) ⊎ (16 - e % 16 ≤ w) → IsNearestEncoded 65535 (16 * k + w) ((e + w) / 16)
entry_by k e w h lt (inl less) =
    let p = parts k e h in
    rw (level_first e w less) (between (e / 16) (16 * k) (16 * k + w) (16 * k + 15 - e % 16) (omega arith) (omega arith) p.0 p.1)
entry_by k e w h lt (inr more) =
    let p = parts k e h in
    rw (level_last e w more lt) (between ((e + 15) / 16) (16 * k + 16 - e % 16) (16 * k + w) (16 * k + 15) (omega arith) (omega arith) p.2 p.3)

entry : (k e w : ℕ) → is_entry k e ≡ true → w < 16 → IsNearestEncoded 65535 (16 * k + w) ((e + w) / 16)
entry k e w h lt = entry_by k e w h lt (cases_lt w (16 - e % 16))

pub entry_fits : (k n : ℕ) → n ≡ k → k < 4096 → slice_index_or LEVELS n 0 ≤ 4080
entry_fits k n e lt = rw e (parts k (slice_index_or LEVELS k 0) (each_at is_entry LEVELS levels_all k lt)).4

pub encoded : (i : ℕ) → i < 65536 → IsNearestEncoded 65535 i (level_of i)
encoded i lt =
    let same : i ≡ 16 * (i / 16) + i % 16 = omega arith in
    let there = each_at is_entry LEVELS levels_all (i / 16) (omega arith) in
    subst (λ n. IsNearestEncoded 65535 n (level_of i)) (sym same) (entry (i / 16) (slice_index_or LEVELS (i / 16) 0) (i % 16) there (omega arith))

pub encoded_by : (i e w : ℕ) → e ≡ slice_index_or LEVELS (i / 16) 0 → w ≡ i % 16 → i < 65536 → IsNearestEncoded 65535 i ((e + w) / 16)
encoded_by i e w he hw lt = rw (he, hw) (encoded i lt)

-- the first level of the sixteen channels after these
abbrev next : ℕ → ℕ
next e = (e + 15) / 16 * 16

levels_rise : rises_by next LEVELS ≡ true
levels_rise = refl

decoded_rise : rises_by suc DECODE16 ≡ true
decoded_rise = refl

abbrev is_back : ℕ → ℕ → Bool
is_back level channel = nat_eq (level_of channel) level

back_all : each_from is_back 0 DECODE16 ≡ true
back_all = refl

grows : (e : ℕ) → e ≤ next e
grows e = omega arith

never_falls_by : (m n : ℕ) → m ≤ n → n < 65536 → (m / 16 < n / 16) ⊎ (n / 16 ≤ m / 16) → level_of m ≤ level_of n
never_falls_by m n le lt (inl less) =
    let step = rising next grows LEVELS levels_rise (m / 16) (n / 16) less (omega arith) in
    far (slice_index_or LEVELS (m / 16) 0) (slice_index_or LEVELS (n / 16) 0) (m % 16) (n % 16) step (omega arith)
  where
    far : (e e' w w' : ℕ) → next e ≤ e' → w < 16 → (e + w) / 16 ≤ (e' + w') / 16
    far e e' w w' step lt = omega arith
never_falls_by m n le lt (inr same) =
    let one : m / 16 ≡ n / 16 = omega arith in
    let more : m % 16 ≤ n % 16 = omega arith in
    rw one (near (slice_index_or LEVELS (n / 16) 0) (m % 16) (n % 16) more)
  where
    near : (e w w' : ℕ) → w ≤ w' → (e + w) / 16 ≤ (e + w') / 16
    near e w w' le = omega arith

-- the levels nine units below an entry and nine above it, the entry itself being a channel
abbrev is_wide : ℕ → ℕ → Bool
is_wide level channel = nat_eq (level_of (channel - 9)) level && (nat_eq (level_of (min (channel + 9) 65535)) level && nat_le channel 65535)

wide_all : each_from is_wide 0 DECODE16 ≡ true
wide_all = refl

never_falls : (m n : ℕ) → m ≤ n → n < 65536 → level_of m ≤ level_of n
never_falls m n le lt = never_falls_by m n le lt (cases_lt (m / 16) (n / 16))

within_by : (level d n : ℕ) → is_wide level d ≡ true → n < 65536 → n ≤ d + 9 → d ≤ n + 9 → level_of n ≡ level
within_by level d n h lt up down =
    let low = nat_eq (level_of (d - 9)) level in
    let high = nat_eq (level_of (min (d + 9) 65535)) level in
    let one = and_parts low (high && nat_le d 65535) h in
    let two = and_parts high (nat_le d 65535) one.1 in
    pinched (level_of (d - 9)) (level_of n) (level_of (min (d + 9) 65535)) level (eqb-true (level_of (d - 9)) level one.0) (eqb-true (level_of (min (d + 9) 65535)) level two.0)
    (never_falls (d - 9) n (omega arith) lt) (never_falls n (min (d + 9) 65535) (omega arith) (omega arith))
  where
    pinched : (a b c l : ℕ) → a ≡ l → c ≡ l → a ≤ b → b ≤ c → b ≡ l
    pinched a b c l ea ec ab bc = omega arith

within : (level n : ℕ) → level < 256 → n < 65536 → n ≤ light_of level + 9 → light_of level ≤ n + 9 → level_of n ≡ level
within level n less lt up down = within_by level (light_of level) n (each_at is_wide DECODE16 wide_all level less) lt up down

channel_fits : (level : ℕ) → level < 256 → light_of level ≤ 65535
channel_fits level less = by (light_of level) (each_at is_wide DECODE16 wide_all level less)
  where
    by : (d : ℕ) → is_wide level d ≡ true → d ≤ 65535
    by d h =
        let low = nat_eq (level_of (d - 9)) level in
        let high = nat_eq (level_of (min (d + 9) 65535)) level in
        leb-true d 65535 (and_parts high (nat_le d 65535) (and_parts low (high && nat_le d 65535) h).1).1

-- how far the product and the quotient take a channel
not_above : (x a p q : ℕ) → x ≤ 65535 → 4096 ≤ a → p ≡ channel_product 65535 x a → q * a ≤ 65536 * p → q ≤ x + 9
unfolding channel_product
not_above x a p q hx ha ep hq = elim (cases_lt (x + 9) q) [ inl more ↦ absurd (contradiction more) | inr le ↦ le ]
  where
    contradiction : x + 9 < q → ⊥
    contradiction more =
        let wide : (x + 9) * a ≤ q * a = mul-le (x + 9) a q a (omega arith) (le_refl a) in
        let most : x * a ≤ 65535 * a = mul-le x a 65535 a hx (le_refl a) in
        omega (arith, wide, most, ep, hq, ha)

not_below : (x a p q : ℕ) → 4096 ≤ a → p ≡ channel_product 65535 x a → 65536 * p < (q + 1) * a → x ≤ q + 9
unfolding channel_product
not_below x a p q ha ep hq = elim (cases_lt (q + 9) x) [ inl more ↦ absurd (contradiction more) | inr le ↦ le ]
  where
    contradiction : q + 9 < x → ⊥
    contradiction more =
        let wide : (q + 10) * a ≤ x * a = mul-le (q + 10) a x a (omega arith) (le_refl a) in
        omega (arith, wide, ep, hq, ha)

through : (level a : ℕ) → level < 256 → 4096 ≤ a → a < 65536 → level_of (through_alpha (light_of level) a) ≡ level
through level zero less ha lt = absurd (omega arith)
through level (suc b) less ha lt = by (light_of level) (channel_fits level less) refl
  where
    by : (x : ℕ) → x ≤ 65535 → x ≡ light_of level → level_of (through_alpha x (suc b)) ≡ level
    by x hx e =
        let a = suc b in
        let p = channel_product 65535 x a in
        let q = 65536 * p / a in
        let whole : q * a + 65536 * p % a ≡ 65536 * p = div-add-mod' (65536 * p) a in
        let rest : 65536 * p % a < a = mod-lt (65536 * p) (omega arith) in
        let up : q ≤ x + 9 = not_above x a p q hx ha refl (omega arith) in
        let down : x ≤ q + 9 = not_below x a p q ha refl (omega arith) in
        within level (min 65535 q) less (omega arith) (rw (sym e) (omega arith)) (rw (sym e) (omega arith))

-- at the three alphas of eight bits below sixteen that keep each level
abbrev is_back_through : ℕ → ℕ → ℕ → Bool
is_back_through a level channel = nat_eq (level_of (through_alpha channel a)) level

through_13 : each_from (is_back_through 3341) 0 DECODE16 ≡ true
unfolding channel_product
through_13 = refl

through_14 : each_from (is_back_through 3598) 0 DECODE16 ≡ true
unfolding channel_product
through_14 = refl

through_15 : each_from (is_back_through 3855) 0 DECODE16 ≡ true
unfolding channel_product
through_15 = refl

through_test : (a level : ℕ) → each_from (is_back_through a) 0 DECODE16 ≡ true → level < 256 → level_of (through_alpha (light_of level) a) ≡ level
through_test a level h less = eqb-true (level_of (through_alpha (light_of level) a)) level (each_at (is_back_through a) DECODE16 h level less)

through_at : (level byte n : ℕ) → each_from (is_back_through (257 * n)) 0 DECODE16 ≡ true → byte ≡ n → level < 256 → level_of (through_alpha (light_of level) (257 * byte)) ≡ level
through_at level byte n h e less = rw e (through_test (257 * n) level h less)

through_byte : (level byte : ℕ) → level < 256 → 13 ≤ byte → byte < 256 → level_of (through_alpha (light_of level) (257 * byte)) ≡ level
through_byte level byte less from lt =
    elim (cases_lt byte 14) [
      | inl first ↦ through_at level byte 13 through_13 (omega arith) less
      | inr more ↦ elim (cases_lt byte 15) [
        | inl second ↦ through_at level byte 14 through_14 (omega arith) less
        | inr most ↦ elim (cases_lt byte 16) [
          | inl third ↦ through_at level byte 15 through_15 (omega arith) less
          | inr many ↦ through level (257 * byte) less (omega arith) (omega arith)
        ]
      ]
    ]

pub curve : IsCurve16 srgb_decoded16 srgb_encoded8
unfolding srgb_decoded16 srgb_encoded8
curve = record {
  decoded_fits = λ level lt. let fits = channel_fits level lt in omega arith;
  encoded_fits = λ channel lt. let fits = entry_fits (channel / 16) (channel / 16) refl (omega arith) in omega arith;
  rises = λ m n less lt. rising suc (λ x. omega arith) DECODE16 decoded_rise m n less lt;
  never_falls = never_falls;
  comes_back = λ level lt. eqb-true (level_of (light_of level)) level (each_at is_back DECODE16 back_all level lt);
  comes_back_within = within;
  comes_back_through = through;
  comes_back_through_byte = through_byte;
}
