-- The channels of pixels that were read one after the other.
use Rattle.std.proofs.Common.{◌≡◌, ℕ, zero, suc, ◌+◌, ◌*◌, ◌/◌, ◌%◌, ◌-◌, ◌<◌, ◌≤◌, ◌++◌, List, [], length, map, take, drop, get_or, arith, refl, ap, sym, subst, ◌∙◌}
use borrow.Rule.Slice.PartMut.{put_mid}
use Rattle.std.proofs.Math.Nat.{div-add-mod, mod-lt}
use Rattle.std.proofs.Math.Seq.{take-append_seam}
use Rattle.std.proofs.lemmas.List.{drop-drop}
use Rattle.std.proofs.lemmas.Nat.{div_below}
use Rattle.pix_el.specs.Stored.{in_pixels}
use Rattle.pix_scale.specs.Table.{flat}
use Rattle.pix_scale.proofs.Flat.{added_part}
use Rattle.pix_scale.proofs.Parts.{after_part, length-put_mid}
use Rattle.pix_scale.proofs.Sums.{at_of_part}
use Rattle.pix_scale.proofs.Terms.{Added, added_none}

-- the channels of a pixel
pixel_at : (count n p : ℕ) (l : List ℕ) → p < n → get_or (in_pixels count n l) p [] ≡ take count (drop (p * count) l)
pixel_at count zero p l lt = absurd (omega arith)
pixel_at count (suc n) zero l lt = let e : 0 * count ≡ 0 = omega arith in rw e refl
pixel_at count (suc n) (suc p) l lt =
    let e : count + p * count ≡ suc p * count = omega arith in
    pixel_at count n p (drop count l) (omega arith) ∙ ap (take count) (drop-drop (p * count) count l ∙ ap (λ (k : ℕ). drop k l) e)

pub flat_in : (count n x : ℕ) (l : List ℕ) → 0 < count → x < n * count → flat count (in_pixels count n l) x ≡ get_or l x 0
flat_in count n x l some lt =
    let p : x / count < n = div_below x count n some lt in
    let c : x % count < count = mod-lt x some in
    let d = div-add-mod x count in
    let e : x / count * count + x % count ≡ x = omega (arith, d) in
    ap (λ (q : List ℕ). get_or q (x % count) 0) (pixel_at count n (x / count) l p)
    ∙ at_of_part l (x / count * count) count (x % count) c
    ∙ ap (λ (k : ℕ). get_or l k 0) e

-- what was written at the front of a list
pub front_of : {C : Type 0} (own rest : List C) (k : ℕ) → length own ≡ k → take k (own ++ rest) ≡ own
front_of {C = C} own rest k long = subst (λ (j : ℕ). take j (own ++ rest) ≡ own) long (take-append_seam own rest)

-- a channel of pixels that were read to the front of a list
pub block_read : {D C : Type 0} (r : D → List ℕ) (number : C → ℕ) (count n k x : ℕ) (row : List D) (own rest : List C)
    → 0 < count → length own ≡ k → in_pixels count n (map number own) ≡ map r row → x < n * count
    → get_or (map number (take k (own ++ rest))) x 0 ≡ flat count (map r row) x
block_read {C = C} r number count n k x row own rest some long read lt =
    ap (λ (l : List C). get_or (map number l) x 0) (front_of own rest k long)
    ∙ sym (flat_in count n x (map number own) some lt)
    ∙ ap (λ (p : List (List ℕ)). flat count p x) read

-- both parts of a list get their terms
pub both_parts : (sums front back : List ℕ) (term : ℕ → ℕ) (m k j : ℕ) → m ≤ length sums → length front ≡ m → length back ≡ length sums - m → k ≡ m → j ≡ length sums - m
    → ((x : ℕ) → x < m → get_or front x 0 ≡ get_or sums x 0 + term x)
    → ((x : ℕ) → x < length sums - m → get_or back x 0 ≡ get_or (put_mid 0 k sums front) (m + x) 0 + term (m + x))
    → (x : ℕ) → x < length sums → get_or (put_mid m j (put_mid 0 k sums front) back) x 0 ≡ get_or sums x 0 + term x
both_parts sums front back term m k j le f b e d h i x lt =
    let one : List ℕ = put_mid 0 k sums front in
    let long : length one ≡ length sums = length-put_mid 0 k sums front (omega (arith, f, e)) (omega (arith, e, le)) in
    let zero_ : 0 + m ≡ m = omega arith in
    let first : Added sums one term m = subst (λ (z : ℕ). Added sums one term z) zero_
    (added_part sums sums front term 0 m k (omega (arith, le)) f e (added_none sums term) (λ y l. let z : 0 + y ≡ y = omega arith in rw z (h y l))) in
    let second : Added sums (put_mid m j one back) term (m + (length sums - m)) =
    added_part sums one back term m (length sums - m) j (omega (arith, le, long)) b d first i in
    second.done x (omega (arith, le, lt))

-- what stands in the second part before it gets its terms
pub behind_front : (sums front : List ℕ) (m k x : ℕ) → m ≤ length sums → length front ≡ m → k ≡ m → get_or (put_mid 0 k sums front) (m + x) 0 ≡ get_or sums (m + x) 0
behind_front sums front m k x le f e = after_part 0 k sums front (m + x) 0 (omega (arith, e)) (omega (arith, f, e)) (omega (arith, e, le))

-- where a row of `len` pixels is cut behind its blocks of eight, and `all` sums of n channels
pub record Cut (len all n count : ℕ) : Type 0 where
  pub below : len / 8 * 8 ≤ len
  pub within : len / 8 * 8 * n ≤ all
  pub left : all - len / 8 * 8 * n ≡ (len - len / 8 * 8) * count

pub cut_at : (len all n count : ℕ) → n ≡ count → all ≡ len * count → Cut len all n count
cut_at len all n count same long =
    let at : ℕ = len / 8 * 8 in
    let rest : ℕ = len - at in
    let below : at ≤ len = omega arith in
    let joined : at + rest ≡ len = omega (arith, below) in
    let sums : all ≡ at * count + rest * count = long ∙ sym (ap (λ (z : ℕ). z * count) joined) ∙ omega arith in
    let start : at * n ≡ at * count = ap (λ (z : ℕ). at * z) same in
    record { below = below; within = omega (arith, sums, start); left = omega (arith, sums, start) }
