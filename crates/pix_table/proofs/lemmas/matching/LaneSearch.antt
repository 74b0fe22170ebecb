-- The nearest lane.
use Rattle.std.specs.Prelude.{min, nat_eq, if◌then◌else◌}
use Rattle.std.proofs.Common.{◌≡◌, ℕ, ◌+◌, ◌*◌, ◌/◌, ◌%◌, ◌<◌, ◌≤◌, List, length, get_or, replicate, ap, sym, ◌∙◌, subst, arith, inl, inr}
use lib.Lanes.{zip2}
use Rattle.std.proofs.lemmas.Bool.{cases_lt}
use Rattle.std.proofs.lemmas.Bool.Decides.{nat_tests}
use Rattle.std.proofs.lemmas.List.{get_or_default}
use Rattle.pix_table.proofs.lemmas.matching.LaneNumbers.{lane_of, long_of, splat_at, splat_long}
use Rattle.pix_table.specs.matching.Lanes.{IsNearestLane, IsLeastIn, IsLeastKeyIn, IsLeastOf, lane_distance}

-- one key more
pub least_more : (keys : List ℕ) (i least new : ℕ) → IsLeastOf keys i least → new ≡ min least (get_or keys i 0) → IsLeastOf keys (i + 1) new
least_more keys i least new h e = elim (cases_lt (get_or keys i 0) least) [
  | inl less ↦ record {
    at = i;
    stands = omega arith;
    is = omega (arith, less);
    below = λ k b. elim (cases_lt k i) [
      | inl c ↦ omega (arith, less, h.below k c)
      | inr c ↦ let z : i ≡ k = omega arith in omega (arith, less, ap (λ j. get_or keys j 0) z)
    ];
  }
  | inr more ↦ record {
    at = h.at;
    stands = omega (arith, h.stands);
    is = omega (arith, more, h.is);
    below = λ k b. elim (cases_lt k i) [
      | inl c ↦ omega (arith, more, h.below k c)
      | inr c ↦ let z : i ≡ k = omega arith in omega (arith, more, ap (λ j. get_or keys j 0) z)
    ];
  }
]

-- one block more, whose distance in the lane is far, up to 65535
pub more_in : (d : ℕ → ℕ) (i j least at far now next : ℕ) → j < 16 → IsLeastIn d i j least at → far ≡ min 65535 (d (16 * j + i)) → now ≡ min least far
    → next ≡ (if nat_eq now least then at else j) → IsLeastIn d i (j + 1) now next
more_in d i j least at far now next few h e m n = elim (cases_lt far least) [
  | inl less ↦
      let new : next ≡ j = grind (arith, nat_tests, less) in
      record {
        bound = omega (arith, h.bound);
        few = omega arith;
        below = λ k b. elim (cases_lt k j) [
          | inl c ↦ omega (arith, less, h.below k c)
          | inr c ↦ let z : j ≡ k = omega arith in omega (arith, less, ap (λ p. d (16 * p + i)) z)
        ];
        first = λ k b. omega (arith, less, new, h.below k (omega (arith, new)));
        is = λ b. (omega (arith, new), omega (arith, less, h.bound) ∙ ap (λ p. d (16 * p + i)) (sym new));
      }
  | inr more ↦
      let old : next ≡ at = grind (arith, nat_tests, more) in
      let same : now ≡ least = omega (arith, more) in
      record {
        bound = omega (arith, h.bound);
        few = omega (arith, old, h.few);
        below = λ k b. elim (cases_lt k j) [
          | inl c ↦ omega (arith, same, h.below k c)
          | inr c ↦ let z : j ≡ k = omega arith in omega (arith, more, ap (λ p. d (16 * p + i)) z)
        ];
        first = λ k b. omega (arith, same, h.first k (omega (arith, old)));
        is = λ b. let was = h.is (omega (arith, same)) in (omega (arith, old, was.0), same ∙ was.1 ∙ ap (λ p. d (16 * p + i)) (sym old));
      }
]

-- a lane is number p % 16 of block p / 16
lane_is : (p : ℕ) → 16 * (p / 16) + p % 16 ≡ p
lane_is p = omega arith

-- the least key of all lanes is that of the nearest one, where that is nearer than 65535
pub nearest_of_lanes : (d : ℕ → ℕ) (n : ℕ) (least ats keys : List ℕ) (key : ℕ)
    → ((i : ℕ) → i < 16 → IsLeastIn d i n (get_or least i 0) (get_or ats i 0))
    → ((i : ℕ) → i < 16 → get_or keys i 0 ≡ get_or least i 0 * 65536 + (16 * get_or ats i 0 + i))
    → IsLeastOf keys 16 key → key < 4294901760 → IsNearestLane d (16 * n) (key % 256)
nearest_of_lanes d n least ats keys key each own h near =
    let i : ℕ = h.at in
    let here = each i h.stands in
    let a : ℕ = get_or ats i 0 in
    let l : ℕ = get_or least i 0 in
    let e : key ≡ l * 65536 + (16 * a + i) = h.is ∙ own i h.stands in
    let r : key % 256 ≡ 16 * a + i = omega (arith, e, here.few, h.stands) in
    let found = here.is (omega (arith, e)) in
    let far : d (key % 256) ≡ l = ap d r ∙ sym found.1 in
    record {
      stands = omega (arith, r, found.0, h.stands);
      least = λ q b.
          let k : ℕ = q / 16 in
          let other = each (q % 16) (omega arith) in
          let under : get_or least (q % 16) 0 ≤ d q = subst (λ p. get_or least (q % 16) 0 ≤ d p) (lane_is q) (other.below (q / 16) (omega arith)) in
          let keyed = own (q % 16) (omega arith) in
          let no_less = h.below (q % 16) (omega arith) in
          omega (arith, far, e, under, keyed, no_less, other.few, here.few);
      first = λ q b.
          let other = each (q % 16) (omega arith) in
          let under : get_or least (q % 16) 0 ≤ d q =
          subst (λ p. get_or least (q % 16) 0 ≤ d p) (lane_is q) (other.below (q / 16) (omega (arith, r, found.0, h.stands, b))) in
          let keyed = own (q % 16) (omega arith) in
          let no_less = h.below (q % 16) (omega arith) in
          elim (cases_lt l (get_or least (q % 16) 0)) [
            | inl more ↦ omega (arith, far, under, more)
            | inr same ↦
                let before : q / 16 < get_or ats (q % 16) 0 = omega (arith, r, e, keyed, no_less, same, b, other.few, here.few) in
                let over : get_or least (q % 16) 0 < d q = subst (λ p. get_or least (q % 16) 0 < d p) (lane_is q) (other.first (q / 16) before) in
                omega (arith, far, over, e, keyed, no_less, other.few, here.few)
          ];
    }

-- the key of the first block
pub first_key : (d : ℕ → ℕ) (i key : ℕ) → key ≡ d (16 * 0 + i) * 256 + (16 * 0 + i) → IsLeastKeyIn d i 1 key
first_key d i key e = record {
  at = 0;
  stands = omega arith;
  is = e;
  below = λ k b. let z : 0 ≡ k = omega arith in omega (arith, e, ap (λ p. d (16 * p + i) * 256 + (16 * p + i)) z);
}

-- that of one block more
pub more_key : (d : ℕ → ℕ) (i j least key now : ℕ) → IsLeastKeyIn d i j least → key ≡ d (16 * j + i) * 256 + (16 * j + i) → now ≡ min least key
    → IsLeastKeyIn d i (j + 1) now
more_key d i j least key now h e m = elim (cases_lt key least) [
  | inl less ↦ record {
    at = j;
    stands = omega arith;
    is = let s : now ≡ key = omega (arith, less) in s ∙ e;
    below = λ k b. elim (cases_lt k j) [
      | inl c ↦ omega (arith, less, h.below k c)
      | inr c ↦ let z : j ≡ k = omega arith in omega (arith, less, e, ap (λ p. d (16 * p + i) * 256 + (16 * p + i)) z)
    ];
  }
  | inr more ↦ record {
    at = h.at;
    stands = omega (arith, h.stands);
    is = let s : now ≡ least = omega (arith, more) in s ∙ h.is;
    below = λ k b. elim (cases_lt k j) [
      | inl c ↦ omega (arith, more, h.below k c)
      | inr c ↦ let z : j ≡ k = omega arith in omega (arith, more, e, ap (λ p. d (16 * p + i) * 256 + (16 * p + i)) z)
    ];
  }
]

pub nearest_of_wide_keys : (d : ℕ → ℕ) (n : ℕ) (keys : List ℕ) (key : ℕ) → n ≤ 16
    → ((i : ℕ) → i < 16 → IsLeastKeyIn d i n (get_or keys i 0))
    → IsLeastOf keys 16 key → IsNearestLane d (16 * n) (key % 256)
nearest_of_wide_keys d n keys key few each h =
    let here = each h.at h.stands in
    let p : ℕ = 16 * here.at + h.at in
    let e : key ≡ d p * 256 + p = h.is ∙ here.is in
    let r : key % 256 ≡ p = omega (arith, e, here.stands, h.stands) in
    let far : d (key % 256) ≡ d p = ap d r in
    let other : (q : ℕ) → q < 16 * n → d p * 256 + p ≤ d q * 256 + q =
    (λ q b.
    let i : ℕ = q % 16 in
    let there = each (q % 16) (omega arith) in
    let under : get_or keys (q % 16) 0 ≤ d q * 256 + q =
    subst (λ s. get_or keys (q % 16) 0 ≤ d s * 256 + s) (lane_is q) (there.below (q / 16) (omega arith)) in
    omega (arith, e, under, h.below (q % 16) (omega arith))) in
    record {
      stands = omega (arith, r, here.stands, h.stands);
      least = λ q b. omega (arith, far, r, other q b, here.stands, h.stands);
      first = λ q b. omega (arith, far, r, other q (omega (arith, r, here.stands, h.stands)), here.stands, h.stands);
    }

-- how far a color is from one of a block
pub lane_distance_is : {B : Type 0} (apart : B → ℕ → ℕ) (none : B) (blocks : List B) (j i : ℕ) (d : B) → j < length blocks → i < 16
    → apart (get_or blocks j d) i ≡ lane_distance apart none blocks (16 * j + i)
lane_distance_is apart none blocks j i d below few =
    let own : get_or blocks j d ≡ get_or blocks j none = get_or_default blocks j d none below in
    let q : j ≡ (16 * j + i) / 16 = omega arith in
    let r : i ≡ (16 * j + i) % 16 = omega arith in
    ap (λ b. apart b i) own
    ∙ ap (λ k. apart (get_or blocks k none) i) q
    ∙ ap (λ k. apart (get_or blocks ((16 * j + i) / 16) none) k) r

-- the least distance of each lane in the first j blocks
pub record AreLeastIn {B : Type 0} (apart : B → ℕ → ℕ) (blocks : List B) (j : ℕ) (least ats : List ℕ) : Type 0 where
  pub long_least : length least ≡ 16
  pub long_at : length ats ≡ 16
  pub few : (i : ℕ) → i < 16 → get_or ats i 0 < 16
  pub each : (none : B) (i : ℕ) → i < 16 → IsLeastIn (lane_distance apart none blocks) i j (get_or least i 0) (get_or ats i 0)

-- the first block, whose distances are far, up to 65535
pub first_in : {B : Type 0} (apart : B → ℕ → ℕ) (blocks : List B) (block : B) (far : List ℕ) → 0 < length blocks → block ≡ get_or blocks 0 block
    → length far ≡ 16 → ((i : ℕ) → i < 16 → get_or far i 0 ≡ min 65535 (apart block i)) → AreLeastIn apart blocks 1 far (replicate 16 0)
first_in {B = B} apart blocks block far some read long is =
    let there : (none : B) (i : ℕ) → i < 16 → get_or far i 0 ≡ min 65535 (lane_distance apart none blocks (16 * 0 + i)) =
    (λ none i b. is i b ∙ ap (λ c. min 65535 (apart c i)) read ∙ ap (min 65535) (lane_distance_is apart none blocks 0 i block some b)) in
    record {
      long_least = long;
      long_at = splat_long 0;
      few = λ i b. omega (arith, splat_at 0 i b);
      each = λ none i b. record {
        bound = omega (arith, there none i b);
        few = omega (arith, splat_at 0 i b);
        below = λ k c.
            let e : 0 ≡ k = omega arith in
            subst (λ j. get_or far i 0 ≤ lane_distance apart none blocks (16 * j + i)) e (omega (arith, there none i b));
        first = λ k c. absurd (omega (arith, c, splat_at 0 i b));
        is = λ less. (
          omega (arith, splat_at 0 i b),
          subst (λ j. get_or far i 0 ≡ lane_distance apart none blocks (16 * j + i)) (sym (splat_at 0 i b)) (omega (arith, less, there none i b)),
        );
      };
    }

-- one block more, whose distances are far, up to 65535
pub lanes_more : {B : Type 0} (apart : B → ℕ → ℕ) (blocks : List B) (j : ℕ) (block : B) (least ats far now next : List ℕ) → j < 16 → j < length blocks
    → block ≡ get_or blocks j block → AreLeastIn apart blocks j least ats → length far ≡ 16
    → ((i : ℕ) → i < 16 → get_or far i 0 ≡ min 65535 (apart block i))
    → now ≡ zip2 min least far → length next ≡ 16
    → ((i : ℕ) → i < 16 → get_or next i 0 ≡ (if nat_eq (get_or now i 0) (get_or least i 0) then get_or ats i 0 else j))
    → AreLeastIn apart blocks (j + 1) now next
lanes_more {B = B} apart blocks j block least ats far now next few inside read h long is now_is long_next next_is =
    let each : (none : B) (i : ℕ) → i < 16 → IsLeastIn (lane_distance apart none blocks) i (j + 1) (get_or now i 0) (get_or next i 0) =
    (λ none i below.
    let there = is i below ∙ ap (λ b. min 65535 (apart b i)) read ∙ ap (min 65535) (lane_distance_is apart none blocks j i block inside below) in
    let lesser = ap (λ xs. get_or xs i 0) now_is ∙ lane_of min least far i h.long_least long below in
    more_in (lane_distance apart none blocks) i j _ _ _ _ _ few (h.each none i below) there lesser (next_is i below)) in
    record {
      long_least = ap length now_is ∙ long_of min least far h.long_least long;
      long_at = long_next;
      few = λ i below. let e = each block i below in e.few;
      each = each;
    }

-- the least key of each lane in the first j blocks
pub record AreLeastKeysIn {B : Type 0} (apart : B → ℕ → ℕ) (blocks : List B) (j : ℕ) (keys : List ℕ) : Type 0 where
  pub long : length keys ≡ 16
  pub each : (none : B) (i : ℕ) → i < 16 → IsLeastKeyIn (lane_distance apart none blocks) i j (get_or keys i 0)

-- the keys of a block, of the distance of each lane
pub record AreKeys {B : Type 0} (apart : B → ℕ → ℕ) (block : B) (j : ℕ) (keys : List ℕ) : Type 0 where
  pub long : length keys ≡ 16
  pub each : (i : ℕ) → i < 16 → get_or keys i 0 ≡ apart block i * 256 + (16 * j + i)

pub keys_are : {B : Type 0} (apart : B → ℕ → ℕ) (block : B) (j : ℕ) (far keys : List ℕ) → ((i : ℕ) → i < 16 → get_or far i 0 ≡ apart block i) → length keys ≡ 16
    → ((i : ℕ) → i < 16 → get_or keys i 0 ≡ get_or far i 0 * 256 + (16 * j + i)) → AreKeys apart block j keys
keys_are apart block j far keys is long each = record { long = long; each = λ i b. each i b ∙ ap (λ n. n * 256 + (16 * j + i)) (is i b) }

pub first_keys : {B : Type 0} (apart : B → ℕ → ℕ) (blocks : List B) (block : B) (keys : List ℕ) → 0 < length blocks → block ≡ get_or blocks 0 block → AreKeys apart block 0 keys
    → AreLeastKeysIn apart blocks 1 keys
first_keys apart blocks block keys some read h = record {
  long = h.long;
  each = λ none i b. first_key (lane_distance apart none blocks) i _
      (h.each i b ∙ ap (λ n. n * 256 + (16 * 0 + i)) (ap (λ c. apart c i) read ∙ lane_distance_is apart none blocks 0 i block some b));
}

pub more_keys : {B : Type 0} (apart : B → ℕ → ℕ) (blocks : List B) (j : ℕ) (block : B) (least keys now : List ℕ) → j < length blocks
    → block ≡ get_or blocks j block → AreLeastKeysIn apart blocks j least → AreKeys apart block j keys → now ≡ zip2 min least keys → AreLeastKeysIn apart blocks (j + 1) now
more_keys apart blocks j block least keys now inside read h k now_is = record {
  long = ap length now_is ∙ long_of min least keys h.long k.long;
  each = λ none i b. more_key (lane_distance apart none blocks) i j _ _ _ (h.each none i b)
      (k.each i b ∙ ap (λ n. n * 256 + (16 * j + i)) (ap (λ c. apart c i) read ∙ lane_distance_is apart none blocks j i block inside b))
      (ap (λ xs. get_or xs i 0) now_is ∙ lane_of min least keys i h.long k.long b);
}
