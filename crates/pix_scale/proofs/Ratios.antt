-- The greatest common divisor, and ratios in lowest terms.
use Rattle.std.proofs.Common.{◌≡◌, ℕ, zero, suc, ◌*◌, ◌/◌, ◌%◌, ◌<◌, ◌≤◌, inl, inr, min, arith, sym, ap, subst, ◌∙◌}
use Rattle.std.specs.Prelude.{Bool, true, ◌&&◌, nat_eq, nat_le, if◌then◌else◌}
use Rattle.std.specs.Int.{IsGcd}
use Rattle.std.proofs.Math.Nat.{div-mul_cancel, div-le_self, le_of_dvd}
use Rattle.std.proofs.lemmas.Bool.{cases_eq, cases_lt, cases_Bool, and_from, and_parts, eq-eqb, eqb-true, leb-false}
use Prim.Native.Nat.{◌∣◌}
use Rattle.std.proofs.lemmas.Nat.Gcd.{le_from_IsGcd, dvd_of_mod-eq-zero, mod-eq-zero_of_dvd}
use Rattle.std.proofs.lemmas.Nat.{le-div}
use Rattle.pix_scale.specs.declared.filter.Kernel.{Kernel}
use Rattle.pix_scale.specs.declared.filter.Kernel.TheVariants.{Line, Triangle}
use Rattle.pix_scale.specs.declared.filter.Filter.{Filter}
use Rattle.pix_scale.specs.declared.filter.Filter.TheVariants.{Nearest, Area, Linear}
use Rattle.pix_scale.specs.Axis.{common, lowest, kernel_of}
use Rattle.pix_scale.specs.Table.{IsSide}

both : (k a b : ℕ) → Bool
both k a b = nat_eq (a % suc k) 0 && nat_eq (b % suc k) 0

-- the search from k down comes upon it
pub common_is : (k a b g : ℕ) → IsGcd a b g → 0 < g → g ≤ k → common k a b ≡ g
unfolding both
common_is zero a b g is some le = absurd (omega arith)
common_is (suc k) a b g is some le = elim (cases_eq g (suc k)) [
  | inl e ↦
      let p : nat_eq (a % suc k) 0 ≡ true = eq-eqb (a % suc k) 0 (mod-eq-zero_of_dvd (suc k) (subst (λ n. n ∣ a) e is.0)) in
      let q : nat_eq (b % suc k) 0 ≡ true = eq-eqb (b % suc k) 0 (mod-eq-zero_of_dvd (suc k) (subst (λ n. n ∣ b) e is.1)) in
      ap (λ (t : Bool). if t then suc k else common k a b) (and_from _ _ p q) ∙ sym e
  | inr ne ↦ elim (cases_Bool (both k a b)) [
    | inl t ↦
        let parts = and_parts (nat_eq (a % suc k) 0) (nat_eq (b % suc k) 0) t in
        let more : suc k ≤ g = le_from_IsGcd a b g (suc k) is some (dvd_of_mod-eq-zero (suc k) (eqb-true (a % suc k) 0 parts.0)) (dvd_of_mod-eq-zero (suc k) (eqb-true (b % suc k) 0 parts.1)) in
        absurd (omega arith)
    | inr f ↦ ap (λ (t : Bool). if t then suc k else common k a b) f ∙ common_is k a b g is some (omega arith)
  ]
]

pub gcd_is : (a b g : ℕ) → 0 < a → 0 < b → 0 < g → IsGcd a b g → g ≡ common (min a b) a b
gcd_is a b g p q some is =
    let le : g ≤ a = le_of_dvd p is.0 in
    let le_b : g ≤ b = le_of_dvd q is.1 in
    sym (common_is (min a b) a b g is some (omega arith))

-- a part of a positive number by a divisor
pub some_part : (n g : ℕ) → 0 < n → n / g * g ≡ n → 0 < n / g
some_part n g some e = elim (cases_lt 0 (n / g)) [
  | inl l ↦ l
  | inr l ↦ let z : n / g ≡ 0 = omega arith in absurd (omega (arith, ap (λ x. x * g) z))
]

-- both sides in lowest terms are in the same ratio
pub side_by : (kernel : Kernel) (n m g : ℕ) → 0 < n → 0 < m → 0 < g → n ≤ 65535 → IsGcd n m g → (kernel ≡ Triangle → m ≤ n)
    → IsSide kernel n m (n / g) (m / g)
side_by kernel n m g p q some few is shrinks =
    let a : n / g * g ≡ n = div-mul_cancel g is.0 in
    let b : m / g * g ≡ m = div-mul_cancel g is.1 in
    record {
      some_n = some_part n g p a;
      some_m = some_part m g q b;
      few = few;
      short = div-le_self n g;
      small = div-le_self m g;
      same = let x : n / g * g * (m / g) ≡ n * (m / g) = ap (λ k. k * (m / g)) a in
          let y : m / g * g * (n / g) ≡ m * (n / g) = ap (λ k. k * (n / g)) b in
          omega (arith, x, y);
      shrinks = λ t. le-div (m / g) n g some (let h = shrinks t in omega (arith, b));
    }

-- a triangle is for a side that shrinks
pub shrinks_of : (filter : Filter) (n m : ℕ) → kernel_of filter n m ≡ Triangle → m ≤ n
shrinks_of Nearest n m e = cc
shrinks_of Area n m e = cc
shrinks_of Linear n m e = elim (cases_Bool (nat_le n m)) [
  | inl t ↦ let k : kernel_of Linear n m ≡ Line = ap (λ (b : Bool). if b then Line else Triangle) t in cc
  | inr f ↦ let k = leb-false n m f in omega arith
]

pub lowest_is : (n m g : ℕ) → 0 < n → 0 < m → 0 < g → IsGcd n m g → n / g ≡ lowest n m
lowest_is n m g p q some is = ap (λ k. n / k) (gcd_is n m g p q some is)
