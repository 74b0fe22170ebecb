-- The weights of each kernel: where they are 0, and what they add up to.
use Rattle.std.proofs.Common.{◌≡◌, ◌≢◌, ℕ, zero, suc, ◌+◌, ◌-◌, ◌*◌, ◌/◌, ◌<◌, ◌≤◌, inl, inr, min, arith, refl, sym, ap, subst, ◌∙◌, add-one}
use Rattle.std.specs.Prelude.{if◌then◌else◌, Bool}
use Rattle.std.specs.Int.{abs_diff}
use Rattle.std.proofs.Math.Nat.{mul-le-mul_right, div-mul-le_self, lt-mul-div-succ}
use Rattle.std.proofs.lemmas.Nat.{div_below, le-div}
use Rattle.std.proofs.lemmas.Bool.{cases_lt, eq-eqb, ne_eqb}
use Rattle.pix_scale.specs.Axis.{total, overlap, held, nearness, rounded_part, mark, axis_of}
use Rattle.pix_scale.specs.Table.{start_of, first_of, IsSide}
use Rattle.pix_scale.proofs.Places.{only, before, nearest_place}
use Rattle.pix_scale.specs.declared.filter.Kernel.{Kernel}
use Rattle.pix_scale.specs.declared.filter.Kernel.TheVariants.{Point, Box, Line, Triangle}
use Rattle.pix_scale.proofs.Windows.{total_part}
use Rattle.pix_scale.proofs.Sums.{total_longer}

-- place i of the new side ends within the old one
pub within : {kernel : Kernel} (places size n m i : ℕ) → IsSide kernel places size n m → i < size → i * n + n ≤ places * m
within places size n m i side lt =
    let all : suc i * n ≤ size * n = mul-le-mul_right n lt in
    omega (arith, all, side.same)

-- places before the start, and those as many behind it as count, count nothing for place i
pub record Around (kernel : Kernel) (places n m i : ℕ) : Type 0 where
  pub before : (j : ℕ) → j < start_of kernel places n m i → (axis_of kernel places n m).weight i j ≡ 0
  pub behind : (j : ℕ) → start_of kernel places n m i + (axis_of kernel places n m).taps ≤ j → j < places → (axis_of kernel places n m).weight i j ≡ 0

-- the nearest place is one of the old side
pub nearest_within : {kernel : Kernel} (places size n m i : ℕ) → IsSide kernel places size n m → i < size → nearest_place n m i < places
nearest_within places size n m i side lt =
    let w = within places size n m i side lt in
    div_below ((2 * i + 1) * n) (2 * m) places (let s = side.some_m in omega arith) (let s = side.some_n in omega (arith, w))

pub only_apart : (a b : ℕ) → a ≢ b → only a b ≡ 0
only_apart a b ne = let one : ℕ = 1 in let none : ℕ = 0 in ap (λ (t : Bool). if t then one else none) (ne_eqb a b ne)

pub only_same : (a b : ℕ) → a ≡ b → only a b ≡ 1
only_same a b e = let one : ℕ = 1 in let none : ℕ = 0 in ap (λ (t : Bool). if t then one else none) (eq-eqb a b e)

point_around : (places size n m i : ℕ) → IsSide Point places size n m → i < size → Around Point places n m i
point_around places size n m i side lt =
    let w = nearest_within places size n m i side lt in
    record {
      before = λ j l. only_apart j (nearest_place n m i) (omega arith);
      behind = λ j l in_. only_apart j (nearest_place n m i) (omega arith);
    }

-- a place that begins no later than another place ends has nothing of it before it
nothing_before : (n m s f j : ℕ) → f * m ≤ s → j < f → min n ((j + 1) * m - s) - min n (j * m - s) ≡ 0
nothing_before n m s f j le lt =
    let k : (j + 1) * m ≤ f * m = mul-le-mul_right m (let w : j + 1 ≤ f = omega arith in w) in
    omega arith

nothing_after : (n m s e j : ℕ) → s + n ≤ e * m → e ≤ j → min n ((j + 1) * m - s) - min n (j * m - s) ≡ 0
nothing_after n m s e j le lt =
    let k : e * m ≤ j * m = mul-le-mul_right m lt in
    let l : (j + 1) * m ≡ j * m + m = omega arith in
    omega arith

-- so many places reach over all that place i needs
box_enough : (n m s : ℕ) → 0 < n → 0 < m → s + n ≤ (s / m + (n + 2 * m - 2) / m) * m
box_enough n m s some_n some =
    let t : ℕ = (n + 2 * m - 2) / m in
    let a = lt-mul-div-succ (n + 2 * m - 2) some in
    let b = lt-mul-div-succ s some in
    let e : (s / m + t) * m ≡ s / m * m + t * m = omega arith in
    omega (arith, a, b, e)

box_around : (places size n m i : ℕ) → IsSide Box places size n m → i < size → Around Box places n m i
box_around places size n m i side lt =
    let d = div-mul-le_self (i * n) m in
    let more = box_enough n m (i * n) side.some_n side.some_m in
    record {
      before = λ j l. nothing_before n m (i * n) (i * n / m) j d l;
      behind = λ j l in_. nothing_after n m (i * n) (i * n / m + (n + 2 * m - 2) / m) j more (omega arith);
    }

-- the held middle lies between the first and the last middle
pub held_low : (places n m i : ℕ) → m ≤ held places n m i
held_low places n m i = omega arith

odd_times : (places m : ℕ) → 0 < places → (2 * places - 1) * m + m ≡ 2 * (places * m)
odd_times zero m some = absurd (omega arith)
odd_times (suc r) m some = let e : 2 * suc r - 1 ≡ 2 * r + 1 = omega arith in rw e (omega arith)

pub held_high : (places n m i : ℕ) → 0 < places → held places n m i + m ≤ 2 * (places * m)
held_high places n m i some =
    let e = odd_times places m some in
    let f : 1 * m ≤ places * m = mul-le-mul_right m some in
    omega (arith, e, f)

-- a middle that is 2 * m or more away counts nothing
tent_before : (m j p q : ℕ) → j < q → (2 * q + 1) * m ≤ p → 2 * m - abs_diff ((2 * j + 1) * m) p ≡ 0
tent_before m j p q lt le =
    let k : (2 * j + 3) * m ≤ (2 * q + 1) * m = mul-le-mul_right m (let w : 2 * j + 3 ≤ 2 * q + 1 = omega arith in w) in
    omega (arith, k)

tent_after : (m j p q : ℕ) → q ≤ j → p ≤ (2 * q - 1) * m → 0 < q → 2 * m - abs_diff ((2 * j + 1) * m) p ≡ 0
tent_after m j p q le up some =
    let k : (2 * q + 1) * m ≤ (2 * j + 1) * m = mul-le-mul_right m (let w : 2 * q + 1 ≤ 2 * j + 1 = omega arith in w) in
    let e = odd_times q m some in
    omega (arith, k, e)

-- between which middles a middle is held
record Between (p m q : ℕ) : Type 0 where
  low : (2 * q + 1) * m ≤ p
  high : p < (2 * q + 3) * m

between : (places n m i : ℕ) → 0 < m → Between (held places n m i) m ((held places n m i - m) / (2 * m))
between places n m i some =
    let p : ℕ = held places n m i in
    let two : 0 < 2 * m = omega arith in
    let a = div-mul-le_self (p - m) (2 * m) in
    let b = lt-mul-div-succ (p - m) two in
    let l : m ≤ p = held_low places n m i in
    record { low = omega (arith, a, l); high = omega (arith, b, l) }

line_around : (places size n m i : ℕ) → IsSide Line places size n m → i < size → Around Line places n m i
line_around places size n m i side lt =
    let p : ℕ = held places n m i in
    let q : ℕ = (p - m) / (2 * m) in
    let b = between places n m i side.some_m in
    let next : p ≤ (2 * (q + 2) - 1) * m = let e : 2 * (q + 2) - 1 ≡ 2 * q + 3 = omega arith in rw e (omega (arith, b.high)) in
    record {
      before = λ j l. tent_before m j p q l b.low;
      behind = λ j l in_. tent_after m j p (q + 2) (omega arith) next (omega arith);
    }

-- a middle that is 2 * n or more away is not near
pub near_before : (n m i j : ℕ) → 0 < m → j < (2 * i * n - n + m) / (2 * m) → nearness n m i j ≡ 0
near_before n m i j some lt =
    let a = div-mul-le_self (2 * i * n - n + m) (2 * m) in
    let k : (j + 1) * (2 * m) ≤ (2 * i * n - n + m) / (2 * m) * (2 * m) = mul-le-mul_right (2 * m) (let w : j + 1 ≤ (2 * i * n - n + m) / (2 * m) = omega arith in w) in
    omega (arith, a, k, some)

pub near_after : (n m i j : ℕ) → 0 < m → 0 < n → (2 * i * n - n + m) / (2 * m) + (2 * n + m - 1) / m ≤ j → nearness n m i j ≡ 0
near_after n m i j some some_n le =
    let s : ℕ = (2 * i * n - n + m) / (2 * m) in
    let t : ℕ = (2 * n + m - 1) / m in
    let two : 0 < 2 * m = omega arith in
    let a = lt-mul-div-succ (2 * i * n - n + m) two in
    let b = lt-mul-div-succ (2 * n + m - 1) some in
    let k : (s + t) * m ≤ j * m = mul-le-mul_right m le in
    omega (arith, a, b, k)

-- a place that is not near adds nothing
adds_nothing : (places n m i j : ℕ) → nearness n m i j ≡ 0 → mark places n m i (j + 1) - mark places n m i j ≡ 0
adds_nothing places n m i j z =
    let e : total (j + 1) (nearness n m i) ≡ total j (nearness n m i) = rw add-one (omega (arith, z)) in
    let s : ℕ = total places (nearness n m i) in
    let f : mark places n m i (j + 1) ≡ mark places n m i j = ap (λ t. rounded_part t s) e in
    omega (arith, f)

triangle_around : (places size n m i : ℕ) → IsSide Triangle places size n m → i < size → Around Triangle places n m i
triangle_around places size n m i side lt = record {
  before = λ j l. adds_nothing places n m i j (near_before n m i j side.some_m l);
  behind = λ j l in_. adds_nothing places n m i j (near_after n m i j side.some_m side.some_n (omega arith));
}

-- for every kernel
pub around : (kernel : Kernel) (places size n m i : ℕ) → IsSide kernel places size n m → i < size → Around kernel places n m i
around Point = point_around
around Box = box_around
around Line = line_around
around Triangle = triangle_around

-- no more places count than there are
pub taps_within : (kernel : Kernel) (places n m : ℕ) → (axis_of kernel places n m).taps ≤ places
taps_within Point places n m = omega arith
taps_within Box places n m = omega arith
taps_within Line places n m = omega arith
taps_within Triangle places n m = omega arith

-- the places that count, from the first on
pub record Window (kernel : Kernel) (places n m i : ℕ) : Type 0 where
  pub inside : first_of kernel places n m i + (axis_of kernel places n m).taps ≤ places
  pub before : (j : ℕ) → j < first_of kernel places n m i → (axis_of kernel places n m).weight i j ≡ 0
  pub behind : (j : ℕ) → first_of kernel places n m i + (axis_of kernel places n m).taps ≤ j → j < places → (axis_of kernel places n m).weight i j ≡ 0

pub window : (kernel : Kernel) (places size n m i : ℕ) → IsSide kernel places size n m → i < size → Window kernel places n m i
window kernel places size n m i side lt =
    let a = around kernel places size n m i side lt in
    let t = taps_within kernel places n m in
    record {
      inside = omega (arith, t);
      before = λ j l. a.before j (omega arith);
      behind = λ j l in_. a.behind j (omega (arith, t)) in_;
    }

-- the part that the nearness of the k-th place from one on is of a sum, as the parts add up
abbrev pub part_at : (n m i first sum k : ℕ) → ℕ
part_at n m i first sum k =
    rounded_part (total (k + 1) (λ j. nearness n m i (first + j))) sum - rounded_part (total k (λ j. nearness n m i (first + j))) sum

-- a part is at most the whole
pub part_up_to : (a b sum : ℕ) → a ≤ b → rounded_part a sum ≤ rounded_part b sum
part_up_to a b sum le = elim (cases_lt 0 sum) [
  | inl some ↦
      let d = div-mul-le_self (2 * (a * 32768) + sum) (2 * sum) in
      le-div (rounded_part a sum) (2 * (b * 32768) + sum) (2 * sum) (omega arith) (omega (arith, d))
  | inr none ↦
      let z : sum ≡ 0 = omega arith in
      subst (λ s. rounded_part a s ≤ rounded_part b s) (sym z) (omega arith)
]

pub part_of_all : (sum : ℕ) → 0 < sum → rounded_part sum sum ≡ 32768
part_of_all sum some =
    let lo : 32768 ≤ rounded_part sum sum = le-div 32768 (2 * (sum * 32768) + sum) (2 * sum) (omega arith) (omega arith) in
    let hi : rounded_part sum sum < 32769 = div_below (2 * (sum * 32768) + sum) (2 * sum) 32769 (omega arith) (omega arith) in
    omega arith

pub part_of_none : (sum : ℕ) → 0 < sum → rounded_part 0 sum ≡ 0
part_of_none sum some =
    let hi : rounded_part 0 sum < 1 = div_below (2 * (0 * 32768) + sum) (2 * sum) 1 (omega arith) (omega arith) in
    omega arith

-- the steps of a sequence that does not fall add up to its rise
pub total_steps : (n : ℕ) (f : ℕ → ℕ) → ((j : ℕ) → f j ≤ f (j + 1)) → (f 0 ≤ f n) × (total n (λ j. f (j + 1) - f j) ≡ f n - f 0)
total_steps zero f up = (omega arith, omega arith)
total_steps (suc n) f up =
    let t = total_steps n f up in
    let u : f n ≤ f (suc n) = rw (← add-one n) (up n) in
    (omega (arith, t.0), rw add-one (omega (arith, t.0, t.1)))

-- the marks of all places
marks_rise : (places n m i j : ℕ) → mark places n m i j ≤ mark places n m i (j + 1)
marks_rise places n m i j =
    let up : total j (nearness n m i) ≤ total (j + 1) (nearness n m i) = total_longer j (j + 1) (nearness n m i) (omega arith) in
    part_up_to (total j (nearness n m i)) (total (j + 1) (nearness n m i)) (total places (nearness n m i)) up

-- some place is near
pub some_near : (places size n m i : ℕ) → IsSide Triangle places size n m → i < size → 0 < total places (nearness n m i)
some_near places size n m i side lt =
    let q : ℕ = nearest_place n m i in
    let in_ = nearest_within places size n m i side lt in
    let shrinks = side.shrinks refl in
    let some_m = side.some_m in
    let two : 0 < 2 * m = omega arith in
    let a = div-mul-le_self ((2 * i + 1) * n) (2 * m) in
    let b = lt-mul-div-succ ((2 * i + 1) * n) two in
    let near : 0 < nearness n m i q = omega (arith, a, b, shrinks, some_m) in
    let up : total (suc q) (nearness n m i) ≤ total places (nearness n m i) = total_longer (suc q) places (nearness n m i) in_ in
    omega (arith, near, up)

triangle_adds_up : (places size n m i : ℕ) → IsSide Triangle places size n m → i < size
    → total places (λ j. mark places n m i (j + 1) - mark places n m i j) ≡ 32768
triangle_adds_up places size n m i side lt =
    let some = some_near places size n m i side lt in
    let t = total_steps places (mark places n m i) (marks_rise places n m i) in
    let all = part_of_all (total places (nearness n m i)) some in
    let none = part_of_none (total places (nearness n m i)) some in
    omega (arith, t.1, all, none)

-- how much of place i lies before place j: all that the places before j cover
pub overlaps : (n m i j : ℕ) → total j (overlap n m i) ≡ before n m i j
overlaps n m i zero = omega arith
overlaps n m i (suc j) =
    let e : (j + 1) * m ≡ j * m + m = omega arith in
    rw (← add-one j) (omega (arith, overlaps n m i j, e))

box_adds_up : (places size n m i : ℕ) → IsSide Box places size n m → i < size → total places (overlap n m i) ≡ n
box_adds_up places size n m i side lt =
    let w = within places size n m i side lt in
    overlaps n m i places ∙ omega (arith, w)

point_adds_up : (places size n m i : ℕ) → IsSide Point places size n m → i < size
    → total places (λ j. only j (nearest_place n m i)) ≡ 1
point_adds_up places size n m i side lt =
    let c : ℕ = nearest_place n m i in
    let in_ = nearest_within places size n m i side lt in
    let e : c + 0 ≡ c = omega arith in
    let one = only_same (c + 0) c e in
    total_part places c 1 (λ j. only j c) (omega arith) (λ j l. only_apart j c (omega arith)) (λ j l k. only_apart j c (omega arith))
    ∙ omega (arith, one)

line_adds_up : (places size n m i : ℕ) → IsSide Line places size n m → i < size
    → total places (λ j. 2 * m - abs_diff ((2 * j + 1) * m) (held places n m i)) ≡ 2 * m
line_adds_up places size n m i side lt =
    let p : ℕ = held places n m i in
    let q : ℕ = (p - m) / (2 * m) in
    let b = between places n m i side.some_m in
    let w = line_around places size n m i side lt in
    let some : 0 < places = let s = side.some_n in let t = side.short in omega arith in
    let h = held_high places n m i some in
    elim (cases_lt (q + 1) places) [
      | inl l ↦
          total_part places q 2 (λ j. 2 * m - abs_diff ((2 * j + 1) * m) p) (omega arith) w.before (λ j u in_. w.behind j (omega arith) in_)
          ∙ omega (arith, b.low, b.high)
      | inr l ↦
          let k : places * m ≤ (q + 1) * m = mul-le-mul_right m l in
          let e : p ≡ (2 * q + 1) * m = omega (arith, b.low, h, k) in
          let in_ : q < places = elim (cases_lt q places) [
            | inl u ↦ u
            | inr u ↦ let v : places * m ≤ q * m = mul-le-mul_right m u in let s = side.some_m in absurd (omega (arith, v, h, b.low))
          ] in
          total_part places q 1 (λ j. 2 * m - abs_diff ((2 * j + 1) * m) p) (omega arith) w.before (λ j u in_. absurd (omega arith))
          ∙ omega (arith, e)
    ]

-- The weights of every kernel add up to the whole.
pub adds_up : (kernel : Kernel) (places size n m i : ℕ) → IsSide kernel places size n m → i < size
    → total places ((axis_of kernel places n m).weight i) ≡ (axis_of kernel places n m).whole
adds_up Point = point_adds_up
adds_up Box = box_adds_up
adds_up Line = line_adds_up
adds_up Triangle = triangle_adds_up
