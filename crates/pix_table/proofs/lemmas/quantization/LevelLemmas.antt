-- The levels of gray of some colors, one after the other, and bounds of their sums.
use Rattle.std.proofs.Common.{◌≡◌, ℕ, zero, suc, ◌+◌, ◌*◌, ◌-◌, ◌<◌, ◌≤◌, ◌≢◌, Bool, cond, List, [], ◌∷◌, length, set, get_or, replicate, nat_eq, sum_by, count_by, All, refl, arith, ap, sym, ◌∙◌, inl, inr, eq-eqb, ne_eqb, length-set, get_or-set_other, get_or-set_same}
use Rattle.std.proofs.lemmas.Bool.{cases_lt}
use Rattle.std.proofs.lemmas.Nat.{mul-le}
use Rattle.std.proofs.lemmas.List.{get_or-replicate, length-replicate}
use Rattle.std.proofs.lemmas.List.Sums.{sum_by-cons}
use Rattle.std.proofs.lemmas.List.Elements.{All-head, All-tail}
use Rattle.std.proofs.Math.Nat.{mul-le-mul_left}
use Rattle.pix_table.specs.quantization.Totals.{HasRoom, total, error_between}
use Rattle.pix_table.specs.quantization.GrayLevels.{AreLevels, AreLevelsOf, AreBetween, AreSumsOf, error_of, mean_of, values, weights}
use Rattle.pix_table.specs.declared.color.Color.{Color}
use Rattle.pix_table.specs.declared.quantization.gray_levels.Levels.{Levels}
use Rattle.pix_table.specs.declared.quantization.gray_levels.LevelSums.{LevelSums}
use Rattle.pix_table.proofs.lemmas.quantization.Totals.{at_most, constant, grows, rises}
use Rattle.pix_table.proofs.lemmas.quantization.SpanErrors.{count, mean, some_between, square_sum, sum, under, none, first_above}
use Rattle.pix_table.proofs.lemmas.quantization.Crossed.{crossed}

-- the number at a place of a list
abbrev pub get_or_0 : List ℕ → ℕ → ℕ
get_or_0 xs k = get_or xs k 0

-- the sums of the same levels
pub total_same : (w x v y f : ℕ → ℕ) (n : ℕ) → ((i : ℕ) → i < n → v i ≡ w i) → ((i : ℕ) → i < n → y i ≡ x i) → total v y f n ≡ total w x f n
total_same w x v y f zero same also = refl
total_same w x v y f (suc n) same also =
    let before : total v y f n ≡ total w x f n = total_same w x v y f n (λ i h. same i (omega arith)) (λ i h. also i (omega arith)) in
    rw (same n (omega arith), also n (omega arith), before) refl

-- how many of some colors have each level of red
abbrev pub having : List Color → ℕ → ℕ
having colors v = count_by (λ (color : Color). nat_eq color.red v) colors

-- one color
abbrev one_if : Bool → ℕ
one_if b = cond b 1 0

counted_one : (f : ℕ → ℕ) (r n : ℕ) → n ≤ r → total (λ v. one_if (nat_eq r v)) (λ v. v) f n ≡ 0
counted_one f r zero h = refl
counted_one f r (suc n) h =
    let none : one_if (nat_eq r n) ≡ 0 = ap one_if (ne_eqb r n (λ e. omega arith)) in
    omega (arith, counted_one f r n (omega arith), ap (λ k. k * f n) none)

counted_once : (f : ℕ → ℕ) (r n : ℕ) → r < n → total (λ v. one_if (nat_eq r v)) (λ v. v) f n ≡ f r
counted_once f r zero h = absurd (omega arith)
counted_once f r (suc n) h = elim (cases_lt r n) [
  | inl l ↦
      let none : one_if (nat_eq r n) ≡ 0 = ap one_if (ne_eqb r n (λ e. omega arith)) in
      omega (arith, counted_once f r n l, ap (λ k. k * f n) none)
  | inr l ↦
      let same : r ≡ n = omega arith in
      let once : one_if (nat_eq r n) ≡ 1 = ap one_if (eq-eqb r n same) in
      omega (arith, counted_one f r n l, ap (λ k. k * f n) once, ap f same)
]

both_weights : (v w f : ℕ → ℕ) (n : ℕ) → total (λ i. v i + w i) (λ i. i) f n ≡ total v (λ i. i) f n + total w (λ i. i) f n
both_weights v w f zero = refl
both_weights v w f (suc n) = omega (arith, both_weights v w f n)

no_colors : (f : ℕ → ℕ) (n : ℕ) → total (having []) (λ v. v) f n ≡ 0
no_colors f zero = refl
no_colors f (suc n) = omega (arith, no_colors f n)

pub added : (a b m n : ℕ) → a ≡ b → m ≡ n → a + m ≡ b + n
added a b m n e f = rw (e, f) refl

pub histogram : (n : ℕ) (colors : List Color) (f : ℕ → ℕ) → All (λ (color : Color). color.red < n) colors
    → sum_by (λ (color : Color). f color.red) colors ≡ total (having colors) (λ v. v) f n
histogram n [] f all = sym (no_colors f n)
histogram n (c ∷ colors) f all =
    let rest : sum_by (λ (color : Color). f color.red) colors ≡ total (having colors) (λ v. v) f n =
    histogram n colors f (All-tail (λ (color : Color). color.red < n) c colors all) in
    let one : total (λ v. one_if (nat_eq c.red v)) (λ v. v) f n ≡ f c.red =
    counted_once f c.red n (All-head (λ (color : Color). color.red < n) c colors all) in
    let each : total (having (c ∷ colors)) (λ v. v) f n ≡ total (λ v. one_if (nat_eq c.red v) + having colors v) (λ v. v) f n =
    total_same (λ v. one_if (nat_eq c.red v) + having colors v) (λ v. v) (having (c ∷ colors)) (λ v. v) f n
    (λ v h. sum_by-cons (λ (color : Color). cond (nat_eq color.red v) 1 0) c colors) (λ v h. refl) in
    sum_by-cons (λ (color : Color). f color.red) c colors ∙ added _ _ _ _ (sym one) rest
    ∙ sym (both_weights (λ v. one_if (nat_eq c.red v)) (having colors) f n) ∙ sym each

-- the levels down to one are listed
pub record AreListed (every : List ℕ) (levels : Levels) (i : ℕ) : Type 0 where
  pub few : levels.len ≤ i
  pub some : (k : ℕ) → k < levels.len → 0 < weights levels k
  pub falls : (j k : ℕ) → j ≤ k → k < levels.len → values levels k ≤ values levels j
  pub low : (k : ℕ) → k < levels.len → 256 ≤ values levels k + i
  pub bytes : (k : ℕ) → k < levels.len → values levels k ≤ 255
  pub all : (f : ℕ → ℕ) (m n : ℕ) → n ≡ 256 → m + i ≡ n
      → total (weights levels) (values levels) f levels.len + total (get_or_0 every) (λ v. v) f m ≡ total (get_or_0 every) (λ v. v) f n

pub listed_none : (every : List ℕ) (levels : Levels) → levels.len ≡ 0 → AreListed every levels 0
listed_none every levels e = record {
  few = omega arith;
  some = λ k l. absurd (omega arith);
  falls = λ j k p l. absurd (omega arith);
  low = λ k l. absurd (omega arith);
  bytes = λ k l. absurd (omega arith);
  all = λ f m n t q.
      let same : m ≡ n = omega arith in
      let empty : total (weights levels) (values levels) f levels.len ≡ 0 = ap (total (weights levels) (values levels) f) e in
      omega (arith, empty, ap (total (get_or_0 every) (λ x. x) f) same);
}

-- a level that no color has
skipped : (old low k y below all : ℕ) → k ≡ 0 → below ≡ low → old + (low + k * y) ≡ all → old + below ≡ all
skipped old low k y below all e f g = let zero_times : k * y ≡ 0 * y = ap (λ j. j * y) e in omega arith

pub none_listed : (every : List ℕ) (levels : Levels) (i v : ℕ) → v + i ≡ 255 → get_or every v 0 ≡ 0 → AreListed every levels i → AreListed every levels (i + 1)
none_listed every levels i v e absent h = record {
  few = omega (arith, h.few);
  some = h.some;
  falls = h.falls;
  low = λ k l. omega (arith, h.low k l);
  bytes = h.bytes;
  all = λ f m n t q.
      let same : m ≡ v = omega arith in
      skipped _ _ (get_or every v 0) (f v) _ _ absent (ap (total (get_or_0 every) (λ x. x) f) same) (h.all f (suc v) n t (omega arith));
}

-- and one that some have
joined : (more old one low v all : ℕ) → more ≡ old + one → low ≡ v → old + (v + one) ≡ all → more + low ≡ all
joined more old one low v all e f g = omega arith

pub one_listed : (every : List ℕ) (old new : Levels) (i v n : ℕ) → v + i ≡ 255 → n ≡ get_or every v 0 → 0 < n → new.values ≡ set old.values old.len v
    → new.counts ≡ set old.counts old.len n → new.len ≡ old.len + 1 → AreListed every old i → AreListed every new (i + 1)
one_listed every old new i v n e is some values_are counts_are len_is h =
    let within_values : old.len < length old.values = omega (arith, h.few, old.long_values, e) in
    let within_counts : old.len < length old.counts = omega (arith, h.few, old.long_counts, e) in
    let value_there : (k : ℕ) → k ≢ old.len → values new k ≡ values old k =
    (λ k o. ap (λ l. get_or l k 0) values_are ∙ get_or-set_other old.values old.len k v 0 o) in
    let value_here : values new old.len ≡ v =
    ap (λ l. get_or l old.len 0) values_are ∙ get_or-set_same old.values old.len v 0 within_values in
    let count_there : (k : ℕ) → k ≢ old.len → weights new k ≡ weights old k =
    (λ k o. ap (λ l. get_or l k 0) counts_are ∙ get_or-set_other old.counts old.len k n 0 o) in
    let count_here : weights new old.len ≡ n =
    ap (λ l. get_or l old.len 0) counts_are ∙ get_or-set_same old.counts old.len n 0 within_counts in
    record {
      few = omega (arith, h.few, len_is);
      some = λ k l. elim (cases_lt k old.len) [
        | inl b ↦ let o : k ≢ old.len = (λ q. omega arith) in omega (arith, count_there k o, h.some k b)
        | inr b ↦ let same : k ≡ old.len = omega (arith, len_is) in rw same (omega (arith, count_here, some))
      ];
      falls = λ j k p l. elim (cases_lt k old.len) [
        | inl b ↦
            let o : k ≢ old.len = (λ q. omega arith) in
            let u : j ≢ old.len = (λ q. omega arith) in
            omega (arith, value_there k o, value_there j u, h.falls j k p b)
        | inr b ↦
            let same : k ≡ old.len = omega (arith, len_is) in
            elim (cases_lt j old.len) [
              | inl a ↦
                  let u : j ≢ old.len = (λ q. omega arith) in
                  rw same (omega (arith, value_here, value_there j u, h.low j a))
              | inr a ↦ let also : j ≡ k = omega (arith, len_is) in rw also (omega arith)
            ]
      ];
      low = λ k l. elim (cases_lt k old.len) [
        | inl b ↦ let o : k ≢ old.len = (λ q. omega arith) in omega (arith, value_there k o, h.low k b)
        | inr b ↦ let same : k ≡ old.len = omega (arith, len_is) in rw same (omega (arith, value_here))
      ];
      bytes = λ k l. elim (cases_lt k old.len) [
        | inl b ↦ let o : k ≢ old.len = (λ q. omega arith) in omega (arith, value_there k o, h.bytes k b)
        | inr b ↦ let same : k ≡ old.len = omega (arith, len_is) in rw same (omega (arith, value_here))
      ];
      all = λ f m n' t q.
          let same : m ≡ v = omega arith in
          let longer : total (weights new) (values new) f new.len ≡ total (weights new) (values new) f (suc old.len) =
          ap (total (weights new) (values new) f) (let t : new.len ≡ suc old.len = omega (arith, len_is) in t) in
          let before : total (weights new) (values new) f old.len ≡ total (weights old) (values old) f old.len =
          total_same (weights old) (values old) (weights new) (values new) f old.len
          (λ k b. count_there k (λ q. omega arith)) (λ k b. value_there k (λ q. omega arith)) in
          let here : weights new old.len * f (values new old.len) ≡ get_or every v 0 * f v =
          rw (count_here, value_here, is) refl in
          joined _ _ _ _ _ _ (longer ∙ added _ _ _ _ before here) (ap (total (get_or_0 every) (λ x. x) f) same) (h.all f (suc v) n' t (omega arith));
    }

-- all are listed
pub all_listed : (n : ℕ) (every : List ℕ) (levels : Levels) (colors : List Color) → n ≡ 256 → ((v : ℕ) → v < n → get_or every v 0 ≡ having colors v)
    → All (λ (color : Color). color.red < n) colors → AreListed every levels n → AreLevelsOf (weights levels) (values levels) levels.len colors
all_listed n every levels colors e each bytes h f =
    let all : total (weights levels) (values levels) f levels.len + 0 ≡ total (get_or_0 every) (λ v. v) f n = h.all f 0 n e (omega arith) in
    let same : total (get_or_0 every) (λ v. v) f n ≡ total (having colors) (λ v. v) f n =
    total_same (having colors) (λ v. v) (get_or_0 every) (λ v. v) f n each (λ v b. refl) in
    omega (arith, all, same, histogram n colors f bytes)

ones : (colors : List Color) → sum_by (λ (color : Color). 1) colors ≡ length colors
ones [] = refl
ones (c ∷ colors) = omega (arith, sum_by-cons (λ (color : Color). 1) c colors, ones colors)

pub levels_listed : (n : ℕ) (every : List ℕ) (levels : Levels) (colors : List Color) → n ≡ 256 → ((v : ℕ) → v < n → get_or every v 0 ≡ having colors v)
    → All (λ (color : Color). color.red < n) colors → length colors < 18446744073709551616 → AreListed every levels n
    → AreLevels (weights levels) (values levels) levels.len
levels_listed n every levels colors e each bytes fit h = record {
  few = omega (arith, h.few);
  some = h.some;
  falls = h.falls;
  bytes = h.bytes;
  fit = omega (arith, all_listed n every levels colors e each bytes h (λ v. 1), ones colors);
}

-- of some colors there is a level
pub some_levels : (w x : ℕ → ℕ) (d : ℕ) (colors : List Color) → 0 < length colors → AreLevelsOf w x d colors → 0 < d
some_levels w x zero colors some of = absurd (omega (arith, of (λ v. 1), ones colors))
some_levels w x (suc d) colors some of = omega arith

-- the sums up to a level are those of the levels
pub record AreSummed (w x : ℕ → ℕ) (count_list sum_list square_list : List ℕ) (i : ℕ) : Type 0 where
  pub long_counts : length count_list ≡ 257
  pub long_sums : length sum_list ≡ 257
  pub long_squares : length square_list ≡ 257
  pub counts : (k : ℕ) → k ≤ i → get_or count_list k 0 ≡ total w x (λ v. 1) k
  pub sums : (k : ℕ) → k ≤ i → get_or sum_list k 0 ≡ total w x (λ v. v) k
  pub squares : (k : ℕ) → k ≤ i → get_or square_list k 0 ≡ total w x (λ v. v * v) k

first_none : (w x f : ℕ → ℕ) (k : ℕ) → k ≤ 0 → get_or {A = ℕ} (replicate {A = ℕ} 257 0) k 0 ≡ total w x f k
first_none w x f k l = let first : k ≡ 0 = omega arith in rw first (get_or-replicate {A = ℕ} 257 0 0 0 (omega arith))

pub summed_none : (w x : ℕ → ℕ) → AreSummed w x (replicate {A = ℕ} 257 0) (replicate {A = ℕ} 257 0) (replicate {A = ℕ} 257 0) 0
summed_none w x = record {
  long_counts = length-replicate {A = ℕ} 257 0;
  long_sums = length-replicate {A = ℕ} 257 0;
  long_squares = length-replicate {A = ℕ} 257 0;
  counts = first_none w x (λ v. 1);
  sums = first_none w x (λ v. v);
  squares = first_none w x (λ v. v * v);
}

sum_more : (w x f : ℕ → ℕ) (old new : List ℕ) (i one : ℕ) → suc i < length old → new ≡ set old (suc i) (get_or old i 0 + one) → one ≡ w i * f (x i)
    → ((k : ℕ) → k ≤ i → get_or old k 0 ≡ total w x f k) → (k : ℕ) → k ≤ suc i → get_or new k 0 ≡ total w x f k
sum_more w x f old new i one in' e is h k l = elim (cases_lt k (suc i)) [
  | inl b ↦
      let other : k ≢ suc i = (λ q. omega arith) in
      ap (λ xs. get_or xs k 0) e ∙ get_or-set_other old (suc i) k (get_or old i 0 + one) 0 other ∙ h k (omega arith)
  | inr b ↦
      let same : k ≡ suc i = omega arith in
      rw same
      (ap (λ xs. get_or xs (suc i) 0) e ∙ get_or-set_same old (suc i) (get_or old i 0 + one) 0 in' ∙ added _ _ _ _ (h i (omega arith)) is)
]

pub one_summed : (w x : ℕ → ℕ) (count_list sum_list square_list : List ℕ) (i j n s q : ℕ) → j ≡ suc i → i < 256 → n ≡ w i → s ≡ w i * x i → q ≡ w i * (x i * x i)
    → AreSummed w x count_list sum_list square_list i
    → AreSummed w x (set count_list j (get_or count_list i 0 + n)) (set sum_list j (get_or sum_list i 0 + s)) (set square_list j (get_or square_list i 0 + q)) j
one_summed w x count_list sum_list square_list i j n s q j_is in' n_is s_is q_is h = record {
  long_counts = length-set count_list j (get_or count_list i 0 + n) ∙ h.long_counts;
  long_sums = length-set sum_list j (get_or sum_list i 0 + s) ∙ h.long_sums;
  long_squares = length-set square_list j (get_or square_list i 0 + q) ∙ h.long_squares;
  counts = λ k l. sum_more w x (λ v. 1) count_list (set count_list j (get_or count_list i 0 + n)) i n (omega (arith, h.long_counts))
      (ap (λ m. set count_list m (get_or count_list i 0 + n)) j_is) (omega (arith, n_is)) h.counts k (omega arith);
  sums = λ k l. sum_more w x (λ v. v) sum_list (set sum_list j (get_or sum_list i 0 + s)) i s (omega (arith, h.long_sums))
      (ap (λ m. set sum_list m (get_or sum_list i 0 + s)) j_is) s_is h.sums k (omega arith);
  squares = λ k l. sum_more w x (λ v. v * v) square_list (set square_list j (get_or square_list i 0 + q)) i q (omega (arith, h.long_squares))
      (ap (λ m. set square_list m (get_or square_list i 0 + q)) j_is) q_is h.squares k (omega arith);
}

pub all_summed : (w x : ℕ → ℕ) (d i : ℕ) (count_list sum_list square_list : List ℕ) (all : LevelSums) → d ≤ i → all.counts ≡ count_list → all.sums ≡ sum_list
    → all.squares ≡ square_list → AreLevels w x d → AreSummed w x count_list sum_list square_list i → AreSumsOf w x d all
all_summed w x d i count_list sum_list square_list all whole counts sums squares levels h = record {
  levels = levels;
  counts = λ k l. ap (λ xs. get_or xs k 0) counts ∙ h.counts k (omega arith);
  sums = λ k l. ap (λ xs. get_or xs k 0) sums ∙ h.sums k (omega arith);
  squares = λ k l. ap (λ xs. get_or xs k 0) squares ∙ h.squares k (omega arith);
}

-- the sums with one level more fit
pub record NextFits (w x : ℕ → ℕ) (i : ℕ) : Type 0 where
  pub counts : total w x (λ v. 1) i + w i < 18446744073709551616
  pub sum : total w x (λ v. v) i ≤ 255 * total w x (λ v. 1) i
  pub squares : total w x (λ v. v * v) i ≤ 65025 * total w x (λ v. 1) i
  pub one : w i * x i ≤ 255 * w i
  pub square : x i * x i ≤ 65025
  pub one_square : w i * (x i * x i) ≤ 65025 * w i

pub next_fits : (w x : ℕ → ℕ) (d i : ℕ) → AreLevels w x d → i < d → NextFits w x i
next_fits w x d i h l =
    let small : x i ≤ 255 = h.bytes i l in
    let square : x i * x i ≤ 65025 = omega (arith, mul-le (x i) (x i) 255 255 small small) in
    record {
      counts = omega (arith, rises w x (λ v. 1) (suc i) d l, h.fit);
      sum = omega (arith, at_most w x (λ v. v) (λ v. 255) i (λ k p. h.bytes k (omega arith)), constant w x 255 i);
      squares = omega (
        arith,
        at_most w x (λ v. v * v) (λ v. 65025) i
            (λ k p. omega (arith, mul-le (x k) (x k) 255 255 (h.bytes k (omega arith)) (h.bytes k (omega arith)))),
        constant w x 65025 i,
      );
      one = omega (arith, mul-le-mul_left (w i) small);
      square = square;
      one_square = omega (arith, mul-le-mul_left (w i) square);
    }

-- the sums of the levels are those of the arrays
module _ (w x : ℕ → ℕ) (d : ℕ) (all : LevelSums) (h : AreSumsOf w x d all) where
  pub mean_is : (a b : ℕ) → a ≤ d → b ≤ d → mean_of all a b ≡ mean w x a b
  mean_is a b p q = rw (h.counts a p, h.counts b q, h.sums a p, h.sums b q) refl

  pub error_is : (a b : ℕ) → a ≤ d → b ≤ d → error_of all a b ≡ error_between w x a b
  error_is a b p q = rw (h.counts a p, h.counts b q, h.sums a p, h.sums b q, h.squares a p, h.squares b q) refl

  pub no_error : (a : ℕ) → a ≤ d → error_of all a a ≡ 0
  no_error a p = error_is a a p p ∙ none w x a

  pub errors_crossed : (i j a b : ℕ) → i ≤ j → j ≤ a → a ≤ b → b ≤ d → error_of all i a + error_of all j b ≤ error_of all i b + error_of all j a
  errors_crossed i j a b p q r in' =
      omega (
        arith,
        error_is i a (omega arith) (omega arith),
        error_is j b (omega arith) in',
        error_is i b (omega arith) in',
        error_is j a (omega arith) (omega arith),
        crossed w x d h.levels.some h.levels.falls i j a b p q r in',
      )

  -- the sums of levels are small
  pub count_few : (b : ℕ) → b ≤ d → total w x (λ v. 1) b < 18446744073709551616
  count_few b p = omega (arith, rises w x (λ v. 1) b d p, h.levels.fit)

  pub sum_few : (a b : ℕ) → a ≤ b → b ≤ d → sum w x a b ≤ 255 * count w x a b
  sum_few a b p q =
      omega (
        arith,
        grows w x (λ v. v) (λ v. 255) a b p (λ i r s. h.levels.bytes i (omega arith)),
        constant w x 255 a,
        constant w x 255 b,
        rises w x (λ v. 1) a b p,
        rises w x (λ v. v) a b p,
      )

  pub squares_few : (a b : ℕ) → a ≤ b → b ≤ d → square_sum w x a b ≤ 65025 * count w x a b
  squares_few a b p q =
      omega (
        arith,
        grows w x (λ v. v * v) (λ v. 65025) a b p
            (λ i r s. omega (arith, mul-le (x i) (x i) 255 255 (h.levels.bytes i (omega arith)) (h.levels.bytes i (omega arith)))),
        constant w x 65025 a,
        constant w x 65025 b,
        rises w x (λ v. 1) a b p,
        rises w x (λ v. v * v) a b p,
      )

  -- there is room for the arithmetic
  room_of : (a b : ℕ) → a < b → b ≤ d → HasRoom (count w x a b) (sum w x a b) (square_sum w x a b) (mean w x a b)
  room_of a b p q =
      let small : mean w x a b ≤ 255 =
      omega (arith, first_above w x d h.levels.some h.levels.falls a b p q, h.levels.bytes a (omega arith)) in
      let squared : mean w x a b * mean w x a b ≤ 65025 = omega (arith, mul-le (mean w x a b) (mean w x a b) 255 255 small small) in
      record {
        some = some_between w x d h.levels.some h.levels.falls a b p q;
        few = omega (arith, count_few b q);
        sum = sum_few a b (omega arith) q;
        squares = squares_few a b (omega arith) q;
        mean = small;
        times = mul-le (mean w x a b) (sum w x a b) 255 (sum w x a b) small (omega arith);
        square = squared;
        most = omega (arith, mul-le-mul_left (count w x a b) squared);
        under = under w x (mean w x a b) a b (omega arith);
      }

  room_is : (a b : ℕ) → a < b → b ≤ d
      → HasRoom (get_or all.counts b 0 - get_or all.counts a 0) (get_or all.sums b 0 - get_or all.sums a 0) (get_or all.squares b 0 - get_or all.squares a 0) (mean_of all a b)
  room_is a b p q =
      rw (h.counts a (omega arith), h.counts b q, h.sums a (omega arith), h.sums b q, h.squares a (omega arith), h.squares b q) (room_of a b p q)

  pub between : (a b : ℕ) → a < b → b ≤ d → AreBetween all a b
  between a b p q = record {
    order = p;
    few = omega (arith, q, h.levels.few);
    counts = omega (arith, h.counts a (omega arith), h.counts b q, rises w x (λ v. 1) a b (omega arith));
    sums = omega (arith, h.sums a (omega arith), h.sums b q, rises w x (λ v. v) a b (omega arith));
    squares = omega (arith, h.squares a (omega arith), h.squares b q, rises w x (λ v. v * v) a b (omega arith));
    room = room_is a b p q;
  }

  pub error_small : (a b : ℕ) → a ≤ b → b ≤ d → error_of all a b ≤ 1267650600228229401496703205376
  error_small a b p q = elim (cases_lt a b) [
    | inl l ↦ let r = room_is a b l q in omega (arith, r.squares, r.most, r.few)
    | inr l ↦ let same : a ≡ b = omega arith in rw same (omega (arith, no_error b q))
  ]
