-- Words: sums of colors that stand side by side in one number.
use Rattle.std.proofs.Common.{◌≡◌, ◌≢◌, ℕ, ◌+◌, ◌*◌, ◌/◌, ◌%◌, ◌-◌, ◌<◌, ◌≤◌, Bool, true, false, cond, List, [], ◌∷◌, ◌++◌, length, map, min, take, drop, replicate, get_or, count_by, All, refl, arith, sym, ap, ◌∙◌, subst, inl, inr, set, length-set, nat_eq, eq-eqb, ne_eqb}
use Rattle.std.proofs.Math.Seq.{take-add}
use Rattle.std.proofs.lemmas.Bool.{cases_eq, cases_lt}
use Rattle.std.proofs.lemmas.List.{get_or-replicate, get_or-set_other, get_or-set_same, length-replicate, map-append, take_all}
use Rattle.std.proofs.lemmas.List.Sums.{sum_by-cons, sum_by_push}
use Rattle.pix_table.specs.matching.Nearest.{numbers}
use Rattle.pix_table.specs.quantization.BestPlaces.{AreBytes, AreSums, AreWords, another, is_at, other, sum_of, word_of}
use Rattle.pix_table.specs.declared.quantization.box_sums.Sums.{Sums}
use Rattle.pix_table.specs.declared.color.Color.{Color}
use Rattle.pix_table.proofs.lemmas.quantization.SumLemmas.{sum_few, sum_le, sum_own, length_sum}
use Rattle.pix_table.proofs.lemmas.quantization.BoxSumLemmas.{bytes_in, sums_joined}

-- a sum of words is the sums of their parts
one_word : (b : Bool) (high low : ℕ) → cond b (281474976710656 + high * 16777216 + low) 0
    ≡ cond b 1 0 * 281474976710656 + cond b high 0 * 16777216 + cond b low 0
one_word true high low = omega arith
one_word false high low = omega arith

word_parts : (p : List ℕ → Bool) (k : ℕ) (box : List (List ℕ)) → sum_of p (word_of k) box
    ≡ count_by p box * 281474976710656 + sum_of p (λ c. get_or c (other k) 0) box * 16777216 + sum_of p (λ c. get_or c (another k) 0) box
word_parts p k [] = refl
word_parts p k (c ∷ box) =
    omega (
      arith,
      sum_by-cons (λ x. cond (p x) (word_of k x) 0) c box,
      sum_by-cons (λ x. cond (p x) 1 0) c box,
      sum_by-cons (λ x. cond (p x) (get_or x (other k) 0) 0) c box,
      sum_by-cons (λ x. cond (p x) (get_or x (another k) 0) 0) c box,
      one_word (p c) (get_or c (other k) 0) (get_or c (another k) 0),
      word_parts p k box,
    )

-- words of at most so many colors fit
pub word_most : (p : List ℕ → Bool) (k : ℕ) (box : List (List ℕ)) → All AreBytes box → sum_of p (word_of k) box ≤ 281479254900991 * length box
word_most p k box bytes =
    omega (
      arith,
      word_parts p k box,
      sum_few p (λ c. get_or c (other k) 0) box (bytes_in box (other k) bytes),
      sum_few p (λ c. get_or c (another k) 0) box (bytes_in box (another k) bytes),
      sum_le p (λ c. 1) box,
      length_sum box,
    )

pub words_none : (k : ℕ) → AreWords k [] (replicate 256 0)
words_none k = record { many = length-replicate {A = ℕ} 256 0; each = λ v inside. get_or-replicate 256 v 0 0 inside }

-- the words of one color more
pub words_more : (k v : ℕ) (box more : List (List ℕ)) (words : List ℕ) (c : Color) (w : ℕ) → more ≡ box ++ numbers c ∷ [] → AreWords k box words
    → v ≡ get_or (numbers c) k 0 → w ≡ word_of k (numbers c) → AreWords k more (set words v (get_or words v 0 + w))
words_more k v box more words c w grown h e made = record {
  many = length-set words v (get_or words v 0 + w) ∙ h.many;
  each = λ u inside.
      let pushed : sum_of (is_at k u) (word_of k) more
      ≡ sum_of (is_at k u) (word_of k) box + cond (nat_eq (get_or (numbers c) k 0) u) (word_of k (numbers c)) 0 =
      ap (sum_of (is_at k u) (word_of k)) grown ∙ sum_by_push (λ x. cond (is_at k u x) (word_of k x) 0) box (numbers c) in
      elim (cases_eq u v) [
        | inl same ↦
            let here : cond (nat_eq (get_or (numbers c) k 0) u) (word_of k (numbers c)) 0 ≡ word_of k (numbers c) =
            ap (λ b. cond b (word_of k (numbers c)) 0) (eq-eqb (get_or (numbers c) k 0) u (omega (arith, e, same))) in
            let there : get_or (set words v (get_or words v 0 + w)) u 0 ≡ get_or words v 0 + w =
            ap (λ j. get_or (set words v (get_or words v 0 + w)) j 0) same
            ∙ get_or-set_same words v (get_or words v 0 + w) 0 (omega (arith, h.many, inside, same)) in
            let before : get_or words v 0 ≡ sum_of (is_at k u) (word_of k) box = ap (λ j. get_or words j 0) (sym same) ∙ h.each u inside in
            omega (arith, there, pushed, here, before, made)
        | inr apart ↦
            let none : cond (nat_eq (get_or (numbers c) k 0) u) (word_of k (numbers c)) 0 ≡ 0 =
            ap (λ b. cond b (word_of k (numbers c)) 0) (ne_eqb (get_or (numbers c) k 0) u (λ eq. apart (omega (arith, e, eq)))) in
            omega (arith, get_or-set_other words v u (get_or words v 0 + w) 0 apart, pushed, none, h.each u inside)
      ];
}

-- the parts of a sum of words
module _ (p : List ℕ → Bool) (k : ℕ) (box : List (List ℕ)) (word : ℕ) (few : length box ≤ 65535) (bytes : All AreBytes box)
    (h : word ≡ sum_of p (word_of k) box) where
  count_fits : count_by p box ≤ 65535
  count_fits = omega (arith, few, sum_le p (λ c. 1) box, length_sum box)

  other_fits : sum_of p (λ c. get_or c (other k) 0) box < 16777216
  other_fits = omega (arith, count_fits, sum_few p (λ c. get_or c (other k) 0) box (bytes_in box (other k) bytes))

  another_fits : sum_of p (λ c. get_or c (another k) 0) box < 16777216
  another_fits = omega (arith, count_fits, sum_few p (λ c. get_or c (another k) 0) box (bytes_in box (another k) bytes))

  word_count : word / 281474976710656 ≡ count_by p box
  word_count = omega (arith, h, word_parts p k box, other_fits, another_fits)

  word_other : word / 16777216 % 16777216 ≡ sum_of p (λ c. get_or c (other k) 0) box
  word_other = omega (arith, h, word_parts p k box, other_fits, another_fits)

  word_another : word % 16777216 ≡ sum_of p (λ c. get_or c (another k) 0) box
  word_another = omega (arith, h, word_parts p k box, other_fits, another_fits)

-- the sums in a word, of colors of a value in each channel
module _ (v word : ℕ) (box : List (List ℕ)) (high low : ℕ) (few : length box ≤ 65535) (bytes : All AreBytes box)
    (e : high ≡ word / 16777216 % 16777216) (f : low ≡ word % 16777216) where
  pub word_red : word ≡ sum_of (is_at 0 v) (word_of 0) box
      → AreSums (is_at 0 v) box (record { count = word / 281474976710656; red = v * (word / 281474976710656); green = high; blue = low })
  word_red h = record {
    count = word_count (is_at 0 v) 0 box word few bytes h;
    red = ap (λ n. v * n) (word_count (is_at 0 v) 0 box word few bytes h) ∙ sym (sum_own 0 v box);
    green = e ∙ word_other (is_at 0 v) 0 box word few bytes h;
    blue = f ∙ word_another (is_at 0 v) 0 box word few bytes h;
  }

  pub word_green : word ≡ sum_of (is_at 1 v) (word_of 1) box
      → AreSums (is_at 1 v) box (record { count = word / 281474976710656; red = high; green = v * (word / 281474976710656); blue = low })
  word_green h = record {
    count = word_count (is_at 1 v) 1 box word few bytes h;
    red = e ∙ word_other (is_at 1 v) 1 box word few bytes h;
    green = ap (λ n. v * n) (word_count (is_at 1 v) 1 box word few bytes h) ∙ sym (sum_own 1 v box);
    blue = f ∙ word_another (is_at 1 v) 1 box word few bytes h;
  }

  pub word_blue : word ≡ sum_of (is_at 2 v) (word_of 2) box
      → AreSums (is_at 2 v) box (record { count = word / 281474976710656; red = high; green = low; blue = v * (word / 281474976710656) })
  word_blue h = record {
    count = word_count (is_at 2 v) 2 box word few bytes h;
    red = e ∙ word_other (is_at 2 v) 2 box word few bytes h;
    green = f ∙ word_another (is_at 2 v) 2 box word few bytes h;
    blue = ap (λ n. v * n) (word_count (is_at 2 v) 2 box word few bytes h) ∙ sym (sum_own 2 v box);
  }

-- the sums of all colors, in the words of two channels
pub words_sums : (box : List (List ℕ)) (beside_red beside_green red green blue : ℕ) → length box ≤ 65535 → All AreBytes box
    → beside_red ≡ sum_of (λ c. true) (word_of 0) box → beside_green ≡ sum_of (λ c. true) (word_of 1) box
    → red ≡ beside_green / 16777216 % 16777216 → green ≡ beside_red / 16777216 % 16777216 → blue ≡ beside_red % 16777216
    → AreSums (λ c. true) box (record { count = beside_red / 281474976710656; red = red; green = green; blue = blue })
words_sums box beside_red beside_green red green blue few bytes h g r s t = record {
  count = word_count (λ c. true) 0 box beside_red few bytes h;
  red = r ∙ word_other (λ c. true) 1 box beside_green few bytes g;
  green = s ∙ word_other (λ c. true) 0 box beside_red few bytes h;
  blue = t ∙ word_another (λ c. true) 0 box beside_red few bytes h;
}

-- a word of 0 is of no colors
pub word_none : (p : List ℕ → Bool) (k : ℕ) (box : List (List ℕ)) (word : ℕ) (none : Sums) → All AreBytes box
    → word ≡ sum_of p (word_of k) box → word ≡ 0 → none.count ≡ 0 → none.red ≡ 0 → none.green ≡ 0 → none.blue ≡ 0 → AreSums p box none
word_none p k box word none bytes h zero count red green blue =
    let no : count_by p box ≡ 0 = omega (arith, h, zero, word_parts p k box) in
    record {
      count = omega (arith, count, no);
      red = omega (arith, red, no, sum_few p (λ c. get_or c 0 0) box (bytes_in box 0 bytes));
      green = omega (arith, green, no, sum_few p (λ c. get_or c 1 0) box (bytes_in box 1 bytes));
      blue = omega (arith, blue, no, sum_few p (λ c. get_or c 2 0) box (bytes_in box 2 bytes));
    }

pub word_zero : (p : List ℕ → Bool) (k : ℕ) (box more : List (List ℕ)) (word : ℕ) (sums : Sums) → All AreBytes more
    → word ≡ sum_of p (word_of k) more → word ≡ 0 → AreSums p box sums → AreSums p (box ++ more) sums
word_zero p k box more word sums bytes h zero g =
    let none : Sums = record { count = 0; red = 0; green = 0; blue = 0 } in
    sums_joined p box more sums none sums g (word_none p k more word none bytes h zero refl refl refl refl) (omega arith) (omega arith) (omega arith)
    (omega arith)

-- the first colors, and a block of those after them
pub block_more : (xs : List Color) (start end : ℕ) → start ≤ end
    → map numbers (take end xs) ≡ map numbers (take start xs) ++ map numbers (take (end - start) (drop start xs))
block_more xs start end h =
    let e : end ≡ start + (end - start) = omega (arith, h) in
    ap (λ n. map numbers (take n xs)) e ∙ ap (map numbers) (take-add start (end - start) xs)
    ∙ map-append numbers (take start xs) (take (end - start) (drop start xs))

pub block_end : (xs : List Color) (end next : ℕ) → end ≡ min (length xs) next → map numbers (take next xs) ≡ map numbers (take end xs)
block_end xs end next h = elim (cases_lt next (length xs)) [
  | inl b ↦ let e : next ≡ end = omega (arith, h, b) in ap (λ n. map numbers (take n xs)) e
  | inr b ↦
      let all : take next xs ≡ xs = take_all next xs b in
      let same : take end xs ≡ xs = take_all end xs (omega (arith, h, b)) in
      ap (map numbers) (all ∙ sym same)
]

-- what holds of the sums of each value below `value`, and of those of that value, holds of those of each below the next one
pub done_more : (P : ℕ → Sums → Type 0) (parts : List Sums) (value : ℕ) → ((v : ℕ) (d : Sums) → v < value → P v (get_or parts v d))
    → ((d : Sums) → P value (get_or parts value d)) → (v : ℕ) (d : Sums) → v < value + 1 → P v (get_or parts v d)
done_more P parts value done here v d small = elim (cases_lt v value) [
  | inl b ↦ done v d b
  | inr b ↦ let e : value ≡ v = omega (arith, b, small) in subst (λ w. P w (get_or parts w d)) e (here d)
]

pub done_set : (P : ℕ → Sums → Type 0) (parts : List Sums) (value : ℕ) (new : Sums) → value < length parts
    → ((v : ℕ) (d : Sums) → v < value → P v (get_or parts v d)) → P value new → (v : ℕ) (d : Sums) → v < value + 1
    → P v (get_or (set parts value new) v d)
done_set P parts value new inside done here v d small = elim (cases_lt v value) [
  | inl b ↦ let apart : v ≢ value = (λ e. omega (arith, b, e)) in subst (P v) (sym (get_or-set_other parts value v new d apart)) (done v d b)
  | inr b ↦
      let e : value ≡ v = omega (arith, b, small) in
      subst (λ w. P w (get_or (set parts value new) w d)) e (subst (P value) (sym (get_or-set_same parts value new d inside)) here)
]
