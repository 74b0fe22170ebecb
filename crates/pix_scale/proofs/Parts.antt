-- Lists with a part that was written, and pixels that are written one after the other.
use Rattle.std.proofs.Common.{◌≡◌, ℕ, suc, ◌+◌, ◌-◌, ◌*◌, ◌<◌, ◌≤◌, inl, inr, List, length, get_or, map, take, drop, ◌++◌, arith, refl, sym, ap, subst, ◌∙◌}
use borrow.Rule.Slice.PartMut.{put_mid}
use Rattle.std.proofs.Math.Nat.{mul-le-mul_right}
use Rattle.std.proofs.lemmas.Bool.{cases_lt}
use Rattle.std.proofs.lemmas.List.{get_or-take, get_or-drop, get_or-append_right, length-map, length-take, length-drop, length-append}
use Rattle.std.proofs.lemmas.Slice.{take-put_mid, take-put_mid_below, drop-put_mid}
use Rattle.pix_chan.proofs.Slices.{map-put_mid}
use Rattle.pix_scale.proofs.Terms.{Pixels}

-- what stands in the part
pub in_part : {X : Type 0} (a k : ℕ) (xs ys : List X) (j : ℕ) (d : X) → j < length ys → a ≤ length xs → get_or (put_mid a k xs ys) (a + j) d ≡ get_or ys j d
in_part a k xs ys j d lt le =
    let n : ℕ = a + length ys in
    let short : a + j < n = omega arith in
    let cut : get_or (take n (put_mid a k xs ys)) (a + j) d ≡ get_or (put_mid a k xs ys) (a + j) d = get_or-take n (put_mid a k xs ys) (a + j) d short in
    let long : length (take a xs) ≡ a = omega (arith, length-take a xs) in
    let behind : get_or (take a xs ++ ys) (a + j) d ≡ get_or ys (a + j - a) d = get_or-append_right (take a xs) ys a (a + j) d long (omega arith) in
    let same : a + j - a ≡ j = omega arith in
    sym cut ∙ ap (λ l. get_or l (a + j) d) (take-put_mid a k xs ys n refl le) ∙ behind ∙ ap (λ i. get_or ys i d) same

-- what stands before it
pub before_part : {X : Type 0} (a k : ℕ) (xs ys : List X) (i : ℕ) (d : X) → i < a → a ≤ length xs → get_or (put_mid a k xs ys) i d ≡ get_or xs i d
before_part a k xs ys i d lt le =
    sym (get_or-take a (put_mid a k xs ys) i d lt) ∙ ap (λ l. get_or l i d) (take-put_mid_below a k xs ys a (omega arith) le) ∙ get_or-take a xs i d lt

-- a pixel more is written
pub pixels_more : {C : Type 0} (number : C → ℕ) (n : ℕ) (f : ℕ → ℕ → ℕ) (i k : ℕ) (old new : List C)
    → i * n + n ≤ length old → length new ≡ n → Pixels (map number old) n f i
    → ((c : ℕ) → c < n → get_or (map number new) c 0 ≡ f i c)
    → Pixels (map number (put_mid (i * n) k old new)) n f (i + 1)
pixels_more number n f i k old new le long p more = record {
  at = λ j c lt in_.
      let fits : i * n ≤ length (map number old) = omega (arith, length-map old number) in
      subst (λ (l : List ℕ). get_or l (j * n + c) 0 ≡ f j c) (sym (map-put_mid {B = ℕ} number (λ x y. x) (i * n) k old new))
      (elim (cases_lt j i) [
        | inl l ↦
            let s : suc j * n ≤ i * n = mul-le-mul_right n (let w : suc j ≤ i = omega arith in w) in
            let b : j * n + c < i * n = omega (arith, s) in
            before_part (i * n) k (map number old) (map number new) (j * n + c) 0 b fits ∙ p.at j c l in_
        | inr l ↦
            let e : j ≡ i = omega arith in
            subst (λ (j : ℕ). get_or (put_mid (i * n) k (map number old) (map number new)) (j * n + c) 0 ≡ f j c) (sym e)
            (in_part (i * n) k (map number old) (map number new) c 0 (omega (arith, length-map new number)) fits ∙ more c in_)
      ]);
}

-- a row more of a table is written
pub rows_more : (n : ℕ) (f : ℕ → ℕ → ℕ) (i k : ℕ) (old new : List ℕ)
    → i * n + n ≤ length old → length new ≡ n → Pixels old n f i
    → ((c : ℕ) → c < n → get_or new c 0 ≡ f i c)
    → Pixels (put_mid (i * n) k old new) n f (i + 1)
rows_more n f i k old new le long p more = record {
  at = λ j c lt in_.
      let fits : i * n ≤ length old = omega arith in
      elim (cases_lt j i) [
        | inl l ↦
            let s : suc j * n ≤ i * n = mul-le-mul_right n (let w : suc j ≤ i = omega arith in w) in
            let b : j * n + c < i * n = omega (arith, s) in
            before_part (i * n) k old new (j * n + c) 0 b fits ∙ p.at j c l in_
        | inr l ↦
            let e : j ≡ i = omega arith in
            subst (λ (j : ℕ). get_or (put_mid (i * n) k old new) (j * n + c) 0 ≡ f j c) (sym e)
            (in_part (i * n) k old new c 0 (omega arith) fits ∙ more c in_)
      ];
}

-- what stands behind it
pub after_part : {X : Type 0} (a k : ℕ) (xs ys : List X) (i : ℕ) (d : X) → a + k ≤ i → length ys ≡ k → a + k ≤ length xs → get_or (put_mid a k xs ys) i d ≡ get_or xs i d
after_part a k xs ys i d le long fits =
    let j : ℕ = i - (a + k) in
    let e : a + k + j ≡ i = omega arith in
    let same : drop (a + k) (put_mid a k xs ys) ≡ drop (a + k) xs = drop-put_mid a k xs ys (a + k) (omega arith) (omega arith) long in
    subst (λ i. get_or (put_mid a k xs ys) i d ≡ get_or xs i d) e
    (sym (rw get_or-drop refl) ∙ ap (λ l. get_or l j d) same ∙ rw get_or-drop refl)

-- a part of the same length leaves the length as it was
pub length-put_mid : {X : Type 0} (a k : ℕ) (xs ys : List X) → length ys ≡ k → a + k ≤ length xs → length (put_mid a k xs ys) ≡ length xs
length-put_mid a k xs ys long fits =
    let n : ℕ = a + length ys in
    let p : List _ = put_mid a k xs ys in
    let front : take n p ≡ take a xs ++ ys = take-put_mid a k xs ys n refl (omega arith) in
    let rest : drop (a + k) p ≡ drop (a + k) xs = drop-put_mid a k xs ys (a + k) (omega arith) (omega arith) long in
    omega (arith, ap length front, ap length rest, length-take n p, length-drop (a + k) p, length-drop (a + k) xs, length-append (take a xs) ys, length-take a xs, long)
