-- The sums of some colors, and of their parts, with one color more.
use Rattle.std.proofs.Common.{◌≡◌, ℕ, zero, suc, ◌+◌, ◌<◌, ◌≤◌, Bool, true, false, cond, List, [], ◌∷◌, ◌++◌, set, replicate, get_or, nat_eq, arith, sym, ap, ◌∙◌, subst, inl, inr, eq-eqb, ne_eqb, length-set}
use Rattle.std.proofs.lemmas.Bool.{cases_eq}
use Rattle.std.proofs.lemmas.List.{get_or-set_same, get_or-set_other, get_or-replicate, length-replicate}
use Rattle.std.proofs.lemmas.List.Sums.{sum_by_push}
use Rattle.pix_table.specs.matching.Nearest.{numbers}
use Rattle.pix_table.specs.quantization.BestPlaces.{AreBytes, AreParted, ArePartedBy, AreSums, sum_of}
use Rattle.pix_table.specs.declared.quantization.box_sums.Sums.{Sums}
use Rattle.pix_table.specs.declared.color.Color.{Color}

pub color_bytes : (p : Color) → p.red ≤ 255 → p.green ≤ 255 → p.blue ≤ 255 → AreBytes (numbers p)
color_bytes p r g b zero = r
color_bytes p r g b (suc zero) = g
color_bytes p r g b (suc (suc zero)) = b
color_bytes p r g b (suc (suc (suc k))) = omega arith

-- the sums with a color more that passes, and with one that doesn't
pub push_true : (p : List ℕ → Bool) (f : List ℕ → ℕ) (box : List (List ℕ)) (c : List ℕ) → p c ≡ true
    → sum_of p f (box ++ c ∷ []) ≡ sum_of p f box + f c
push_true p f box c e =
    sum_by_push (λ x. cond (p x) (f x) 0) box c ∙ ap (λ b. sum_of p f box + cond b (f c) 0) e

pub push_false : (p : List ℕ → Bool) (f : List ℕ → ℕ) (box : List (List ℕ)) (c : List ℕ) → p c ≡ false
    → sum_of p f box ≡ sum_of p f (box ++ c ∷ [])
push_false p f box c e =
    let same : sum_of p f (box ++ c ∷ []) ≡ sum_of p f box + 0 =
    sum_by_push (λ x. cond (p x) (f x) 0) box c ∙ ap (λ b. sum_of p f box + cond b (f c) 0) e in
    omega (arith, same)

pub sums_more : (p : List ℕ → Bool) (box : List (List ℕ)) (c : Color) (old new : Sums) → p (numbers c) ≡ true → AreSums p box old
    → new.count ≡ old.count + 1 → new.red ≡ old.red + c.red → new.green ≡ old.green + c.green → new.blue ≡ old.blue + c.blue
    → AreSums p (box ++ numbers c ∷ []) new
sums_more p box c old new e h count red green blue = record {
  count = omega (arith, count, h.count, push_true p (λ x. 1) box (numbers c) e);
  red = omega (arith, red, h.red, push_true p (λ x. get_or x 0 0) box (numbers c) e);
  green = omega (arith, green, h.green, push_true p (λ x. get_or x 1 0) box (numbers c) e);
  blue = omega (arith, blue, h.blue, push_true p (λ x. get_or x 2 0) box (numbers c) e);
}

sums_same : (p : List ℕ → Bool) (box : List (List ℕ)) (c : Color) (sums : Sums) → p (numbers c) ≡ false → AreSums p box sums
    → AreSums p (box ++ numbers c ∷ []) sums
sums_same p box c sums e h = record {
  count = h.count ∙ push_false p (λ x. 1) box (numbers c) e;
  red = h.red ∙ push_false p (λ x. get_or x 0 0) box (numbers c) e;
  green = h.green ∙ push_false p (λ x. get_or x 1 0) box (numbers c) e;
  blue = h.blue ∙ push_false p (λ x. get_or x 2 0) box (numbers c) e;
}

-- what is known of each part of a list that grows: of the part that grows with it, and of the others
pub parted_by_grown : {S : Type 0} (are : (List ℕ → Bool) → List (List ℕ) → S → Type 0) (at : List ℕ → ℕ) (count v : ℕ) (box more : List (List ℕ))
    (parts : List S) (c : List ℕ) (old new : S) → ArePartedBy are at count box parts → v ≡ at c → v < count
    → old ≡ get_or parts v old → ((p : List ℕ → Bool) → p c ≡ true → are p box old → are p more new)
    → ((p : List ℕ → Bool) (s : S) → p c ≡ false → are p box s → are p more s) → ArePartedBy are at count more (set parts v new)
parted_by_grown are at count v box more parts c old new h e small read longer same_still = record {
  many = length-set parts v new ∙ h.many;
  each = λ w d inside. elim (cases_eq w v) [
    | inl same ↦
        let here : nat_eq (at c) w ≡ true = eq-eqb (at c) w (omega (arith, e, same)) in
        let before : are (λ x. nat_eq (at x) w) box old = subst (λ j. are (λ x. nat_eq (at x) j) box old) (sym same)
        (subst (are (λ x. nat_eq (at x) v) box) (sym read) (h.each v old small)) in
        let there : get_or (set parts v new) w d ≡ new = ap (λ j. get_or (set parts v new) j d) same ∙ get_or-set_same parts v new d (omega (arith, h.many, small)) in
        subst (are (λ x. nat_eq (at x) w) more) (sym there) (longer (λ x. nat_eq (at x) w) here before)
    | inr apart ↦
        let other : nat_eq (at c) w ≡ false = ne_eqb (at c) w (λ eq. apart (omega (arith, e, eq))) in
        subst (are (λ x. nat_eq (at x) w) more) (sym (get_or-set_other parts v w new d apart))
        (same_still (λ x. nat_eq (at x) w) (get_or parts w d) other (h.each w d inside))
  ];
}

-- the same with one color more
pub parted_by_more : {S : Type 0} (are : (List ℕ → Bool) → List (List ℕ) → S → Type 0) (at : List ℕ → ℕ) (count v : ℕ) (box more : List (List ℕ))
    (parts : List S) (c : List ℕ) (old new : S) → more ≡ box ++ c ∷ [] → ArePartedBy are at count box parts → v ≡ at c → v < count
    → old ≡ get_or parts v old → ((p : List ℕ → Bool) → p c ≡ true → are p box old → are p (box ++ c ∷ []) new)
    → ((p : List ℕ → Bool) (s : S) → p c ≡ false → are p box s → are p (box ++ c ∷ []) s) → ArePartedBy are at count more (set parts v new)
parted_by_more are at count v box more parts c old new grown h e small read longer same_still =
    subst (λ l. ArePartedBy are at count l (set parts v new)) (sym grown)
    (parted_by_grown are at count v box (box ++ c ∷ []) parts c old new h e small read longer same_still)

-- the sums of each part, with one color more
pub parted_more : (at : List ℕ → ℕ) (count v : ℕ) (box more : List (List ℕ)) (parts : List Sums) (c : Color) (old new : Sums) → more ≡ box ++ numbers c ∷ []
    → AreParted at count box parts → v ≡ at (numbers c) → v < count → old ≡ get_or parts v old
    → new.count ≡ old.count + 1 → new.red ≡ old.red + c.red → new.green ≡ old.green + c.green → new.blue ≡ old.blue + c.blue
    → AreParted at count more (set parts v new)
parted_more at count v box more parts c old new grown h e small read longer red green blue =
    parted_by_more AreSums at count v box more parts (numbers c) old new grown h e small read
    (λ p here before. sums_more p box c old new here before longer red green blue) (λ p s other before. sums_same p box c s other before)

-- of no colors
pub parted_none : (at : List ℕ → ℕ) (count : ℕ) (none : Sums) → none.count ≡ 0 → none.red ≡ 0 → none.green ≡ 0 → none.blue ≡ 0
    → AreParted at count [] (replicate count none)
parted_none at count none nil red green blue = record {
  many = length-replicate count none;
  each = λ w d inside. subst (AreSums (λ x. nat_eq (at x) w) []) (sym (get_or-replicate count w none d inside))
      (record { count = nil; red = red; green = green; blue = blue });
}
