-- The channels of pixels, one after the other.
use Rattle.std.proofs.Common.{◌≡◌, ℕ, zero, suc, ◌+◌, ◌-◌, ◌*◌, ◌/◌, ◌%◌, ◌<◌, ◌≤◌, inl, inr, List, [], ◌∷◌, length, map, take, drop, get_or, arith, refl, sym, ap, subst, ◌∙◌}
use borrow.Rule.Slice.PartMut.{put_mid}
use Rattle.std.proofs.Math.Nat.{mul-add-div_right, mul-add-mod_self_right}
use Rattle.std.proofs.lemmas.Bool.{cases_lt}
use Rattle.std.proofs.lemmas.List.{take-map, drop-map, get_or-take, get_or-drop, get_or-map}
use Rattle.std.proofs.lemmas.Nat.{div_below, div-mul-add, mod-mul-add}
use Rattle.pix_scale.specs.Table.{flat}
use Rattle.pix_scale.proofs.Terms.{Added}
use Rattle.pix_scale.proofs.Parts.{before_part, in_part, after_part}

-- the place of a channel of a pixel
pub flat_at : (count p c : ℕ) (pixels : List (List ℕ)) → c < count → flat count pixels (p * count + c) ≡ get_or (get_or pixels p []) c 0
flat_at count p c pixels lt =
    let d : (p * count + c) / count ≡ p = div-mul-add p count c lt in
    let m : (p * count + c) % count ≡ c = mod-mul-add p count c lt in
    rw (d, m) refl

-- a value of a part
pub value_of_part : {C B : Type 0} (f : C → B) (d : B) (xs : List C) (start m x : ℕ) → x < m
    → get_or (map f (take m (drop start xs))) x d ≡ get_or (map f xs) (start + x) d
value_of_part f d xs start m x lt = rw (← take-map f m (drop start xs), ← drop-map f start xs, get_or-take, get_or-drop) refl

-- the channels of a part of the pixels
pub flat_part : {D : Type 0} (r : D → List ℕ) (count : ℕ) (xs : List D) (start m x : ℕ) → 0 < count → x < m * count
    → flat count (map r (take m (drop start xs))) x ≡ flat count (map r xs) (start * count + x)
flat_part r count xs start m x some lt =
    let d : (start * count + x) / count ≡ start + x / count = mul-add-div_right some start x in
    let e : (start * count + x) % count ≡ x % count = mul-add-mod_self_right start count x in
    let in_ : x / count < m = div_below x count m some lt in
    let v = value_of_part r [] xs start m (x / count) in_ in
    rw (d, e, v) refl

-- a part more of the sums has its terms
pub added_part : (old new part : List ℕ) (term : ℕ → ℕ) (a n k : ℕ) → a + n ≤ length new → length part ≡ n → k ≡ n → Added old new term a
    → ((x : ℕ) → x < n → get_or part x 0 ≡ get_or new (a + x) 0 + term (a + x))
    → Added old (put_mid a k new part) term (a + n)
added_part old new part term a n k le long e added more = record {
  done = λ x lt. elim (cases_lt x a) [
    | inl l ↦ before_part a k new part x 0 l (omega arith) ∙ added.done x l
    | inr l ↦
        let g : x ≡ a + (x - a) = omega arith in
        subst (λ y. get_or (put_mid a k new part) y 0 ≡ get_or old y 0 + term y) (sym g)
        (in_part a k new part (x - a) 0 (omega arith) (omega arith) ∙ more (x - a) (omega arith)
        ∙ omega (arith, added.rest (a + (x - a)) (omega arith)))
  ];
  rest = λ x lt. after_part a k new part x 0 (omega arith) (omega arith) (omega arith) ∙ added.rest x (omega arith);
}

pub added_start : (old : List ℕ) (term : ℕ → ℕ) (n : ℕ) → n ≡ 0 → Added old old term n
added_start old term n z = record { done = λ k h. absurd (omega arith); rest = λ k h. refl }

-- a channel of a pixel, by the channels that it lends
pub channel_read : {D C : Type 0} (r : D → List ℕ) (number : C → ℕ) (count i x : ℕ) (row : List D) (item : D) (channels : List C)
    → x < count → i < length row → item ≡ get_or row i item → map number channels ≡ r item
    → get_or (map number channels) x 0 ≡ flat count (map r row) (i * count + x)
channel_read r number count i x row item channels lt in_ is same =
    ap (λ l. get_or l x 0) (same ∙ ap r is) ∙ ap (λ l. get_or l x 0) (sym (get_or-map r row i item [] in_)) ∙ sym (flat_at count i x (map r row) lt)

-- no channel is above the maximum
default_le : (l : List ℕ) (c max : ℕ) → get_or l c 0 ≤ get_or l c max
default_le [] c max = omega arith
default_le (x ∷ l) zero max = omega arith
default_le (x ∷ l) (suc c) max = default_le l c max

pub channel_small : {D : Type 0} (r : D → List ℕ) (max : ℕ) → ((it : D) (ch : ℕ) → get_or (r it) ch max ≤ max)
    → (xs : List D) (i c : ℕ) → get_or (get_or (map r xs) i []) c 0 ≤ max
channel_small r max h [] i c = omega arith
channel_small r max h (x ∷ xs) zero c = let a = h x c in let b = default_le (r x) c max in omega arith
channel_small r max h (x ∷ xs) (suc i) c = channel_small r max h xs i c

pub flat_small : {D : Type 0} (r : D → List ℕ) (max limit count : ℕ) → max ≡ limit → ((it : D) (ch : ℕ) → get_or (r it) ch max ≤ max)
    → (xs : List D) (x : ℕ) → flat count (map r xs) x ≤ limit
flat_small r max limit count e h xs x = let a = channel_small r max h xs (x / count) (x % count) in omega (arith, a, e)
