-- Counting one index more.
use Rattle.std.specs.Prelude.{nat_eq, All}
use Rattle.std.proofs.Common.{◌≡◌, ◌≢◌, ℕ, ◌+◌, ◌<◌, true, false, List, [], ◌∷◌, length, take, set, get_or, arith, sym, ap, ◌∙◌, subst, inl, inr, ne_eqb, eq-eqb}
use Rattle.std.proofs.lemmas.Bool.{cases_order}
use Rattle.std.proofs.lemmas.List.{get_or-set_other, length-set, take_more}
use Rattle.std.proofs.lemmas.List.Elements.{All-append}
use Rattle.std.proofs.lemmas.Grind.{get_or-set_at}
use Rattle.std.proofs.lemmas.List.Sums.{count_by_more_yes, count_by_more_no}
use Rattle.pix_palette.specs.Histogram.{IsHistogram}

-- a property of the only element
all_one : {T : Type 0} (P : T → Type 0) (x : T) → P x → All P (x ∷ [])
all_one P x h = λ k d below. let e : 0 ≡ k = omega arith in subst (λ j. P (get_or (x ∷ []) j d)) e h

-- with one index more, its count is one more
pub histogram_more : {T : Type 0} (number : T → ℕ) (n : ℕ) (indices : List T) (counts : List ℕ) (i : ℕ) (x : T) (at : ℕ) → i < length indices
    → x ≡ get_or indices i x → at ≡ number x → at < n → IsHistogram number n (take i indices) counts
    → IsHistogram number n (take (i + 1) indices) (set counts at (get_or counts at 0 + 1))
histogram_more number n indices counts i x at below is at_is inside h =
    let read : number (get_or indices i x) ≡ at = sym (at_is ∙ ap number is) in
    record {
      as_many = length-set counts at (get_or counts at 0 + 1) ∙ h.as_many;
      inside = subst (All (λ y. number y < n)) (sym (take_more indices i x below)) (All-append (λ y. number y < n) (take i indices) (get_or indices i x ∷ []) h.inside
          (all_one (λ y. number y < n) (get_or indices i x) (omega (arith, read))));
      counted = λ k k_below. elim (cases_order k at) [
        | inl e ↦
            let long : at < length counts = omega (arith, h.as_many) in
            let same : nat_eq (number (get_or indices i x)) k ≡ true = eq-eqb _ _ (read ∙ sym e) in
            get_or-set_at counts at k (get_or counts at 0 + 1) 0 e long ∙ ap (λ c. c + 1) (ap (λ j. get_or counts j 0) (sym e) ∙ h.counted k k_below)
            ∙ sym (count_by_more_yes (λ y. nat_eq (number y) k) indices i x below same)
        | inr o ↦
            let apart : k ≢ at = elim o [ inl b ↦ λ e. omega arith | inr b ↦ λ e. omega arith ] in
            let other : nat_eq (number (get_or indices i x)) k ≡ false = ne_eqb _ _ (λ e. apart (sym e ∙ read)) in
            get_or-set_other counts at k (get_or counts at 0 + 1) 0 apart ∙ h.counted k k_below
            ∙ sym (count_by_more_no (λ y. nat_eq (number y) k) indices i x below other)
      ];
    }
