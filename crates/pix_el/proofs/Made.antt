-- Lists whose elements are made of those of the same index in another list.
use Rattle.std.proofs.Common.{◌≡◌, ℕ, suc, ◌<◌, ◌+◌, List, [], ◌∷◌, length, map, get_or, set, refl, ap, ◌∙◌, arith, length-set, inl, inr}
use Rattle.std.proofs.lemmas.Bool.{cases_lt}
use Rattle.std.proofs.lemmas.List.{get_or-set_same, get_or-set_other}

-- the first i are made
pub record Made {D P A B : Type 0} (n : D → B) (m : P → A) (f : A → B) (size i : ℕ) (ds : List D) (ps : List P) : Type 0 where
  pub long : length ds ≡ size
  pub done : (j : ℕ) → j < i → (d : D) (p : P) → n (get_or ds j d) ≡ f (m (get_or ps j p))

module _ {D P A B : Type 0} (n : D → B) (m : P → A) (f : A → B) (size : ℕ) where
  pub none_made : (ds : List D) (ps : List P) → length ds ≡ size → Made n m f size 0 ds ps
  none_made ds ps h = record { long = h; done = λ j lt. absurd (omega (arith, lt)) }

  pub one_made : (i : ℕ) (ds : List D) (ps : List P) (new : D) → Made n m f size i ds ps → i < size
      → ((p : P) → n new ≡ f (m (get_or ps i p))) → Made n m f size (i + 1) (set ds i new) ps
  one_made i ds ps new so lt is = record {
    long = length-set ds i new ∙ so.long;
    done = λ j h d p. elim (cases_lt j i) [
      | inl below ↦ rw (get_or-set_other ds i j new d (λ e. omega (arith, e, below))) (so.done j below d p)
      | inr above ↦
          let here : j ≡ i = omega (arith, above, h) in
          rw (here, get_or-set_same ds i new d (omega (arith, lt, so.long))) (is p)
    ];
  }

module _ {D P A B : Type 0} (n : D → B) (m : P → A) (f : A → B) where
  pub all_made : (ds : List D) (ps : List P) → length ds ≡ length ps → ((j : ℕ) → j < length ds → (d : D) (p : P) → n (get_or ds j d) ≡ f (m (get_or ps j p)))
      → map n ds ≡ map f (map m ps)
  all_made [] [] h so = refl
  all_made [] (p ∷ ps) h so = absurd (omega (arith, h))
  all_made (d ∷ ds) [] h so = absurd (omega (arith, h))
  all_made (d ∷ ds) (p ∷ ps) h so =
      ap (λ (b : B). b ∷ map n ds) (so 0 (omega arith) d p)
      ∙ ap (λ (l : List B). f (m p) ∷ l) (all_made ds ps (omega (arith, h)) (λ j lt e q. so (suc j) (omega (arith, lt)) e q))
