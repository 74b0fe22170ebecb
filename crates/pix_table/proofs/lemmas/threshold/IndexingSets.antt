-- Setting the colors of pixels, one after the other.
use Rattle.std.specs.Prelude.{take}
use Rattle.std.proofs.Common.{◌≡◌, ℕ, suc, ◌+◌, ◌<◌, ◌≤◌, List, [], ◌∷◌, ◌++◌, length, get_or, set, refl, arith, sym, ap, ◌∙◌, subst, Some, None, length-append}
use Rattle.std.proofs.lemmas.List.{take_more, take_more_set, take_all, take-append-drop, take-take}
use Rattle.std.proofs.Math.Seq.{drop-cons}
use Rattle.std.proofs.Math.ListN.{drop}
use Rattle.pix_table.specs.threshold.Indexing.{Setting, IsSetUpTo, AreSet, IsStopped}

-- one color more that has an index
pub set_more : {C : Type 0} (read : C → List ℕ) (setting : Setting C) (greatest : ℕ) (old : List C) (pixels : List (List ℕ)) (indices : List ℕ) (between : List C)
    (pixel : List ℕ) (i : ℕ) (new : List C) → AreSet read setting greatest old pixels indices between → IsSetUpTo read setting greatest between pixel (Some i) new
    → AreSet read setting greatest old (pixels ++ pixel ∷ []) (indices ++ i ∷ []) new
set_more read setting greatest old [] [] between pixel i new h s = (new, subst (λ l. IsSetUpTo read setting greatest l pixel (Some i) new) h s, refl)
set_more read setting greatest old (p ∷ pixels) (k ∷ indices) between pixel i new h s =
    (h.0, h.1, set_more read setting greatest h.0 pixels indices between pixel i new h.2 s)
set_more read setting greatest old [] (k ∷ indices) between pixel i new h s = absurd h
set_more read setting greatest old (p ∷ pixels) [] between pixel i new h s = absurd h

-- the first i pixels have been set, and `indices` are the first of the values
pub record AreSetBelow {C : Type 0} (read : C → List ℕ) (setting : Setting C) (greatest : ℕ) (old : List C) (pixels : List (List ℕ)) (i : ℕ) (indices : List ℕ) (new : List C) : Type 0 where
  pub so_far : AreSet read setting greatest old (take i pixels) (take i indices) new

pub none_set : {C : Type 0} (read : C → List ℕ) (setting : Setting C) (greatest : ℕ) (old : List C) (pixels : List (List ℕ)) (indices : List ℕ)
    → AreSetBelow read setting greatest old pixels 0 indices old
none_set read setting greatest old pixels indices = record { so_far = refl }

pub one_set : {C : Type 0} (read : C → List ℕ) (setting : Setting C) (greatest : ℕ) (old : List C) (pixels : List (List ℕ)) (i : ℕ) (indices : List ℕ) (between : List C)
    (pixel : List ℕ) (k : ℕ) (new : List C) → AreSetBelow read setting greatest old pixels i indices between → i < length pixels
    → pixel ≡ get_or pixels i [] → IsSetUpTo read setting greatest between pixel (Some k) new
    → (more : List ℕ) → take (i + 1) more ≡ take i indices ++ k ∷ []
    → AreSetBelow read setting greatest old pixels (i + 1) more new
one_set read setting greatest old pixels i indices between pixel k new h below is s more e = record {
  so_far = subst (λ ks. AreSet read setting greatest old (take (i + 1) pixels) ks new) (sym e)
      (subst (λ ps. AreSet read setting greatest old ps (take i indices ++ k ∷ []) new) (sym (take_more pixels i [] below ∙ ap (λ p. take i pixels ++ p ∷ []) (sym is)))
      (set_more read setting greatest old (take i pixels) (take i indices) between pixel k new h.so_far s));
}

pub all_set : {C : Type 0} (read : C → List ℕ) (setting : Setting C) (greatest : ℕ) (old : List C) (pixels : List (List ℕ)) (i : ℕ) (indices : List ℕ) (new : List C)
    → AreSetBelow read setting greatest old pixels i indices new → length pixels ≤ i → length indices ≤ i → AreSet read setting greatest old pixels indices new
all_set read setting greatest old pixels i indices new h a b =
    subst (λ ks. AreSet read setting greatest old pixels ks new) (take_all i indices b)
    (subst (λ ps. AreSet read setting greatest old ps (take i indices) new) (take_all i pixels a) h.so_far)

pub stopped : {C : Type 0} (read : C → List ℕ) (setting : Setting C) (greatest : ℕ) (old : List C) (pixels : List (List ℕ)) (i : ℕ) (indices : List ℕ) (between : List C)
    (pixel : List ℕ) (new : List C) → AreSetBelow read setting greatest old pixels i indices between → i < length pixels → pixel ≡ get_or pixels i []
    → IsSetUpTo read setting greatest between pixel None new → IsStopped read setting greatest old pixels new
stopped read setting greatest old pixels i indices between pixel new h below is s = record {
  before = take i pixels;
  pixel = pixel;
  after = drop (suc i) pixels;
  parts = sym (take-append-drop i pixels) ∙ ap (λ l. take i pixels ++ l)
      (drop-cons pixels i [] below ∙ ap (λ p. p ∷ drop (suc i) pixels) (sym is));
  indices = take i indices;
  between = between;
  set_before = h.so_far;
  last = s;
}

-- what stays below a number stays below a smaller one
pub before_less : {X : Type 0} (xs ys : List X) (n used : ℕ) → n ≤ used → take used ys ≡ take used xs → take n ys ≡ take n xs
before_less xs ys n used less e = sym (take-take n used ys less) ∙ ap (take n) e ∙ take-take n used xs less

-- one index more
pub take_snoc : (xs : List ℕ) (k i : ℕ) → length xs ≡ i → take (i + 1) (xs ++ k ∷ []) ≡ take i xs ++ k ∷ []
take_snoc xs k i e =
    take_all (i + 1) (xs ++ k ∷ []) (omega (arith, length-append xs (k ∷ []))) ∙ ap (λ l. l ++ k ∷ []) (sym (take_all i xs (omega arith)))

pub take_written : (xs all : List ℕ) (k i : ℕ) → i < length xs → take i xs ≡ all → take (i + 1) (set xs i k) ≡ all ++ k ∷ []
take_written xs all k i below e = take_more_set xs i k below ∙ ap (λ l. l ++ k ∷ []) e
