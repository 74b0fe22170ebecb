-- The steps of a search for the best place of a box.
use Rattle.std.proofs.Common.{◌≡◌, ◌≢◌, ℕ, zero, suc, get_or, ◌+◌, ◌<◌, ◌≤◌, Bool, true, List, ◌++◌, length, map, All, Option, Some, None, MatchOption, length-append, refl, arith, sym, ◌∙◌, subst, inl, inr, lt-ltb}
use Rattle.std.proofs.lemmas.List.{length-map}
use Rattle.std.proofs.lemmas.List.Sorted.{length_permutation}
use Rattle.pix_table.specs.matching.Nearest.{numbers}
use Rattle.pix_table.specs.quantization.Places.{CannotBeCut, CannotBeCutBy, HasBest, HasBestBy, IsBefore, IsCutBy, below, gain_by, weight}
use Rattle.pix_table.specs.quantization.BestPlaces.{AreBytes, AreSums, CanCut, CanCutBy, IsBestUpTo, IsBestUpToBy, gain_at, is_at, is_below}
use Rattle.pix_table.specs.declared.quantization.box_sums.Sums.{Sums}
use Rattle.pix_table.specs.declared.color.Color.{Color}
use Rattle.pix_table.specs.declared.quantization.place.Place.{Place}
use Rattle.pix_table.proofs.lemmas.quantization.SumLemmas.{sum_zero, sum_grows, sum_all, length_sum}
use Rattle.pix_table.proofs.lemmas.quantization.BoxSumLemmas.{below_more, are_few, count_few, gain_same, cut_can, cut_gain}
use Rattle.pix_table.proofs.lemmas.quantization.BoxSpans.{none_below}
use Rattle.pix_table.proofs.lemmas.quantization.PlacesBy.{passing}

-- at 0 there is no cut
pub begun_by : (n : ℕ) (gains_at : ℕ → ℕ → List (List ℕ) → ℕ) (box : List (List ℕ)) (k : ℕ) (best : Option Place)
    → IsBestUpToBy n gains_at box k 0 best → IsBestUpToBy n gains_at box k 1 best
begun_by n gains_at box k best h =
    passing n gains_at box k 0 best h (λ can. absurd (omega (arith, can.some_below, sum_zero k (λ c. 1) box)))

-- up to a number that none is below there is none either
pub begun_at : (n : ℕ) (gains_at : ℕ → ℕ → List (List ℕ) → ℕ) (box : List (List ℕ)) (k first v : ℕ) (best : Option Place)
    → All (λ c. first ≤ get_or c k 0) box → v ≤ first → IsBestUpToBy n gains_at box k 0 best → IsBestUpToBy n gains_at box k (v + 1) best
begun_at n gains_at box k first zero best least small h = begun_by n gains_at box k best h
begun_at n gains_at box k first (suc v) best least small h =
    let e : v + 1 ≡ suc v = omega arith in
    let before : IsBestUpToBy n gains_at box k (suc v) best =
    subst (λ m. IsBestUpToBy n gains_at box k m best) e (begun_at n gains_at box k first v best least (omega arith) h) in
    passing n gains_at box k (suc v) best before
    (λ can. absurd (omega (arith, can.some_below, none_below k (suc v) box (λ j d inside. omega (arith, least j d inside, small)))))

pub begun : (box : List (List ℕ)) (k : ℕ) (best : Option Place) → IsBestUpTo box k 0 best → IsBestUpTo box k 1 best
begun = begun_by 3 gain_at

-- there is no place before the first
pub none_first : (n : ℕ) (box : List (List ℕ)) (c v : ℕ) → IsBefore c v 0 0 → CanCutBy n box c v → ⊥
none_first n box c v before can = elim before [
  | inl b ↦ absurd (omega (arith, b))
  | inr b ↦ absurd (omega (arith, b.1))
]

-- from a value on that all colors are below there is no cut
pub past_all : {n : ℕ} (box : List (List ℕ)) (k m : ℕ) → length box ≤ below k m box → (v : ℕ) → m ≤ v → CanCutBy n box k v → ⊥
past_all box k m full v past can = omega (arith, full, can.some_others, sum_grows k m v (λ c. 1) box past)

pub full_past : (box : List (List ℕ)) (k m : ℕ) (low : Sums) → AreSums (is_below k m) box low → length box ≤ low.count
    → (v : ℕ) → m ≤ v → CanCut box k v → ⊥
full_past box k m low h full = past_all box k m (omega (arith, h.count, full))

pub bytes_past : {n : ℕ} (box : List (List ℕ)) (k m : ℕ) → All AreBytes box → 256 ≤ m → (v : ℕ) → m ≤ v → CanCutBy n box k v → ⊥
bytes_past box k m bytes large v past can =
    let each : All (λ c. is_below k v c ≡ true) box = (λ j d inside. lt-ltb _ v (omega (arith, bytes j d inside k))) in
    omega (arith, can.some_others, sum_all (is_below k v) (λ c. 1) box each, length_sum box)

-- where no color has a value, the next place has the parts of this one
pub same_below : (k v : ℕ) (box : List (List ℕ)) (low part : Sums) → All AreBytes box → AreSums (is_below k v) box low
    → AreSums (is_at k v) box part → part.count ≡ 0 → AreSums (is_below k (v + 1)) box low
same_below k v box low part bytes h g none =
    let few = are_few (is_at k v) box part bytes g in
    below_more k v box low part low h g (omega (arith, none)) (omega (arith, none, few.0)) (omega (arith, none, few.1)) (omega (arith, none, few.2))

pub passed_by : (k v : ℕ) (box : List (List ℕ)) (low all : Sums) (best : Option Place) → AreSums (λ c. true) box all
    → AreSums (is_below k v) box low → AreSums (is_below k (v + 1)) box low → IsBestUpTo box k (v + 1) best → IsBestUpTo box k (v + 1 + 1) best
passed_by k v box low all best whole h g before =
    passing 3 gain_at box k (v + 1) best before (λ can. (
      v,
      omega arith,
      record {
        stands = can.stands;
        some_below = omega (arith, can.some_below, h.count, g.count);
        some_others = omega (arith, can.some_others, h.count, g.count);
      },
      sym (gain_same k (v + 1) box low all (weight box) g whole refl) ∙ gain_same k v box low all (weight box) h whole refl,
    ))

-- a place with some colors below it, but not all
pub some_others : (p : List ℕ → Bool) (box : List (List ℕ)) (low all : Sums) → AreSums p box low → AreSums (λ c. true) box all
    → low.count ≢ all.count → low.count < all.count
some_others p box low all h whole apart =
    let long : all.count ≡ length box = whole.count ∙ length_sum box in
    omega (arith, apart, long, count_few p box low h)

pub can_cut : (k v : ℕ) (box : List (List ℕ)) (low all : Sums) → k < 3 → AreSums (is_below k v) box low → AreSums (λ c. true) box all
    → 0 < low.count → low.count ≢ all.count → CanCut box k v
can_cut k v box low all stands h whole some apart = record {
  stands = stands;
  some_below = omega (arith, h.count, some);
  some_others =
      let long : all.count ≡ length box = whole.count ∙ length_sum box in
      omega (arith, h.count, long, some_others (is_below k v) box low all h whole apart);
}

-- one color alone can't be cut
pub one_alone : {n : ℕ} (box : List (List ℕ)) → length box < 2 → CannotBeCutBy n box
one_alone box few channel value low high h =
    omega (arith, few, length_permutation box (low ++ high) h.all, length-append low high, h.some_below, h.some_others)

pub one_color : (xs : List Color) → length xs < 2 → CannotBeCut (map numbers xs)
one_color xs few = one_alone (map numbers xs) (omega (arith, few, length-map xs numbers))

-- the best of all places, where a cut gains what is known of its place
pub best_found : (n : ℕ) (gains_at : ℕ → ℕ → List (List ℕ) → ℕ) (weigh : List (List ℕ) → ℕ) (box : List (List ℕ)) (best : Option Place)
    → ((c v : ℕ) (low high : List (List ℕ)) → IsCutBy n box c v low high → gains_at c v box ≡ gain_by weigh box low high)
    → IsBestUpToBy n gains_at box n 0 best
    → MatchOption best (CannotBeCutBy n box) (λ place. HasBestBy n weigh box place.channel place.value place.gain)
best_found n gains_at weigh box None same h = λ c v low high cut. h c v (inl cut.stands) (cut_can box c v low high cut)
best_found n gains_at weigh box (Some p) same h = record {
  stands = h.cut.stands;
  some_below = h.cut.some_below;
  some_others = h.cut.some_others;
  gains = λ low high cut. sym (same p.channel p.value low high cut) ∙ h.gains;
  place = record {
    best = λ c v low high cut. subst (λ g. g ≤ p.gain) (same c v low high cut) (h.best c v (inl cut.stands) (cut_can box c v low high cut));
    first = λ c v low high cut before. subst (λ g. g < p.gain) (same c v low high cut) (h.first c v before (cut_can box c v low high cut));
  };
}

pub best_of_all : (box : List (List ℕ)) (best : Option Place) → IsBestUpTo box 3 0 best
    → MatchOption best (CannotBeCut box) (λ place. HasBest box place.channel place.value place.gain)
best_of_all box best h = best_found 3 gain_at weight box best (cut_gain box) h
