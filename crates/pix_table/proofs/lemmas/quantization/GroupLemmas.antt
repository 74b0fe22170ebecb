-- The sums of a box: they are few, and so is what it weighs.
use Rattle.std.proofs.Common.{◌≡◌, ℕ, Bool, true, cond, List, ◌++◌, ◌+◌, ◌*◌, ◌<◌, ◌≤◌, length, length-append, get_or, refl, arith}
use Rattle.std.proofs.lemmas.List.Elements.{All-append}
use Rattle.std.proofs.lemmas.List.Sums.{sum_by-append}
use Rattle.pix_table.specs.quantization.BestPlaces.{AreBytes}
use Rattle.pix_table.specs.quantization.ColorGroups.{AreBoxSums, AreSeenBoxSums}
use Rattle.pix_table.specs.SeenPixels.{AreSeen}
use Rattle.pix_table.specs.quantization.SeenSums.{AreFew, AreSeenSums}
use Rattle.pix_table.specs.declared.quantization.box_sums.Sums.{Sums}
use Rattle.pix_table.specs.declared.rgba.sums.SeenSums.{SeenSums}
use Rattle.pix_table.proofs.lemmas.quantization.BoxSumLemmas.{are_few, both_few, sums_joined, whole_count}
use Rattle.pix_table.proofs.lemmas.quantization.SeenSumLemmas.{are_few as seen_few, whole_count as seen_count}

-- the sums are few
pub few_sums : (box : List (List ℕ)) (sums : Sums) → AreBoxSums box sums
    → (sums.red ≤ 255 * sums.count) × (sums.green ≤ 255 * sums.count) × (sums.blue ≤ 255 * sums.count)
few_sums box sums is = are_few (λ color. true) box sums is.bytes is.whole

pub two_few_sums : (a b : List (List ℕ)) (p q : Sums) → AreBoxSums a p → AreBoxSums b q
    → (p.red + q.red ≤ 255 * (p.count + q.count)) × (p.green + q.green ≤ 255 * (p.count + q.count)) × (p.blue + q.blue ≤ 255 * (p.count + q.count))
two_few_sums a b p q is other = both_few (λ color. true) (λ color. true) a b p q is.bytes other.bytes is.whole other.whole

pub box_count : (box : List (List ℕ)) (sums : Sums) → AreBoxSums box sums → sums.count ≡ length box
box_count box sums is = whole_count box sums is.whole

-- the sums of two boxes
pub two_sums : (a b : List (List ℕ)) (p q new : Sums) → AreBoxSums a p → AreBoxSums b q → new.count ≡ p.count + q.count → new.red ≡ p.red + q.red
    → new.green ≡ p.green + q.green → new.blue ≡ p.blue + q.blue → AreBoxSums (a ++ b) new
two_sums a b p q new is other count red green blue = record {
  some = omega (arith, is.some, length-append a b);
  bytes = All-append AreBytes a b is.bytes other.bytes;
  whole = sums_joined (λ color. true) a b p q new is.whole other.whole count red green blue;
}

-- the same for seen colors
pub few_seen : (box : List (List ℕ)) (sums : SeenSums) → AreSeenBoxSums box sums → AreFew sums
few_seen box sums is = seen_few (λ color. true) box sums is.seen is.whole

pub seen_box_count : (box : List (List ℕ)) (sums : SeenSums) → AreSeenBoxSums box sums → sums.count ≡ length box
seen_box_count box sums is = seen_count box sums is.whole

pub seen_joined : (p : List ℕ → Bool) (a b : List (List ℕ)) (low more new : SeenSums) → AreSeenSums p a low → AreSeenSums p b more
    → new.count ≡ low.count + more.count → new.red ≡ low.red + more.red → new.green ≡ low.green + more.green → new.blue ≡ low.blue + more.blue
    → new.alpha ≡ low.alpha + more.alpha → AreSeenSums p (a ++ b) new
seen_joined p a b low more new h g count red green blue alpha = record {
  count = omega (arith, count, h.count, g.count, sum_by-append (λ c. cond (p c) 1 0) a b);
  red = omega (arith, red, h.red, g.red, sum_by-append (λ c. cond (p c) (get_or c 0 0) 0) a b);
  green = omega (arith, green, h.green, g.green, sum_by-append (λ c. cond (p c) (get_or c 1 0) 0) a b);
  blue = omega (arith, blue, h.blue, g.blue, sum_by-append (λ c. cond (p c) (get_or c 2 0) 0) a b);
  alpha = omega (arith, alpha, h.alpha, g.alpha, sum_by-append (λ c. cond (p c) (get_or c 3 0) 0) a b);
}

pub two_seen : (a b : List (List ℕ)) (p q new : SeenSums) → AreSeenBoxSums a p → AreSeenBoxSums b q → new.count ≡ p.count + q.count
    → new.red ≡ p.red + q.red → new.green ≡ p.green + q.green → new.blue ≡ p.blue + q.blue → new.alpha ≡ p.alpha + q.alpha
    → AreSeenBoxSums (a ++ b) new
two_seen a b p q new is other count red green blue alpha = record {
  some = omega (arith, is.some, length-append a b);
  seen = All-append AreSeen a b is.seen other.seen;
  whole = seen_joined (λ color. true) a b p q new is.whole other.whole count red green blue alpha;
}
