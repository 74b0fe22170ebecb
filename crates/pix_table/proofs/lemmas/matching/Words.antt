-- Keys of entries, by fours.
use Rattle.std.proofs.Common.{◌≡◌, ℕ, ◌+◌, ◌*◌, ◌%◌, ◌<◌, ◌≤◌, List, [], length, map, get_or, refl, sym, ap, ◌∙◌, subst, arith, inl, inr}
use Rattle.std.specs.Prelude.{min}
use Rattle.std.proofs.lemmas.List.{length-map, get_or-map}
use Rattle.pix_table.specs.matching.Nearest.{distance, distance_to, numbers}
use Rattle.pix_table.specs.matching.InverseMap.{AreWords, IsWord, AreEnough, word_color, word_key}
use Rattle.pix_table.specs.declared.color.Color.{Color}
use Rattle.pix_table.proofs.lemmas.matching.ShortLists.{IsLeastKey, key_at_first, key_next}

-- the number of an entry
pub word_stands : (entries : List Color) (d : Color) (i word : ℕ) → i < length entries → word_color word ≡ numbers (get_or entries i d) → word % 256 ≡ i
    → IsWord (map numbers entries) word
word_stands entries d i word below same at = record {
  stands = omega (arith, at, below, length-map entries numbers);
  color = same ∙ sym (get_or-map numbers entries i d [] below) ∙ ap (λ j. get_or (map numbers entries) j []) (sym at);
}

-- the key of the number of an entry
pub word_distance : (entries : List (List ℕ)) (color words : List ℕ) (i : ℕ) → AreWords entries words → i < 256
    → word_key color (get_or words i 0) ≡ distance_to entries color (get_or words i 0 % 256) * 256 + get_or words i 0 % 256
word_distance entries color words i h below = ap (λ c. distance c color * 256 + get_or words i 0 % 256) (h.each i below).color

-- how far the color of the number of an entry is from a color
pub entry_word : (entries : List (List ℕ)) (color words : List ℕ) (i : ℕ) → AreWords entries words → i < 256 → i < length entries
    → distance (word_color (get_or words i 0)) color ≡ distance_to entries color i
entry_word entries color words i h below stands = ap (λ c. distance c color) (h.each i below).color ∙ ap (distance_to entries color) (h.own i stands)

min_of_four : (k a b c d : ℕ) → min (min (min (min k a) b) c) d ≡ min k (min (min a b) (min c d))
min_of_four k a b c d = omega arith

min_of_first : (a b c d : ℕ) → min (min (min a b) c) d ≡ min (min a b) (min c d)
min_of_first a b c d = omega arith

module _ (entries : List (List ℕ)) (color words lists : List ℕ) (start count : ℕ) (h : AreWords entries words) (bytes : (i : ℕ) → get_or lists i 0 < 256) where
  abbrev pub short_list : ℕ → ℕ
  short_list p = get_or words (get_or lists (start + p) 0) 0 % 256

  abbrev keyed : ℕ → ℕ
  keyed p = distance_to entries color (short_list p) * 256 + short_list p

  pub keyed_at : (at p : ℕ) → at ≡ start + p → word_key color (get_or words (get_or lists at 0) 0) ≡ keyed p
  keyed_at at p e = ap (λ i. word_key color (get_or words (get_or lists i 0) 0)) e ∙ word_distance entries color words (get_or lists (start + p) 0) h (bytes (start + p))

  pub first_four : (x y z w new : ℕ) → 4 ≤ count → x ≡ keyed 0 → y ≡ keyed 1 → z ≡ keyed 2 → w ≡ keyed 3 → new ≡ min (min x y) (min z w)
      → IsLeastKey entries color short_list count 4 new
  first_four x y z w new room ex ey ez ew e =
      let a : IsLeastKey entries color short_list count 1 (keyed 0) = key_at_first entries color short_list count (short_list 0) (keyed 0) (omega arith) refl refl in
      let b : IsLeastKey entries color short_list count 2 (min (keyed 0) (keyed 1)) = key_next entries color short_list count 1 (keyed 0) (short_list 1) _ a (omega arith) refl refl in
      let c : IsLeastKey entries color short_list count 3 (min (min (keyed 0) (keyed 1)) (keyed 2)) = key_next entries color short_list count 2 _ (short_list 2) _ b (omega arith) refl refl in
      let d : IsLeastKey entries color short_list count 4 (min (min (min (keyed 0) (keyed 1)) (keyed 2)) (keyed 3)) =
      key_next entries color short_list count 3 _ (short_list 3) _ c (omega arith) refl refl in
      subst (IsLeastKey entries color short_list count 4) (min_of_first (keyed 0) (keyed 1) (keyed 2) (keyed 3) ∙ sym (rw (e, ex, ey, ez, ew) refl)) d

  pub next_four : (i key x y z w new : ℕ) → IsLeastKey entries color short_list count i key → i + 4 ≤ count → x ≡ keyed (i + 0) → y ≡ keyed (i + 1) → z ≡ keyed (i + 2)
      → w ≡ keyed (i + 3) → new ≡ min key (min (min x y) (min z w)) → IsLeastKey entries color short_list count (i + 4) new
  next_four i key x y z w new old room ex ey ez ew e =
      let a : IsLeastKey entries color short_list count (i + 0 + 1) (min key (keyed (i + 0))) =
      key_next entries color short_list count (i + 0) key (short_list (i + 0)) _ (let z : i ≡ i + 0 = omega arith in subst (λ j. IsLeastKey entries color short_list count j key) z old) (omega arith) refl refl in
      let b : IsLeastKey entries color short_list count (i + 1 + 1) (min (min key (keyed (i + 0))) (keyed (i + 1))) =
      key_next entries color short_list count (i + 1) _ (short_list (i + 1)) _ (let z : i + 0 + 1 ≡ i + 1 = omega arith in subst (λ j. IsLeastKey entries color short_list count j (min key (keyed (i + 0)))) z a) (omega arith) refl refl in
      let c : IsLeastKey entries color short_list count (i + 2 + 1) (min (min (min key (keyed (i + 0))) (keyed (i + 1))) (keyed (i + 2))) =
      key_next entries color short_list count (i + 2) _ (short_list (i + 2)) _ (let z : i + 1 + 1 ≡ i + 2 = omega arith in subst (λ j. IsLeastKey entries color short_list count j (min (min key (keyed (i + 0))) (keyed (i + 1)))) z b) (omega arith) refl refl in
      let d : IsLeastKey entries color short_list count (i + 3 + 1) (min (min (min (min key (keyed (i + 0))) (keyed (i + 1))) (keyed (i + 2))) (keyed (i + 3))) =
      key_next entries color short_list count (i + 3) _ (short_list (i + 3)) _ (let z : i + 2 + 1 ≡ i + 3 = omega arith in subst (λ j. IsLeastKey entries color short_list count j (min (min (min key (keyed (i + 0))) (keyed (i + 1))) (keyed (i + 2)))) z c) (omega arith) refl refl in
      let at : i + 3 + 1 ≡ i + 4 = omega arith in
      subst (λ j. IsLeastKey entries color short_list count j new) at
      (subst (IsLeastKey entries color short_list count (i + 3 + 1)) (min_of_four key (keyed (i + 0)) (keyed (i + 1)) (keyed (i + 2)) (keyed (i + 3)) ∙ sym (rw (e, ex, ey, ez, ew) refl)) d)

  -- a list of indices, and some more entries behind it
  pub enough_words : (few : ℕ) → few ≤ count → AreEnough entries color (λ p. get_or lists (start + p) 0) few → AreEnough entries color short_list count
  enough_words few less enough = record {
    some = omega (arith, enough.some);
    inside = λ p b. (h.each (get_or lists (start + p) 0) (bytes (start + p))).stands;
    all = λ k b. elim (enough.all k b) [
      | inl l ↦
          let there : l.at < few = l.below in
          inl (record { at = l.at; below = omega arith; same = h.own (get_or lists (start + l.at) 0) (enough.inside l.at there) ∙ l.same })
      | inr f ↦ inr f
    ];
  }
