-- The words of a command in their places, one place on.
use Rattle.std.proofs.Common.{◌≡◌, ℕ, zero, suc, ◌+◌, ◌<◌, ◌≤◌, List, [], ◌∷◌, length, get_or, take, map, Bool, true, false, refl, sym, ap, ◌∙◌, arith}
use Rattle.std.specs.Prelude.{◌||◌}
use Rattle.std.proofs.lemmas.List.{length-map, get_or-map}
use Rattle.pix_script.specs.declared.command.Kind.{Kind}
use Rattle.pix_script.specs.Commands.{any_fails, is_above, any_side_above}
use Rattle.pix_script.specs.Numbers.{side_of}

or_false : (b : Bool) → (b || false) ≡ b
or_false true = refl
or_false false = refl

or_assoc : (a b c : Bool) → ((a || b) || c) ≡ (a || (b || c))
or_assoc true b c = refl
or_assoc false b c = refl

fails_here : (test : Kind → List ℕ → Bool) (kinds : List Kind) (words : List (List ℕ)) (i : ℕ) (d : Kind) (word : List ℕ)
    → i < length kinds → i < length words → word ≡ get_or words i word
    → any_fails test (take (suc i) kinds) words ≡ (any_fails test (take i kinds) words || test (get_or kinds i d) word)
fails_here test [] words i d word lt lw w = absurd (omega arith)
fails_here test (x ∷ xs) [] i d word lt lw w = absurd (omega arith)
fails_here test (x ∷ xs) (y ∷ ys) zero d word lt lw w = or_false (test x y) ∙ sym (ap (test x) w)
fails_here test (x ∷ xs) (y ∷ ys) (suc i) d word lt lw w =
    ap (λ (b : Bool). test x y || b) (fails_here test xs ys i d word (omega arith) (omega arith) w)
    ∙ sym (or_assoc (test x y) (any_fails test (take i xs) ys) (test (get_or xs i d) word))

fails_past : (test : Kind → List ℕ → Bool) (kinds : List Kind) (words : List (List ℕ)) (i : ℕ) → length words ≤ i
    → any_fails test (take (suc i) kinds) words ≡ any_fails test (take i kinds) words
fails_past test [] words zero le = refl
fails_past test [] words (suc i) le = refl
fails_past test (x ∷ xs) [] zero le = refl
fails_past test (x ∷ xs) [] (suc i) le = refl
fails_past test (x ∷ xs) (y ∷ ys) zero le = absurd (omega arith)
fails_past test (x ∷ xs) (y ∷ ys) (suc i) le = ap (λ (b : Bool). test x y || b) (fails_past test xs ys i (omega arith))

-- whether a word fails in the first places, with the next place, where there is a word
pub fails_more : {V : Type 0} (read : V → List ℕ) (test : Kind → List ℕ → Bool) (kinds : List Kind) (words : List V) (i : ℕ) (d : Kind) (word : V) (old here new : Bool)
    → i < length kinds → i < length words → word ≡ get_or words i word
    → old ≡ any_fails test (take i kinds) (map read words) → here ≡ test (get_or kinds i d) (read word) → new ≡ (old || here)
    → new ≡ any_fails test (take (i + 1) kinds) (map read words)
fails_more read test kinds words i d word old here new lt lw w before now both =
    let one : i + 1 ≡ suc i = omega arith in
    let at : read word ≡ get_or (map read words) i (read word) = ap read w ∙ sym (get_or-map read words i word (read word) lw) in
    both ∙ ap (λ (b : Bool). b || here) before ∙ ap (λ (b : Bool). any_fails test (take i kinds) (map read words) || b) now
    ∙ sym (fails_here test kinds (map read words) i d (read word) lt (omega (arith, length-map words read)) at)
    ∙ sym (ap (λ (n : ℕ). any_fails test (take n kinds) (map read words)) one)

-- and where there is none
pub fails_same : {V : Type 0} (read : V → List ℕ) (test : Kind → List ℕ → Bool) (kinds : List Kind) (words : List V) (i : ℕ) → length words ≤ i
    → any_fails test (take (i + 1) kinds) (map read words) ≡ any_fails test (take i kinds) (map read words)
fails_same read test kinds words i le =
    let one : i + 1 ≡ suc i = omega arith in
    ap (λ (n : ℕ). any_fails test (take n kinds) (map read words)) one
    ∙ fails_past test kinds (map read words) i (omega (arith, length-map words read))

-- a word that is above the limit
pub above_here : {V : Type 0} (read : V → List ℕ) (limit : ℕ) (words : List V) (i : ℕ) (d : V) → i < length words
    → is_above limit (side_of (read (get_or words i d))) ≡ true → any_side_above limit (map read words) ≡ true
above_here read limit [] i d lt above = absurd (omega arith)
above_here read limit (x ∷ xs) zero d lt above = ap (λ (b : Bool). b || any_side_above limit (map read xs)) above
above_here read limit (x ∷ xs) (suc i) d lt above =
    ap (λ (b : Bool). is_above limit (side_of (read x)) || b) (above_here read limit xs i d (omega arith) above) ∙ or_true (is_above limit (side_of (read x)))
  where
    or_true : (b : Bool) → (b || true) ≡ true
    or_true true = refl
    or_true false = refl

above_next : {V : Type 0} (read : V → List ℕ) (limit : ℕ) (words : List V) (i : ℕ) (d : V) → i < length words
    → is_above limit (side_of (read (get_or words i d))) ≡ false → any_side_above limit (map read (take i words)) ≡ false
    → any_side_above limit (map read (take (suc i) words)) ≡ false
above_next read limit [] i d lt above before = absurd (omega arith)
above_next read limit (x ∷ xs) zero d lt above before = or_false (is_above limit (side_of (read x))) ∙ above
above_next read limit (x ∷ xs) (suc i) d lt above before = parts _ _ _ before (above_next read limit xs i d (omega arith) above)
  where
    parts : (a b c : Bool) → (a || b) ≡ false → (b ≡ false → c ≡ false) → (a || c) ≡ false
    parts true b c h next = absurd cc
    parts false b c h next = next h

-- the first words, none of which is above the limit, with the next one
pub above_more : {V : Type 0} (read : V → List ℕ) (limit : ℕ) (words : List V) (i : ℕ) (d : V) → i < length words
    → is_above limit (side_of (read (get_or words i d))) ≡ false → any_side_above limit (map read (take i words)) ≡ false
    → any_side_above limit (map read (take (i + 1) words)) ≡ false
above_more read limit words i d lt above before =
    let one : i + 1 ≡ suc i = omega arith in
    ap (λ (n : ℕ). any_side_above limit (map read (take n words))) one ∙ above_next read limit words i d lt above before
