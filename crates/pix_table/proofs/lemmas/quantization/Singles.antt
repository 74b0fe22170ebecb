-- Colors that stand once, as items.
use Rattle.std.specs.Prelude.{sum_by}
use Rattle.std.proofs.Common.{◌≡◌, ℕ, ◌+◌, ◌<◌, List, [], ◌∷◌, ◌++◌, length, map, replicate, take, get_or, All, IsPermutation, refl, arith, sym, ap, ap₂, ◌∙◌, subst, length-append}
use Rattle.std.proofs.lemmas.List.{get_or_at, length-map, take_at}
use Rattle.std.proofs.lemmas.List.Elements.{All-cons, All-nil}
use Rattle.pix_table.specs.quantization.Items.{IsItem, spread, times_of}
use Rattle.pix_table.proofs.lemmas.quantization.ItemLists.{length-spread, spread-moved}

module _ {X : Type 0} (numbers : X → List ℕ) (channels : ℕ) (long : (x : X) → length (numbers x) ≡ channels) where
  abbrev pub single : X → List ℕ
  single x = numbers x ++ 1 ∷ []

  times_once : (x : X) → times_of channels (single x) ≡ 1
  times_once x = get_or_at (numbers x) 1 [] 0 channels (long x)

  -- their colors
  pub spread_singles : (xs : List X) → spread channels (map single xs) ≡ map numbers xs
  spread_singles [] = refl
  spread_singles (x ∷ xs) =
      ap₂ (λ (n : ℕ) (c : List ℕ). replicate n c ++ spread channels (map single xs)) (times_once x) (take_at (numbers x) (1 ∷ []) channels (long x))
      ∙ ap (λ l. numbers x ∷ l) (spread_singles xs)

  pub singles_are : (xs : List X) → All (IsItem channels) (map single xs)
  singles_are [] = All-nil (IsItem channels)
  singles_are (x ∷ xs) =
      All-cons (IsItem channels) (single x) (map single xs)
      (record { long = omega (arith, length-append (numbers x) (1 ∷ []), long x); some = omega (arith, times_once x) }) (singles_are xs)

  -- how many they are
  pub singles_count : (xs : List X) → sum_by (times_of channels) (map single xs) ≡ length xs
  singles_count xs = sym (length-spread channels (map single xs)) ∙ ap length (spread_singles xs) ∙ length-map xs numbers

  -- colors that come into another order
  pub singles_moved : (xs ys : List X) → IsPermutation (map single xs) (map single ys) → IsPermutation (map numbers xs) (map numbers ys)
  singles_moved xs ys moved =
      subst (λ l. IsPermutation (map numbers xs) l) (spread_singles ys)
      (subst (λ l. IsPermutation l (spread channels (map single ys))) (spread_singles xs) (spread-moved channels (map single xs) (map single ys) moved))
