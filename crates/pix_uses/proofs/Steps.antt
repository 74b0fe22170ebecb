-- Lists that are written over as a whole, and changed in three steps.
use Rattle.std.proofs.Common.{◌≡◌, ℕ, List, [], ◌∷◌, ◌++◌, length, map, take, drop, refl, ap, sym, ◌∙◌, arith}
use Rattle.std.specs.List.{refill}
use Rattle.std.proofs.lemmas.List.{take_all, take-append-le}

-- as many others in the place of all
pub refill_whole : {X : Type 0} (n : ℕ) (xs ws : List X) → length ws ≡ n → refill n xs ws ≡ ws
refill_whole n xs ws e = take-append-le n ws (drop (length ws) xs) (omega (arith, e)) ∙ take_all n ws (omega (arith, e))

-- each changed thrice
pub three_maps : (f g h : List ℕ → List ℕ) (l : List (List ℕ)) → map f (map g (map h l)) ≡ map (λ x. f (g (h x))) l
three_maps f g h [] = refl
three_maps f g h (x ∷ l) = ap (λ (t : List (List ℕ)). f (g (h x)) ∷ t) (three_maps f g h l)
