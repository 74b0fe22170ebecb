-- Runs of composites by runs of products and sums.
use Rattle.std.proofs.Common.{◌≡◌, ℕ, ◌+◌, ◌-◌, List, [], ◌∷◌, ◌++◌, length, map, take, sym, refl, ap, ◌∙◌, arith, min}
use Rattle.std.proofs.lemmas.List.{take-map, take_at}
use Rattle.pix_chan.specs.Number.{saturating_sum}
use Rattle.pix_chan.specs.Product.{channel_product}
use Rattle.pix_chan.specs.Channel.{IsNumbered}
use Rattle.pix_ops.specs.Operators.{Coefficient}
use Rattle.pix_ops.specs.Composite.{term}
use Rattle.pix_chan.specs.Runs.{over, triples}
use Rattle.pix_ops.specs.Composite.{run_terms}

turned : (m p q : ℕ) → min m (p + q) ≡ min m (q + p)
turned m p q = omega arith

-- the terms of source and destination, and their sums
pub terms_and_sum : (m : ℕ) (a b : Coefficient) (ds ms ss bs : List ℕ) → length ms ≡ length ds → length ss ≡ length ds → length bs ≡ length ds
    → over (λ y x. saturating_sum m x y) (over (λ w s. term m a s (m - w)) ms ss) (over (λ w d. term m b d (m - w)) bs ds) ≡ over (run_terms m a b) (triples ms ss bs) ds
terms_and_sum m a b [] [] ss bs e f h = refl
terms_and_sum m a b [] (w ∷ ms) ss bs e f h = absurd (omega arith)
terms_and_sum m a b (d ∷ ds) [] ss bs e f h = absurd (omega arith)
terms_and_sum m a b (d ∷ ds) (w ∷ ms) [] bs e f h = absurd (omega arith)
terms_and_sum m a b (d ∷ ds) (w ∷ ms) (s ∷ ss) [] e f h = absurd (omega arith)
terms_and_sum m a b (d ∷ ds) (w ∷ ms) (s ∷ ss) (u ∷ bs) e f h =
    ap (λ (l : List ℕ). min m (term m b d (m - u) + term m a s (m - w)) ∷ l) (terms_and_sum m a b ds ms ss bs (omega arith) (omega arith) (omega arith))
    ∙ ap (λ (x : ℕ). x ∷ over (run_terms m a b) (triples ms ss bs) ds) (turned m (term m b d (m - u)) (term m a s (m - w)))

-- a product by one minus each
pub by_complements : (m : ℕ) (ws xs : List ℕ) → over (λ y x. channel_product m x y) (map (λ w. m - w) ws) xs ≡ over (λ w x. channel_product m x (m - w)) ws xs
by_complements m [] [] = refl
by_complements m [] (x ∷ xs) = refl
by_complements m (w ∷ ws) [] = refl
by_complements m (w ∷ ws) (x ∷ xs) = ap (λ (l : List ℕ). channel_product m x (m - w) ∷ l) (by_complements m ws xs)

-- a product by each is one by what is left of what it leaves
pub by_themselves : {C : Type 0} (m : ℕ) (number : C → ℕ) → IsNumbered m number → (ws : List C) (xs : List ℕ)
    → over (λ y x. channel_product m x y) (map number ws) xs ≡ over (λ w x. channel_product m x (m - (m - w))) (map number ws) xs
by_themselves m number numbered [] [] = refl
by_themselves m number numbered [] (x ∷ xs) = refl
by_themselves m number numbered (w ∷ ws) [] = refl
by_themselves m number numbered (w ∷ ws) (x ∷ xs) =
    let e : number w ≡ m - (m - number w) = omega (arith, numbered.fits w) in
    ap (λ (l : List ℕ). channel_product m x (number w) ∷ l) (by_themselves m number numbered ws xs)
    ∙ ap (λ (y : ℕ). channel_product m x y ∷ over (λ w x. channel_product m x (m - (m - w))) (map number ws) xs) e

-- each as it is
pub as_they_are : (ws xs : List ℕ) → over (λ w x. x) ws xs ≡ xs
as_they_are [] [] = refl
as_they_are [] (x ∷ xs) = refl
as_they_are (w ∷ ws) [] = refl
as_they_are (w ∷ ws) (x ∷ xs) = ap (λ (l : List ℕ). x ∷ l) (as_they_are ws xs)

-- what is made of each of a list that others follow
pub front_of : {C : Type 0} (number : C → ℕ) (f : ℕ → ℕ) (n : ℕ) (xs ys made : List C) → length xs ≡ n
    → map number made ≡ map f (map number (xs ++ ys)) → map number (take n made) ≡ map f (map number xs)
front_of number f n xs ys made l e =
    sym (take-map number n made) ∙ ap (take n) e ∙ take-map f n (map number (xs ++ ys)) ∙ ap (map f) (take-map number n (xs ++ ys) ∙ ap (map number) (take_at xs ys n l))
