-- Planes: the channels of one number of several pixels.
use Rattle.std.specs.Prelude.{List, [], ◌∷◌}

-- the first elements of all four lists, then the second ones, and so on
abbrev pub in_turn : {A : Type 0} → List A → List A → List A → List A → List A
in_turn [] xs ys zs = []
in_turn (w ∷ ws) [] ys zs = []
in_turn (w ∷ ws) (x ∷ xs) [] zs = []
in_turn (w ∷ ws) (x ∷ xs) (y ∷ ys) [] = []
in_turn (w ∷ ws) (x ∷ xs) (y ∷ ys) (z ∷ zs) = w ∷ x ∷ y ∷ z ∷ in_turn ws xs ys zs

-- the first elements of both lists, then the second ones, and so on
abbrev pub both_in_turn : {A : Type 0} → List A → List A → List A
both_in_turn [] xs = []
both_in_turn (w ∷ ws) [] = []
both_in_turn (w ∷ ws) (x ∷ xs) = w ∷ x ∷ both_in_turn ws xs

-- of pixels of four channels, pixel by pixel: at each place the last channel of its pixel
abbrev pub last_of_four : {A : Type 0} → List A → List A
last_of_four [] = []
last_of_four (w ∷ []) = []
last_of_four (w ∷ x ∷ []) = []
last_of_four (w ∷ x ∷ y ∷ []) = []
last_of_four (w ∷ x ∷ y ∷ z ∷ r) = z ∷ z ∷ z ∷ z ∷ last_of_four r

-- of pixels of two channels, pixel by pixel: at each place the last channel of its pixel
abbrev pub last_of_two : {A : Type 0} → List A → List A
last_of_two [] = []
last_of_two (w ∷ []) = []
last_of_two (w ∷ x ∷ r) = x ∷ x ∷ last_of_two r

-- of pixels of four channels, pixel by pixel: the colors of the first list and the alphas of the
-- second one
abbrev pub with_alphas : {A : Type 0} → List A → List A → List A
with_alphas [] xs = []
with_alphas (s ∷ []) xs = []
with_alphas (s ∷ t ∷ []) xs = []
with_alphas (s ∷ t ∷ u ∷ []) xs = []
with_alphas (s ∷ t ∷ u ∷ v ∷ r) [] = []
with_alphas (s ∷ t ∷ u ∷ v ∷ r) (w ∷ []) = []
with_alphas (s ∷ t ∷ u ∷ v ∷ r) (w ∷ x ∷ []) = []
with_alphas (s ∷ t ∷ u ∷ v ∷ r) (w ∷ x ∷ y ∷ []) = []
with_alphas (s ∷ t ∷ u ∷ v ∷ r) (w ∷ x ∷ y ∷ z ∷ q) = s ∷ t ∷ u ∷ z ∷ with_alphas r q
