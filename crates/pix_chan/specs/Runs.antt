-- Runs: what an operation leaves in a slice, where each element is computed from those at the same
-- index.
use Rattle.std.specs.Prelude.{List, [], ◌∷◌}

-- f of the two elements at each index below both lengths, and the rest of the second list as it is
abbrev pub over : {X Y : Type 0} → (X → Y → Y) → List X → List Y → List Y
over f source [] = []
over f [] (d ∷ dest) = d ∷ dest
over f (s ∷ source) (d ∷ dest) = f s d ∷ over f source dest

-- the triples of the elements at each index below all three lengths
abbrev pub triples : {A : Type 0} → List A → List A → List A → List (A × A × A)
triples [] ys zs = []
triples (x ∷ xs) [] zs = []
triples (x ∷ xs) (y ∷ ys) [] = []
triples (x ∷ xs) (y ∷ ys) (z ∷ zs) = (x, y, z) ∷ triples xs ys zs
