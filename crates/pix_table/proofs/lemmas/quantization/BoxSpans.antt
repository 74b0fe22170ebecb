-- Boxes of colors, one color after the other.
use Rattle.std.proofs.Common.{◌≡◌, ℕ, suc, ◌+◌, ◌<◌, ◌≤◌, cond, List, [], ◌∷◌, ◌++◌, length, map, take, get_or, fold, nat_lt, refl, arith, sym, ap, ◌∙◌, lt-ltb, le-ltb}
use Rattle.std.proofs.lemmas.List.{map-append, take_more}
use Rattle.std.proofs.lemmas.List.Sums.{fold-append, sum_by-cons}
use Rattle.pix_table.specs.quantization.Places.{below}

-- one element more
pub map_more : {X Y : Type 0} (f : X → Y) (xs : List X) (i : ℕ) (x : X) → i < length xs → x ≡ get_or xs i x
    → map f (take (i + 1) xs) ≡ map f (take i xs) ++ f x ∷ []
map_more f xs i x inside read =
    ap (map f) (take_more xs i x inside) ∙ map-append f (take i xs) (get_or xs i x ∷ []) ∙ ap (λ y. map f (take i xs) ++ f y ∷ []) (sym read)

pub fold_one_more : {X Y : Type 0} (f : Y → X → Y) (a : Y) (box more : List X) (x : X) → more ≡ box ++ x ∷ [] → fold f a more ≡ f (fold f a box) x
fold_one_more f a box more x e = ap (fold f a) e ∙ fold-append f a box (x ∷ [])

-- how many are below, with one color more before the others
pub below_first : (k v : ℕ) (c : List ℕ) (box : List (List ℕ)) → get_or c k 0 < v → below k v (c ∷ box) ≡ 1 + below k v box
below_first k v c box b =
    sum_by-cons (λ c. cond (nat_lt (get_or c k 0) v) 1 0) c box ∙ ap (λ t. cond t 1 0 + below k v box) (lt-ltb (get_or c k 0) v b)

pub below_other : (k v : ℕ) (c : List ℕ) (box : List (List ℕ)) → v ≤ get_or c k 0 → below k v (c ∷ box) ≡ 0 + below k v box
below_other k v c box b =
    sum_by-cons (λ c. cond (nat_lt (get_or c k 0) v) 1 0) c box ∙ ap (λ t. cond t 1 0 + below k v box) (le-ltb (get_or c k 0) v b)

-- where no color is below, none is counted; where each is, all are
pub none_below : (k v : ℕ) (box : List (List ℕ)) → ((j : ℕ) (d : List ℕ) → j < length box → v ≤ get_or (get_or box j d) k 0) → below k v box ≡ 0
none_below k v [] h = refl
none_below k v (c ∷ box) h =
    omega (arith, below_other k v c box (h 0 [] (omega arith)), none_below k v box (λ j d inside. h (suc j) d (omega arith)))

pub each_below_value : (k v : ℕ) (box : List (List ℕ)) → ((j : ℕ) (d : List ℕ) → j < length box → get_or (get_or box j d) k 0 < v)
    → below k v box ≡ length box
each_below_value k v [] h = refl
each_below_value k v (c ∷ box) h =
    omega (arith, below_first k v c box (h 0 [] (omega arith)), each_below_value k v box (λ j d inside. h (suc j) d (omega arith)))
