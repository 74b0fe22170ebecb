-- Pixels beside their mattes.
use Rattle.std.proofs.Common.{◌≡◌, ℕ, zero, suc, List, [], ◌∷◌, ◌<◌, ◌≤◌, length, map, take, drop, get_or, min, replicate, refl, ap, sym, ◌∙◌, arith}
use Rattle.std.specs.List.{zip}
use Rattle.std.proofs.lemmas.List.{length-map, get_or-map, take-map, drop-map}
use Rattle.std.proofs.lemmas.Slice.Zip.{length-zip, get_or-zip}
use Rattle.pix_ops.specs.declared.ops.Op.{Op}
use Rattle.pix_chan.specs.Runs.{over}
use Rattle.pix_el.specs.Pixel.{Layout, channel}
use Rattle.pix_el.specs.PixelComposite.{matted_composite, matte_value}
use Rattle.pix_el.proofs.MattePlanes.{map-mapped, over-mapped}

module _ {A B : Type 0} where
  zip-nil : (xs : List A) → zip {K = A} {X = B} xs [] ≡ []
  zip-nil [] = refl
  zip-nil (x ∷ xs) = refl

  pub drop-zip : (n : ℕ) (xs : List A) (ys : List B) → drop n (zip xs ys) ≡ zip (drop n xs) (drop n ys)
  drop-zip zero xs ys = refl
  drop-zip (suc n) [] ys = refl
  drop-zip (suc n) (x ∷ xs) [] = sym (zip-nil (drop n xs))
  drop-zip (suc n) (x ∷ xs) (y ∷ ys) = drop-zip n xs ys

  take-zip : (n : ℕ) (xs : List A) (ys : List B) → take n (zip xs ys) ≡ zip (take n xs) (take n ys)
  take-zip zero xs ys = refl
  take-zip (suc n) [] ys = refl
  take-zip (suc n) (x ∷ xs) [] = refl
  take-zip (suc n) (x ∷ xs) (y ∷ ys) = ap (λ (l : List (A × B)). (x, y) ∷ l) (take-zip n xs ys)

-- parts of two lists, by what stands for their elements, one beside the other
pub part-zip : {M P A B : Type 0} (f : M → A) (g : P → B) (n k : ℕ) (xs : List M) (ys : List P)
    → zip (map f (take k (drop n xs))) (map g (take k (drop n ys))) ≡ take k (drop n (zip (map f xs) (map g ys)))
part-zip f g n k xs ys =
    let one = sym (take-map f k (drop n xs)) ∙ ap (take k) (sym (drop-map f n xs)) in
    let two = sym (take-map g k (drop n ys)) ∙ ap (take k) (sym (drop-map g n ys)) in
    ap (λ l. zip l (map g (take k (drop n ys)))) one ∙ ap (zip (take k (drop n (map f xs)))) two
    ∙ sym (ap (take k) (drop-zip n (map f xs) (map g ys)) ∙ take-zip k (drop n (map f xs)) (drop n (map g ys)))

-- what stands at a place of both
pub item-zip : {M P A B : Type 0} (f : M → A) (g : P → B) (xs : List M) (ys : List P) (i : ℕ) (x : M) (y : P) → i < length xs → i < length ys
    → x ≡ get_or xs i x → y ≡ get_or ys i y → (f x, g y) ≡ get_or (zip (map f xs) (map g ys)) i (f x, g y)
item-zip f g xs ys i x y h j e k =
    let a : f x ≡ get_or (map f xs) i (f x) = ap f e ∙ sym (get_or-map f xs i x (f x) h) in
    let b : g y ≡ get_or (map g ys) i (g y) = ap g k ∙ sym (get_or-map g ys i y (g y) j) in
    ap (λ u. (u, g y)) a ∙ ap (λ v. (get_or (map f xs) i (f x), v)) b
    ∙ sym (get_or-zip (map f xs) (map g ys) i (f x, g y) (omega (arith, length-map xs f)) (omega (arith, length-map ys g)))

-- how many stand in both
pub length-beside : {M P A B : Type 0} (f : M → A) (g : P → B) (xs : List M) (ys : List P) → length (zip (map f xs) (map g ys)) ≡ min (length xs) (length ys)
length-beside f g xs ys = length-zip (map f xs) (map g ys) ∙ ap (λ n. min n (length (map g ys))) (length-map xs f) ∙ ap (min (length xs)) (length-map ys g)

-- each of a list made of the one beside it, and then with another list
pub over-beside : {A B C : Type 0} (f : B → A → A) (h : C → B → B) (us : List C) (xs : List B) (ys : List A) → length us ≡ length xs
    → over f (over h us xs) ys ≡ over (λ t. f (h t.0 t.1)) (zip us xs) ys
over-beside f h us xs [] e = refl
over-beside f h [] [] (y ∷ ys) e = refl
over-beside f h [] (x ∷ xs) (y ∷ ys) e = absurd (omega arith)
over-beside f h (u ∷ us) [] (y ∷ ys) e = absurd (omega arith)
over-beside {A = A} f h (u ∷ us) (x ∷ xs) (y ∷ ys) e = ap (λ (l : List A). f (h u x) y ∷ l) (over-beside f h us xs ys (omega arith))

-- one element beside each
pub over-one : {A B C : Type 0} (f : C → B → A → A) (n : ℕ) (u : C) (xs : List B) (ys : List A) → length xs ≤ n
    → over (λ t. f t.0 t.1) (zip (replicate n u) xs) ys ≡ over (f u) xs ys
over-one f n u xs [] h = refl
over-one f zero u [] (y ∷ ys) h = refl
over-one f zero u (x ∷ xs) (y ∷ ys) h = absurd (omega arith)
over-one f (suc n) u [] (y ∷ ys) h = refl
over-one {A = A} f (suc n) u (x ∷ xs) (y ∷ ys) h = ap (λ (l : List A). f u x y ∷ l) (over-one f n u xs ys (omega arith))

map-first : {A B C : Type 0} (f : A → C) (xs : List A) (ys : List B) → map (λ t. (f t.0, t.1)) (zip xs ys) ≡ zip (map f xs) ys
map-first f [] ys = refl
map-first f (x ∷ xs) [] = refl
map-first {B = B} {C = C} f (x ∷ xs) (y ∷ ys) = ap (λ (l : List (C × B)). (f x, y) ∷ l) (map-first f xs ys)

-- pixels composited through the values of mattes, by the mattes' own numbers
pub masked_by_values : {X : Type 0} (layout : Layout) (op : Op) (max : ℕ) → max ≡ layout.max → (numbers : X → List ℕ) (count : ℕ) (mattes : List X) (source dest : List (List ℕ))
    → over (λ t. matted_composite layout op t.0 t.1) (take count (zip (map (λ x. channel max (numbers x) 0) mattes) source)) dest
    ≡ over (λ t. matted_composite layout op (matte_value layout t.0) t.1) (take count (zip (map numbers mattes) source)) dest
masked_by_values layout op max e numbers count mattes source dest =
    let value = λ (m : List ℕ). channel max m 0 in
    let made = λ (ts : List (ℕ × List ℕ)). over (λ t. matted_composite layout op t.0 t.1) ts dest in
    let listed = zip (map numbers mattes) source in
    ap (λ (l : List ℕ). made (take count (zip l source))) (map-mapped value numbers mattes)
    ∙ ap (λ (l : List (ℕ × List ℕ)). made (take count l)) (sym (map-first value (map numbers mattes) source))
    ∙ ap made (take-map (λ (t : List ℕ × List ℕ). (value t.0, t.1)) count listed)
    ∙ over-mapped (λ (t : ℕ × List ℕ). matted_composite layout op t.0 t.1) (λ (t : List ℕ × List ℕ). (value t.0, t.1)) (take count listed) dest
    ∙ ap (λ (m : ℕ). over (λ t. matted_composite layout op (channel m t.0 0) t.1) (take count listed) dest) e
