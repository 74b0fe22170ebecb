-- Runs that go on, and what is made of each of a list.
use Rattle.std.proofs.Common.{◌≡◌, ℕ, zero, suc, List, [], ◌∷◌, ◌++◌, ◌+◌, ◌-◌, length, map, take, drop, get_or, refl, ap, ◌∙◌, arith, replicate, sym, ◌≤◌, Bool, if◌then◌else◌}
use Rattle.pix_ops.specs.declared.ops.Op.{Op}
use Rattle.pix_chan.specs.Product.{channel_product}
use Rattle.pix_chan.specs.Runs.{over}
use Rattle.pix_chan.proofs.Sixteen.{whole16}
use Rattle.pix_chan.proofs.Slices.{over-nil, map-put_mid, length-run, over_color}
use Rattle.std.proofs.lemmas.List.{append-nil, drop_all, length-drop, length-map, length-take, drop-map, take-map, take_all}
use borrow.Rule.Slice.PartMut.{put_mid}
use Rattle.std.specs.declared.ops.Range.{Range}
use Rattle.pix_el.specs.Planes.{matted_first}
use Rattle.pix_el.specs.Pixel.{Layout, channel, lies_in}
use Rattle.pix_el.specs.PixelComposite.{matted_composite, matte_value}

-- what is made of each of a list, and the list of those
pub map-mapped : {A B C : Type 0} (f : B → C) (g : A → B) (xs : List A) → map (λ x. f (g x)) xs ≡ map f (map g xs)
map-mapped f g [] = refl
map-mapped {C = C} f g (x ∷ xs) = ap (λ (l : List C). f (g x) ∷ l) (map-mapped f g xs)

pub over-mapped : {A B C : Type 0} (f : B → C → C) (g : A → B) (xs : List A) (ys : List C) → over f (map g xs) ys ≡ over (λ x. f (g x)) xs ys
over-mapped f g xs [] = refl
over-mapped f g [] (y ∷ ys) = refl
over-mapped {C = C} f g (x ∷ xs) (y ∷ ys) = ap (λ (l : List C). f (g x) y ∷ l) (over-mapped f g xs ys)

-- a color composited through the values of mattes, by the mattes' own numbers
pub by_values : {X : Type 0} (layout : Layout) (op : Op) (max : ℕ) → max ≡ layout.max → (numbers : X → List ℕ) (count : ℕ) (mattes : List X) (color : List ℕ) (dest : List (List ℕ))
    → over (λ m. matted_composite layout op m color) (take count (map (λ x. channel max (numbers x) 0) mattes)) dest
    ≡ over (λ matte. matted_composite layout op (matte_value layout matte) color) (take count (map numbers mattes)) dest
by_values layout op max e numbers count mattes color dest =
    let value = λ (m : List ℕ). channel max m 0 in
    let made = λ (ms : List ℕ). over (λ m. matted_composite layout op m color) ms dest in
    let listed = take count (map numbers mattes) in
    ap (λ (l : List ℕ). made (take count l)) (map-mapped value numbers mattes)
    ∙ ap made (take-map value count (map numbers mattes))
    ∙ over-mapped (λ m. matted_composite layout op m color) value listed dest
    ∙ ap (λ (x : ℕ). over (λ matte. matted_composite layout op (channel x matte 0) color) listed dest) e

-- the first channels are all hues, or none is
pub matted_first_is : (max : ℕ) (hues : Range ℕ) (b : Bool) → lies_in hues 0 ≡ b → (ms xs : List ℕ)
    → over (λ m x. if b then x else channel_product max x m) ms xs ≡ over (matted_first max hues) ms xs
matted_first_is max hues b e ms xs = ap (λ (z : Bool). over (λ m x. if z then x else channel_product max x m) ms xs) (sym e)

-- what is made of each of sixteen
pub mapped16 : {A B : Type 0} (f : A → B) (xs : List A) (d0 d1 d2 d3 d4 d5 d6 d7 d8 d9 d10 d11 d12 d13 d14 d15 : A) {r0 r1 r2 r3 r4 r5 r6 r7 r8 r9 r10 r11 r12 r13 r14 r15 : B} → length xs ≡ 16
    → r0 ≡ f (get_or xs 0 d0) → r1 ≡ f (get_or xs 1 d1) → r2 ≡ f (get_or xs 2 d2) → r3 ≡ f (get_or xs 3 d3) → r4 ≡ f (get_or xs 4 d4) → r5 ≡ f (get_or xs 5 d5) → r6 ≡ f (get_or xs 6 d6) → r7 ≡ f (get_or xs 7 d7) → r8 ≡ f (get_or xs 8 d8) → r9 ≡ f (get_or xs 9 d9) → r10 ≡ f (get_or xs 10 d10) → r11 ≡ f (get_or xs 11 d11) → r12 ≡ f (get_or xs 12 d12) → r13 ≡ f (get_or xs 13 d13) → r14 ≡ f (get_or xs 14 d14) → r15 ≡ f (get_or xs 15 d15)
    → r0 ∷ r1 ∷ r2 ∷ r3 ∷ r4 ∷ r5 ∷ r6 ∷ r7 ∷ r8 ∷ r9 ∷ r10 ∷ r11 ∷ r12 ∷ r13 ∷ r14 ∷ r15 ∷ [] ≡ map f xs
mapped16 f xs d0 d1 d2 d3 d4 d5 d6 d7 d8 d9 d10 d11 d12 d13 d14 d15 h e0 e1 e2 e3 e4 e5 e6 e7 e8 e9 e10 e11 e12 e13 e14 e15 =
    rw (e0, e1, e2, e3, e4, e5, e6, e7, e8, e9, e10, e11, e12, e13, e14, e15) (ap (map f) (whole16 xs d0 d1 d2 d3 d4 d5 d6 d7 d8 d9 d10 d11 d12 d13 d14 d15 h))

-- a run that has gone on to n, and from there on by r more elements
over_rest : {A B : Type 0} (f : B → A → A) (n r m : ℕ) (xs : List A) (ys : List B) → m ≡ n + r → n ≤ length ys
    → take n (over f (take n ys) xs) ++ over f (take r (drop n ys)) (drop n (over f (take n ys) xs)) ≡ over f (take m ys) xs
over_rest f zero r m xs ys e h =
    let q : m ≡ r = omega arith in
    rw (over-nil (λ x y. f y x) xs) (rw q refl)
over_rest f (suc n) r m [] ys e h = refl
over_rest f (suc n) r m (x ∷ xs) [] e h = absurd (omega arith)
over_rest f (suc n) r zero (x ∷ xs) (y ∷ ys) e h = absurd (omega arith)
over_rest {A = A} f (suc n) r (suc m) (x ∷ xs) (y ∷ ys) e h = ap (λ (l : List A). f y x ∷ l) (over_rest f n r m xs ys (omega arith) (omega arith))

-- the same at a slice from n on, and both lists by what stands for their elements
pub next_run : {C D A B : Type 0} (number : C → A) (other : D → B) (f : B → A → A) (n r : ℕ) (xs ws new : List C) (ys : List D)
    → map number ws ≡ over f (take n (map other ys)) (map number xs) → n ≤ length ys
    → map number new ≡ over f (take r (map other (take (length ys - n) (drop n ys)))) (map number (take (length ws - n) (drop n ws)))
    → map number (put_mid n (length ws - n) ws new) ≡ over f (take (n + r) (map other ys)) (map number xs)
next_run {A = A} {B = B} number other f n r xs ws new ys e h i =
    let at = map number ws in
    let k = length ws - n in
    let none : drop k (drop n at) ≡ [] = drop_all k (drop n at) (omega (arith, length-drop n at, length-map ws number)) in
    let of_source : map other (take (length ys - n) (drop n ys)) ≡ drop n (map other ys)
    = ap (map other) (take_all (length ys - n) (drop n ys) (omega (arith, length-drop n ys))) ∙ sym (drop-map other n ys) in
    let of_dest : map number (take k (drop n ws)) ≡ drop n at
    = ap (map number) (take_all k (drop n ws) (omega (arith, length-drop n ws))) ∙ sym (drop-map number n ws) in
    let made : map number new ≡ over f (take r (drop n (map other ys))) (drop n at)
    = i ∙ ap (λ (l : List B). over f (take r l) (map number (take k (drop n ws)))) of_source ∙ ap (over f (take r (drop n (map other ys)))) of_dest in
    map-put_mid number (λ x y. f y x) n k ws new
    ∙ ap (λ (l : List A). take n at ++ (map number new ++ l)) none
    ∙ ap (λ (l : List A). take n at ++ l) (append-nil (map number new) ∙ made)
    ∙ ap (λ (l : List A). take n l ++ over f (take r (drop n (map other ys))) (drop n l)) e
    ∙ over_rest f n r (n + r) (map number xs) (map other ys) refl (omega (arith, h, length-map ys other))

-- the same where the slice from n on is the whole rest
pub last_run : {C D A B : Type 0} (number : C → A) (other : D → B) (f : B → A → A) (n : ℕ) (xs ws new : List C) (ys : List D)
    → map number ws ≡ over f (take n (map other ys)) (map number xs) → n ≤ length ys
    → map number new ≡ over f (map other (take (length ys - n) (drop n ys))) (map number (take (length ws - n) (drop n ws)))
    → map number (put_mid n (length ws - n) ws new) ≡ over f (map other ys) (map number xs)
last_run {B = B} number other f n xs ws new ys e h i =
    let r = length ys - n in
    let part = take r (drop n ys) in
    let at = map number (take (length ws - n) (drop n ws)) in
    let all : take r (map other part) ≡ map other part = take_all r (map other part) (omega (arith, length-map part other, length-take r (drop n ys), length-drop n ys)) in
    next_run number other f n r xs ws new ys e h (i ∙ ap (λ (l : List B). over f l at) (sym all))
    ∙ ap (λ (l : List B). over f l (map number xs)) (take_all (n + r) (map other ys) (omega (arith, h, length-map ys other)))

-- one color again and again
replicated : {C A : Type 0} (color : A) (xs : List C) → map (λ _. color) xs ≡ replicate (length xs) color
replicated color [] = refl
replicated {A = A} color (x ∷ xs) = ap (λ (l : List A). color ∷ l) (replicated color xs)

-- a run of one color that continues in the slice from n on
pub next_color : {C A B : Type 0} (number : C → A) (f : B → A → A) (n r : ℕ) (xs ws new : List C) (color : B)
    → map number ws ≡ over f (take n (replicate (length xs) color)) (map number xs) → n ≤ length xs
    → map number new ≡ over f (take r (replicate (length (take (length ws - n) (drop n ws))) color)) (map number (take (length ws - n) (drop n ws)))
    → map number (put_mid n (length ws - n) ws new) ≡ over f (take (n + r) (replicate (length xs) color)) (map number xs)
next_color {B = B} number f n r xs ws new color e h i =
    let at = map number xs in
    let rest = take (length ws - n) (drop n ws) in
    let own = take (length xs - n) (drop n xs) in
    let same : length ws ≡ length xs = sym (length-map ws number) ∙ ap length e ∙ length-run (λ x y. f y x) at (take n (replicate (length xs) color)) ∙ length-map xs number in
    let long : length rest ≡ length own
    = omega (arith, same, length-take (length ws - n) (drop n ws), length-drop n ws, length-take (length xs - n) (drop n xs), length-drop n xs) in
    next_run number (λ _. color) f n r xs ws new xs
    (e ∙ ap (λ (l : List B). over f (take n l) at) (sym (replicated color xs))) h
    (i ∙ ap (λ (l : List B). over f (take r l) (map number rest)) (ap (λ (k : ℕ). replicate k color) long ∙ sym (replicated color own)))
    ∙ ap (λ (l : List B). over f (take (n + r) l) at) (replicated color xs)

-- the same where the slice from n on is the whole rest
pub last_color : {C A B : Type 0} (number : C → A) (f : B → A → A) (n : ℕ) (xs ws new : List C) (color : B)
    → map number ws ≡ over f (take n (replicate (length xs) color)) (map number xs) → n ≤ length xs
    → map number new ≡ map (f color) (map number (take (length ws - n) (drop n ws)))
    → map number (put_mid n (length ws - n) ws new) ≡ map (f color) (map number xs)
last_color {A = A} {B = B} number f n xs ws new color e h i =
    let own = λ (x : A) (y : B). f y x in
    let at = map number xs in
    let rest = take (length ws - n) (drop n ws) in
    let r = length rest in
    let m = length xs in
    let same : length ws ≡ m = sym (length-map ws number) ∙ ap length e ∙ length-run own at (take n (replicate m color)) ∙ length-map xs number in
    next_color number f n r xs ws new color e h (i ∙ sym (over_color own r r color (map number rest) (omega (arith, length-map rest number)) (length-map rest number)))
    ∙ over_color own (n + r) m color at (omega (arith, h, same, length-map xs number, length-take (length ws - n) (drop n ws), length-drop n ws)) (length-map xs number)
