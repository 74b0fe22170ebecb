-- Two elements in the place of one.
use Rattle.std.specs.List.{slice_rotate_right}
use Rattle.std.proofs.Common.{◌≡◌, ℕ, ◌+◌, ◌-◌, ◌<◌, List, [], ◌∷◌, ◌++◌, length, take, drop, set, get_or, refl, arith, sym, ap, ap₂, ◌∙◌, append_assoc, length-append, length-drop, length-take}
use Rattle.std.proofs.lemmas.List.{drop_at, take_at, set_at, take_more, take_more_set, drop-set-lt, drop-take}
use borrow.Rule.Slice.PartMut.{put_mid, post_of}

-- the last element comes first
last_first : {X : Type 0} (g : List X) (q : X) → slice_rotate_right (g ++ q ∷ []) 1 ≡ q ∷ g
last_first g q =
    let e : length (g ++ q ∷ []) - 1 ≡ length g = omega (arith, length-append g (q ∷ [])) in
    ap (λ n. drop n (g ++ q ∷ []) ++ take n (g ++ q ∷ [])) e
    ∙ ap₂ (λ a b. a ++ b) (drop_at g (q ∷ []) (length g) refl) (take_at g (q ∷ []) (length g) refl)

-- the elements from one on move one place further, and two are written
pub split_at : {X : Type 0} (xs new : List X) (at count wide : ℕ) (low high d : X) → at < count → count < length xs → wide ≡ count + 1 - (at + 1)
    → new ≡ slice_rotate_right (take wide (drop (at + 1) (set xs at low))) 1
    → take (count + 1) (set (put_mid (at + 1) wide (set xs at low) new) (at + 1) high) ≡ take at xs ++ low ∷ high ∷ drop (at + 1) (take count xs)
split_at {X} xs new at count wide low high d inside room e turned =
    let k : ℕ = count - (at + 1) in
    let g : List X = take (count - (at + 1)) (drop (at + 1) xs) in
    let q : X = get_or (drop (at + 1) xs) (count - (at + 1)) d in
    let post : List X = post_of (at + 1) wide (set xs at low) in
    let front : take (at + 1) (set xs at low) ≡ take at xs ++ low ∷ [] = take_more_set xs at low (omega arith) in
    let front_long : length (take at xs ++ low ∷ []) ≡ at + 1 = omega (arith, length-append (take at xs) (low ∷ []), length-take at xs) in
    let g_long : length (take (count - (at + 1)) (drop (at + 1) xs)) ≡ count - (at + 1) =
    omega (arith, length-take (count - (at + 1)) (drop (at + 1) xs), length-drop (at + 1) xs) in
    let part : take wide (drop (at + 1) (set xs at low)) ≡ g ++ q ∷ [] =
    ap₂ (λ n l. take n l) (let w : wide ≡ count - (at + 1) + 1 = omega arith in w) (drop-set-lt (at + 1) xs at low (omega arith))
    ∙ take_more (drop (at + 1) xs) (count - (at + 1)) d (omega (arith, length-drop (at + 1) xs)) in
    let rotated : new ≡ q ∷ g = turned ∙ ap (λ l. slice_rotate_right l 1) part ∙ last_first g q in
    let all : set (put_mid (at + 1) wide (set xs at low) new) (at + 1) high ≡ (take at xs ++ low ∷ []) ++ (high ∷ (g ++ post)) =
    ap₂ (λ a b. set (a ++ (b ++ post)) (at + 1) high) front rotated ∙ set_at (take at xs ++ low ∷ []) q (g ++ post) high (at + 1) front_long in
    let whole : length ((take at xs ++ low ∷ []) ++ high ∷ g) ≡ count + 1 =
    omega (arith, length-append (take at xs ++ low ∷ []) (high ∷ g), front_long, g_long) in
    let rest : g ≡ drop (at + 1) (take count xs) =
    sym (drop-take (at + 1) (count - (at + 1)) xs) ∙ ap (λ n. drop (at + 1) (take n xs)) (let w : at + 1 + (count - (at + 1)) ≡ count = omega arith in w) in
    ap (take (count + 1)) (all ∙ sym (append_assoc (take at xs ++ low ∷ []) (high ∷ g) post))
    ∙ take_at ((take at xs ++ low ∷ []) ++ high ∷ g) post (count + 1) whole
    ∙ append_assoc (take at xs) (low ∷ []) (high ∷ g) ∙ ap (λ l. take at xs ++ low ∷ high ∷ l) rest
