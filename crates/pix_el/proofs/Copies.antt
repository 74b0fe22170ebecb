-- Copied pixels, by their numbers.
use Rattle.std.proofs.Common.{◌≡◌, ℕ, ◌+◌, ◌-◌, ◌*◌, ◌/◌, ◌%◌, ◌≤◌, ◌<◌, List, [], ◌∷◌, ◌++◌, length, map, min, take, drop, replicate, refl, ap, sym, ◌∙◌, arith}
use borrow.Rule.Slice.PartMut.{put_mid}
use Rattle.std.proofs.Math.Nat.{mul-le-mul_left}
use Rattle.std.proofs.lemmas.Grind.{div_ceil_times}
use Rattle.std.proofs.lemmas.List.{append_assoc, drop-drop, drop-take, length-take-le, take-append-drop, take-append-le, take-take}
use Rattle.std.proofs.lemmas.Slice.{drop-append-drop}
use Rattle.pix_chan.specs.Runs.{over}
use Rattle.pix_chan.proofs.Planes.{same_pair}

-- one color in place of each pixel
pub map_color : {P X : Type 0} (n : P → X) (clr : P) (xs : List P) → map n (replicate (length xs) clr) ≡ map (λ _. n clr) (map n xs)
map_color n clr [] = refl
map_color {X = X} n clr (x ∷ xs) = ap (λ (l : List X). n clr ∷ l) (map_color n clr xs)

-- each pixel of a row that has one color
pub colored : {P X : Type 0} (n : P → X) (clr : P) (value : X) (old new : List P) → new ≡ replicate (length old) clr → n clr ≡ value → map n new ≡ map (λ _. value) (map n old)
colored {X = X} n clr value old new is numbers = ap (map n) is ∙ map_color n clr old ∙ ap (λ (v : X). map (λ (_ : X). v) (map n old)) numbers

-- the pixels of one row in place of those of another
pub map_over : {P X : Type 0} (n : P → X) (source dest : List P) → map n (over (λ s d. s) source dest) ≡ over (λ s d. s) (map n source) (map n dest)
map_over n source [] = refl
map_over n [] (d ∷ dest) = refl
map_over {X = X} n (s ∷ source) (d ∷ dest) = ap (λ (l : List X). n s ∷ l) (map_over n source dest)

-- the first n places are copied, and then those from k, which is not past them, up to e
pub copied_more : {X : Type 0} (k n e : ℕ) (source old ws new : List X) → k ≤ n → n ≤ e → n ≤ length source → ws ≡ take n source ++ drop n old
    → new ≡ take (e - k) (drop k source) → put_mid k (e - k) ws new ≡ take e source ++ drop e old
copied_more {X = X} k n e source old ws new from le has is fresh =
    let part : length (take n source) ≡ n = length-take-le n source has in
    let end : k + (e - k) ≡ e = omega arith in
    let first : take k ws ≡ take k source = ap (take k) is ∙ take-append-le k (take n source) (drop n old) (omega (arith, part)) ∙ take-take k n source from in
    let rest : drop (e - k) (drop k ws) ≡ drop e old = drop-drop (e - k) k ws ∙ ap (λ (j : ℕ). drop j ws) end ∙ ap (drop e) is ∙ drop-append-drop n old (take n source) e le part in
    let whole : take k source ++ take (e - k) (drop k source) ≡ take e source =
    same_pair (sym (take-take k e source (omega arith))) (sym (drop-take k (e - k) source) ∙ ap (λ (j : ℕ). drop k (take j source)) end) ∙ take-append-drop k (take e source) in
    same_pair first (same_pair fresh rest)
    ∙ sym (append_assoc (take k source) (take (e - k) (drop k source)) (drop e old))
    ∙ ap (λ (l : List X). l ++ drop e old) whole

-- a row that is copied part by part, and then the part that is next, which ends where the row ends or before
pub copied_part : {X : Type 0} (k part count at : ℕ) (source old ws new : List X) → part ≤ count → count ≤ length source → k * part < count
    → at ≡ min (k * part) (count - part) → ws ≡ take (min (k * part) count) source ++ drop (min (k * part) count) old
    → new ≡ take (at + part - at) (drop at source)
    → put_mid at (at + part - at) ws new ≡ take (min ((k + 1) * part) count) source ++ drop (min ((k + 1) * part) count) old
copied_part {X = X} k part count at source old ws new fits has next is so_far fresh =
    let end : at + part ≡ min ((k + 1) * part) count = omega arith in
    copied_more at (min (k * part) count) (at + part) source old ws new (omega arith) (omega arith) (omega arith) so_far fresh
    ∙ ap (λ (n : ℕ). take n source ++ drop n old) end

-- a part of those that it takes begins within the row
pub part_begins : (k part count end : ℕ) → 0 < part → end ≡ count / part + min 1 (count % part) → k < end → k * part < count
part_begins k part count end some is lt =
    let most : part * (k + 1) ≤ part * end = mul-le-mul_left part (omega (arith, lt)) in
    let all : end * part < count + part = rw is (div_ceil_times count part some).1 in
    let next : part * (k + 1) ≡ k * part + part = omega arith in
    let same : part * end ≡ end * part = omega arith in
    omega (arith, most, all, next, same)
