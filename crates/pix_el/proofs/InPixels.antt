-- Pixels in memory, and the list of their channels.
use Rattle.std.proofs.Common.{◌≡◌, ℕ, zero, suc, ◌+◌, ◌-◌, ◌*◌, ◌<◌, ◌≤◌, ◌∙◌, List, [], ◌∷◌, ◌++◌, length, map, take, drop, get_or, set, refl, ap, sym, arith}
use Rattle.std.proofs.lemmas.List.{take-take, drop-take, drop-drop, take_all, take_more, take_more_set, take-map, drop-map, map-append, take-append-drop}
use Rattle.std.proofs.lemmas.Slice.{take-put_mid, take-put_mid_below}
use Rattle.std.proofs.Math.Nat.{mul-le-mul_left}
use borrow.Rule.Slice.PartMut.{put_mid}
use Rattle.pix_chan.proofs.Planes.{same_pair, four_times}
use Rattle.pix_el.specs.Stored.{in_pixels}
use Rattle.pix_el.specs.Planes.{by_fours, by_twos, by_ones}

-- no more channels are read than the pixels have
in_pixels_within : {A : Type 0} (count i : ℕ) (xs : List A) → in_pixels count i (take (count * i) xs) ≡ in_pixels count i xs
in_pixels_within count zero xs = refl
in_pixels_within {A = A} count (suc i) xs =
    let e : count * suc i ≡ count + count * i = omega arith in
    let first : take count (take (count + count * i) xs) ≡ take count xs = take-take count (count + count * i) xs (omega arith) in
    let rest : in_pixels count i (drop count (take (count + count * i) xs)) ≡ in_pixels count i (drop count xs)
    = ap (in_pixels count i) (drop-take count (count * i) xs) ∙ in_pixels_within count i (drop count xs) in
    ap (λ (k : ℕ). in_pixels count (suc i) (take k xs)) e
    ∙ ap (λ (l : List A). l ∷ in_pixels count i (drop count (take (count + count * i) xs))) first
    ∙ ap (λ (l : List (List A)). take count xs ∷ l) rest

-- lists that agree on the channels of the first pixels
in_pixels_same : {A : Type 0} (count i : ℕ) (xs ys : List A) → take (count * i) xs ≡ take (count * i) ys → in_pixels count i xs ≡ in_pixels count i ys
in_pixels_same count i xs ys e = sym (in_pixels_within count i xs) ∙ ap (in_pixels count i) e ∙ in_pixels_within count i ys

-- one pixel more
in_pixels_suc : {A : Type 0} (count i : ℕ) (xs : List A) → in_pixels count (suc i) xs ≡ in_pixels count i xs ++ (take count (drop (count * i) xs) ∷ [])
in_pixels_suc count zero xs = let e : count * 0 ≡ 0 = omega arith in rw e refl
in_pixels_suc {A = A} count (suc i) xs =
    let e : count + count * i ≡ count * suc i = omega arith in
    ap (λ (l : List (List A)). take count xs ∷ l)
    (in_pixels_suc count i (drop count xs)
    ∙ ap (λ (l : List A). in_pixels count i (drop count xs) ++ (take count l ∷ [])) (drop-drop (count * i) count xs ∙ ap (λ (k : ℕ). drop k xs) e))

in_pixels_more : {A : Type 0} (count i : ℕ) (xs : List A) → in_pixels count (i + 1) xs ≡ in_pixels count i xs ++ (take count (drop (count * i) xs) ∷ [])
in_pixels_more count i xs = let e : i + 1 ≡ suc i = omega arith in ap (λ (k : ℕ). in_pixels count k xs) e ∙ in_pixels_suc count i xs

-- a pixel's channels end within those of all
pub pixel_ends : (n count long i : ℕ) → n ≡ count → i < long → n * i + n ≤ count * long
pixel_ends n count long i e lt =
    let a : count * (i + 1) ≤ count * long = mul-le-mul_left count (omega (arith, lt)) in
    let b : count * (i + 1) ≡ count * i + count = omega arith in
    rw e (omega (arith, a, b))

module _ {X C : Type 0} (v : C → ℕ) (r : X → List ℕ) (count : ℕ) where
  -- the channels of one pixel more are read
  pub pixel_read : (n i : ℕ) (p : List X) (item : X) (ws own : List C) → n ≡ count → length ws ≡ count * length p → i < length p
      → item ≡ get_or p i item → length own ≡ count → map v own ≡ r item → in_pixels count i (map v ws) ≡ map r (take i p)
      → in_pixels count (i + 1) (map v (put_mid (n * i) (n * i + n - n * i) ws own)) ≡ map r (take (i + 1) p)
  pixel_read n i p item ws own e long lt is size own_is so_far =
      let at = n * i in
      let ys = put_mid at (at + n - at) ws own in
      let ends : at + n ≤ length ws = omega (arith, pixel_ends n count (length p) i e lt, long) in
      let same : count * i ≡ at = ap (λ (k : ℕ). k * i) (sym e) in
      let below : take (count * i) (map v ys) ≡ take (count * i) (map v ws)
      = take-map v (count * i) ys ∙ ap (map v) (ap (λ (k : ℕ). take k ys) same ∙ take-put_mid_below at (at + n - at) ws own at (omega arith) (omega (arith, ends)) ∙ ap (λ (k : ℕ). take k ws) (sym same))
      ∙ sym (take-map v (count * i) ws) in
      let both : take (at + count) ys ≡ take at ws ++ own = take-put_mid at (at + n - at) ws own (at + count) (omega (arith, size)) (omega (arith, ends)) in
      let there : take count (drop at ys) ≡ own = sym (drop-take at count ys) ∙ ap (drop at) both ∙ past at ws own (omega (arith, ends)) in
      let mine : take count (drop (count * i) (map v ys)) ≡ r item
      = ap (λ (k : ℕ). take count (drop k (map v ys))) same ∙ ap (take count) (drop-map v at ys) ∙ take-map v count (drop at ys) ∙ ap (map v) there ∙ own_is in
      in_pixels_more count i (map v ys)
      ∙ same_pair (in_pixels_same count i (map v ys) (map v ws) below ∙ so_far) (ap (λ (l : List ℕ). l ∷ []) mine)
      ∙ sym (ap (map r) (take_more p i item lt) ∙ map-append r (take i p) (get_or p i item ∷ []) ∙ ap (λ (x : X). map r (take i p) ++ (r x ∷ [])) (sym is))
    where
      past : (k : ℕ) (ws own : List C) → k ≤ length ws → drop k (take k ws ++ own) ≡ own
      past zero ws own h = refl
      past (suc k) [] own h = absurd (omega arith)
      past (suc k) (w ∷ ws) own h = past k ws own (omega arith)

  -- one pixel more is written
  pub pixel_written : (n i : ℕ) (ps : List X) (made : X) (c : List C) → n ≡ count → i < length ps
      → map r (take i ps) ≡ in_pixels count i (map v c) → r made ≡ map v (take (n * i + n - n * i) (drop (n * i) c))
      → map r (take (i + 1) (set ps i made)) ≡ in_pixels count (i + 1) (map v c)
  pixel_written n i ps made c e lt so_far is =
      let at = n * i in
      let same : at ≡ count * i = ap (λ (k : ℕ). k * i) e in
      let size : at + n - at ≡ count = omega (arith, e) in
      let mine : r made ≡ take count (drop (count * i) (map v c))
      = is ∙ ap (λ (k : ℕ). map v (take k (drop at c))) size ∙ ap (λ (k : ℕ). map v (take count (drop k c))) same
      ∙ sym (take-map v count (drop (count * i) c)) ∙ ap (take count) (sym (drop-map v (count * i) c)) in
      ap (map r) (take_more_set ps i made lt) ∙ map-append r (take i ps) (made ∷ [])
      ∙ same_pair so_far (ap (λ (l : List ℕ). l ∷ []) mine) ∙ sym (in_pixels_more count i (map v c))

-- pixels of four, of two and of one channel
fours_in : (n : ℕ) (cs : List ℕ) → length cs ≡ four_times n → in_pixels 4 n cs ≡ by_fours cs
fours_in zero [] h = refl
fours_in zero (c ∷ cs) h = absurd (omega arith)
fours_in (suc n) [] h = absurd (omega arith)
fours_in (suc n) (w ∷ []) h = absurd (omega arith)
fours_in (suc n) (w ∷ x ∷ []) h = absurd (omega arith)
fours_in (suc n) (w ∷ x ∷ y ∷ []) h = absurd (omega arith)
fours_in (suc n) (w ∷ x ∷ y ∷ z ∷ cs) h = ap (λ (l : List (List ℕ)). (w ∷ x ∷ y ∷ z ∷ []) ∷ l) (fours_in n cs (omega arith))

twos_in : (n : ℕ) (cs : List ℕ) → length cs ≡ n + n → in_pixels 2 n cs ≡ by_twos cs
twos_in zero [] h = refl
twos_in zero (c ∷ cs) h = absurd (omega arith)
twos_in (suc n) [] h = absurd (omega arith)
twos_in (suc n) (w ∷ []) h = absurd (omega arith)
twos_in (suc n) (w ∷ x ∷ cs) h = ap (λ (l : List (List ℕ)). (w ∷ x ∷ []) ∷ l) (twos_in n cs (omega arith))

ones_in : (n : ℕ) (cs : List ℕ) → length cs ≡ n → in_pixels 1 n cs ≡ by_ones cs
ones_in zero [] h = refl
ones_in zero (c ∷ cs) h = absurd (omega arith)
ones_in (suc n) [] h = absurd (omega arith)
ones_in (suc n) (w ∷ cs) h = ap (λ (l : List (List ℕ)). (w ∷ []) ∷ l) (ones_in n cs (omega arith))

-- what is read and written of n pixels
module _ (count n long : ℕ) (cs : List ℕ) (pixels : List (List ℕ)) where
  in_all : (width : ℕ) → count ≡ width → long ≡ n → in_pixels count long cs ≡ in_pixels width n cs
  in_all width e h = ap (λ (k : ℕ). in_pixels k long cs) e ∙ ap (λ (k : ℕ). in_pixels width k cs) h

  pub fours_read : count ≡ 4 → long ≡ n → length cs ≡ four_times n → in_pixels count long cs ≡ pixels → by_fours cs ≡ pixels
  fours_read e h l is = sym (in_all 4 e h ∙ fours_in n cs l) ∙ is

  pub fours_written : count ≡ 4 → long ≡ n → length cs ≡ four_times n → pixels ≡ in_pixels count long cs → pixels ≡ by_fours cs
  fours_written e h l is = is ∙ in_all 4 e h ∙ fours_in n cs l

  pub twos_read : count ≡ 2 → long ≡ n → length cs ≡ n + n → in_pixels count long cs ≡ pixels → by_twos cs ≡ pixels
  twos_read e h l is = sym (in_all 2 e h ∙ twos_in n cs l) ∙ is

  pub twos_written : count ≡ 2 → long ≡ n → length cs ≡ n + n → pixels ≡ in_pixels count long cs → pixels ≡ by_twos cs
  twos_written e h l is = is ∙ in_all 2 e h ∙ twos_in n cs l

  pub ones_read : count ≡ 1 → long ≡ n → length cs ≡ n → in_pixels count long cs ≡ pixels → by_ones cs ≡ pixels
  ones_read e h l is = sym (in_all 1 e h ∙ ones_in n cs l) ∙ is

  pub ones_written : count ≡ 1 → long ≡ n → length cs ≡ n → pixels ≡ in_pixels count long cs → pixels ≡ by_ones cs
  ones_written e h l is = is ∙ in_all 1 e h ∙ ones_in n cs l
