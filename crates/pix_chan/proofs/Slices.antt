-- A run that has gone on for some blocks.
use Rattle.std.proofs.Common.{◌≡◌, ℕ, zero, suc, ◌+◌, ◌-◌, ◌*◌, ◌<◌, ◌≤◌, List, [], ◌∷◌, ◌++◌, length, map, take, drop, refl, ap, sym, ◌∙◌, arith, get_or, set, min, replicate}
use lib.Lanes.{zip2}
use borrow.Rule.Slice.PartMut.{put_mid}
use Rattle.std.proofs.lemmas.List.{map-append, length-take, length-drop, length-map, map-set, get_or-map, take-map, drop-map}
use Rattle.pix_chan.specs.Runs.{over, triples}

module _ {A B : Type 0} (f : A → B → A) where
  abbrev pub run : List A → List B → List A
  run xs ys = over (λ y x. f x y) ys xs

  pub over-nil : (xs : List A) → run xs [] ≡ xs
  over-nil [] = refl
  over-nil (x ∷ xs) = refl

  -- a block written at n, where the run has gone on to n
  over_first : (k : ℕ) (xs : List A) (ys : List B) → k ≤ length xs → k ≤ length ys
      → zip2 f (take k xs) (take k ys) ++ drop k xs ≡ run xs (take k ys)
  over_first zero xs ys a b = sym (over-nil xs)
  over_first (suc k) [] ys a b = absurd (omega arith)
  over_first (suc k) (x ∷ xs) [] a b = absurd (omega arith)
  over_first (suc k) (x ∷ xs) (y ∷ ys) a b = ap (λ (l : List A). f x y ∷ l) (over_first k xs ys (omega arith) (omega arith))

  pub over_block : (n k m : ℕ) (xs : List A) (ys : List B) → m ≡ n + k → m ≤ length xs → m ≤ length ys
      → take n (run xs (take n ys)) ++ (zip2 f (take k (drop n (run xs (take n ys)))) (take k (drop n ys)) ++ drop k (drop n (run xs (take n ys))))
      ≡ run xs (take m ys)
  over_block zero k m xs ys e a b =
      let q : m ≡ k = omega arith in
      rw over-nil (rw q (over_first k xs ys (omega arith) (omega arith)))
  over_block (suc n) k zero xs ys e a b = absurd (omega arith)
  over_block (suc n) k (suc m) [] ys e a b = absurd (omega arith)
  over_block (suc n) k (suc m) (x ∷ xs) [] e a b = absurd (omega arith)
  over_block (suc n) k (suc m) (x ∷ xs) (y ∷ ys) e a b = ap (λ (l : List A). f x y ∷ l) (over_block n k m xs ys (omega arith) (omega arith) (omega arith))

  pub over_one : (n m : ℕ) (xs : List A) (ys : List B) (d : A) (c : B) → m ≡ n + 1 → n < length xs → n < length ys
      → set (run xs (take n ys)) n (f (get_or (run xs (take n ys)) n d) (get_or ys n c)) ≡ run xs (take m ys)
  over_one zero zero xs ys d c e a b = absurd (omega arith)
  over_one zero (suc m) [] ys d c e a b = absurd (omega arith)
  over_one zero (suc m) (x ∷ xs) [] d c e a b = absurd (omega arith)
  over_one zero (suc m) (x ∷ xs) (y ∷ ys) d c e a b =
      let q : m ≡ 0 = omega arith in
      rw q (rw (over-nil xs))
  over_one (suc n) zero xs ys d c e a b = absurd (omega arith)
  over_one (suc n) (suc m) [] ys d c e a b = absurd (omega arith)
  over_one (suc n) (suc m) (x ∷ xs) [] d c e a b = absurd (omega arith)
  over_one (suc n) (suc m) (x ∷ xs) (y ∷ ys) d c e a b = ap (λ (l : List A). f x y ∷ l) (over_one n m xs ys d c (omega arith) (omega arith) (omega arith))

  -- only as much of the second list is read as the first is long
  pub over_shorter : (n : ℕ) (xs : List A) (ys : List B) → length xs ≤ n → run xs (take n ys) ≡ run xs ys
  over_shorter n [] ys h = refl
  over_shorter zero (x ∷ xs) ys h = absurd (omega arith)
  over_shorter (suc n) (x ∷ xs) [] h = refl
  over_shorter (suc n) (x ∷ xs) (y ∷ ys) h = ap (λ (l : List A). f x y ∷ l) (over_shorter n xs ys (omega arith))

  pub length-run : (xs : List A) (ys : List B) → length (run xs ys) ≡ length xs
  length-run [] ys = refl
  length-run (x ∷ xs) [] = refl
  length-run (x ∷ xs) (y ∷ ys) = ap suc (length-run xs ys)

  -- the same at a part of the list that was written, by its own words
  pub block_step : (n k k' m : ℕ) (xs ws new : List A) (ys part : List B) → ws ≡ run xs (take n ys) → k' ≡ k → m ≡ n + k → m ≤ length xs → m ≤ length ys
      → part ≡ take k (drop n ys) → new ≡ zip2 f (take k' (drop n ws)) part → put_mid n k' ws new ≡ run xs (take m ys)
  block_step n k k' m xs ws new ys part e q j a b h i = rw i (rw h (rw q (rw e (over_block n k m xs ys j a b))))

  pub one_step : (n m : ℕ) (xs ws : List A) (x d : A) (y c : B) (ys : List B) → ws ≡ run xs (take n ys) → m ≡ n + 1 → n < length xs → n < length ys
      → y ≡ get_or ys n c → x ≡ f (get_or ws n d) y → set ws n x ≡ run xs (take m ys)
  one_step n m xs ws x d y c ys e j a b h i = rw i (rw h (rw e (over_one n m xs ys d c j a b)))

  -- a run over as much of the second list as both have
  pub over_both : (n : ℕ) (xs : List A) (ys : List B) → n ≡ min (length xs) (length ys) → run xs (take n ys) ≡ run xs ys
  over_both n [] ys h = refl
  over_both n (x ∷ xs) [] h = let q : n ≡ 0 = omega arith in rw q refl
  over_both zero (x ∷ xs) (y ∷ ys) h = absurd (omega arith)
  over_both (suc n) (x ∷ xs) (y ∷ ys) h = ap (λ (l : List A). f x y ∷ l) (over_both n xs ys (omega arith))

  pub over_same : (xs : List A) (ys : List B) → length xs ≡ length ys → run xs ys ≡ zip2 f xs ys
  over_same [] ys e = refl
  over_same (x ∷ xs) [] e = absurd (omega arith)
  over_same (x ∷ xs) (y ∷ ys) e = ap (λ (l : List A). f x y ∷ l) (over_same xs ys (omega arith))

  -- a block that a run was made on
  pub run_step : (n k m : ℕ) (xs ws new : List A) (ys : List B) → ws ≡ run xs (take n ys) → m ≡ n + k → m ≤ length xs → m ≤ length ys
      → new ≡ run (take (m - n) (drop n ws)) (take (m - n) (drop n ys)) → put_mid n (m - n) ws new ≡ run xs (take m ys)
  run_step n k m xs ws new ys e j a b i =
      let d : m - n ≡ k = omega arith in
      let l : length ws ≡ length xs = ap length e ∙ length-run xs (take n ys) in
      let p : length (take (m - n) (drop n ws)) ≡ length (take (m - n) (drop n ys))
      = omega (arith, length-take (m - n) (drop n ws), length-take (m - n) (drop n ys), length-drop n ws, length-drop n ys) in
      block_step n k (m - n) m xs ws new ys (take (m - n) (drop n ys)) e d j a b
      (ap (λ t. take t (drop n ys)) d) (i ∙ over_same (take (m - n) (drop n ws)) (take (m - n) (drop n ys)) p)

-- the same by what stands for the elements
module _ {C A B : Type 0} (number : C → A) (f : A → B → A) where
  pub map-put_mid : (n k : ℕ) (ws new : List C) → map number (put_mid n k ws new) ≡ put_mid n k (map number ws) (map number new)
  map-put_mid n k ws new =
      map-append number (take n ws) (new ++ drop k (drop n ws))
      ∙ ap (λ (l : List A). map number (take n ws) ++ l) (map-append number new (drop k (drop n ws)))
      ∙ ap (λ (l : List A). l ++ (map number new ++ map number (drop k (drop n ws)))) (sym (take-map number n ws))
      ∙ ap (λ (l : List A). take n (map number ws) ++ (map number new ++ l)) (sym (drop-map number k (drop n ws)) ∙ ap (drop k) (sym (drop-map number n ws)))

  pub part_of : (n k : ℕ) (ws : List C) → map number (take k (drop n ws)) ≡ take k (drop n (map number ws))
  part_of n k ws = sym (take-map number k (drop n ws)) ∙ ap (take k) (sym (drop-map number n ws))

  pub mapped_block_step : (n k k' m : ℕ) (xs ws new : List C) (ys part : List B) → map number ws ≡ run f (map number xs) (take n ys) → k' ≡ k → m ≡ n + k → m ≤ length xs → m ≤ length ys
      → part ≡ take k (drop n ys) → map number new ≡ zip2 f (map number (take k' (drop n ws))) part → map number (put_mid n k' ws new) ≡ run f (map number xs) (take m ys)
  mapped_block_step n k k' m xs ws new ys part e q j a b h i =
      map-put_mid n k' ws new
      ∙ block_step f n k k' m (map number xs) (map number ws) (map number new) ys part e q j (omega (arith, length-map xs number)) b h (i ∙ ap (λ (l : List A). zip2 f l part) (part_of n k' ws))

  pub mapped_run_step : (n k m : ℕ) (xs ws new : List C) (ys : List B) → map number ws ≡ run f (map number xs) (take n ys) → m ≡ n + k → m ≤ length xs → m ≤ length ys
      → map number new ≡ run f (map number (take (m - n) (drop n ws))) (take (m - n) (drop n ys)) → map number (put_mid n (m - n) ws new) ≡ run f (map number xs) (take m ys)
  mapped_run_step n k m xs ws new ys e j a b i =
      map-put_mid n (m - n) ws new
      ∙ run_step f n k m (map number xs) (map number ws) (map number new) ys e j (omega (arith, length-map xs number)) b (i ∙ ap (λ (l : List A). run f l (take (m - n) (drop n ys))) (part_of n (m - n) ws))

  same_length : (xs ws : List C) (ys : List B) → map number ws ≡ run f (map number xs) ys → length ws ≡ length xs
  same_length xs ws ys e = sym (length-map ws number) ∙ ap length e ∙ length-run f (map number xs) ys ∙ length-map xs number

  -- the block after k blocks of b
  pub next_block : (b k : ℕ) (xs ws new : List C) (ys : List B) → map number ws ≡ run f (map number xs) (take (b * k) ys)
      → b * k + b ≤ length xs → b * k + b ≤ length ys
      → map number new ≡ run f (map number (take (b * k + b - b * k) (drop (b * k) ws))) (take (b * k + b - b * k) (drop (b * k) ys))
      → map number (put_mid (b * k) (b * k + b - b * k) ws new) ≡ run f (map number xs) (take (b * (k + 1)) ys)
  next_block b k xs ws new ys e l h i =
      let m : b * k + b ≡ b * (k + 1) = omega arith in
      mapped_run_step (b * k) b (b * k + b) xs ws new ys e refl l h i ∙ ap (λ n. run f (map number xs) (take n ys)) m

  -- the same, where the second list stands for another one
  pub next_mapped_block : {D : Type 0} (other : D → B) (b k : ℕ) (xs ws new : List C) (ys : List D)
      → map number ws ≡ run f (map number xs) (take (b * k) (map other ys))
      → b * k + b ≤ length xs → b * k + b ≤ length ys
      → map number new ≡ run f (map number (take (b * k + b - b * k) (drop (b * k) ws))) (map other (take (b * k + b - b * k) (drop (b * k) ys)))
      → map number (put_mid (b * k) (b * k + b - b * k) ws new) ≡ run f (map number xs) (take (b * (k + 1)) (map other ys))
  next_mapped_block other b k xs ws new ys e l h i =
      next_block b k xs ws new (map other ys) e l (omega (arith, length-map ys other))
      (i ∙ ap (run f (map number (take (b * k + b - b * k) (drop (b * k) ws))))
      (sym (take-map other (b * k + b - b * k) (drop (b * k) ys)) ∙ ap (take (b * k + b - b * k)) (sym (drop-map other (b * k) ys))))

  pub mapped_one_step : (n m : ℕ) (xs ws : List C) (x w : C) (d : A) (y c : B) (ys : List B) → map number ws ≡ run f (map number xs) (take n ys) → m ≡ n + 1 → n < length xs → n < length ys
      → y ≡ get_or ys n c → w ≡ get_or ws n w → number x ≡ f (number w) y → map number (set ws n x) ≡ run f (map number xs) (take m ys)
  mapped_one_step n m xs ws x w d y c ys e j a b h g i =
      let l = same_length xs ws (take n ys) e in
      let k : number w ≡ get_or (map number ws) n d = ap number g ∙ sym (get_or-map number ws n w d (omega arith)) in
      rw map-set (one_step f n m (map number xs) (map number ws) (number x) d y c ys e j (omega (arith, length-map xs number)) b h (i ∙ ap (λ z. f z y) k))

-- what is read at a place of a list does not depend on what would be read past its end
read_within : {C : Type 0} (xs : List C) (n : ℕ) (d e : C) → n < length xs → get_or xs n d ≡ get_or xs n e
read_within [] n d e h = absurd (omega arith)
read_within (x ∷ xs) zero d e h = refl
read_within (x ∷ xs) (suc n) d e h = read_within xs n d e (omega arith)

-- both lists by what stands for their elements
module _ {C : Type 0} (number : C → ℕ) (f : ℕ → ℕ → ℕ) (xs ws ys : List C) where
  -- the element at n is made of the two that stand there
  pub paired_step : (n : ℕ) (x w y : C) → map number ws ≡ run f (map number xs) (take n (map number ys)) → n < length xs → n < length ys
      → w ≡ get_or ws n w → y ≡ get_or ys n y → number x ≡ f (number w) (number y)
      → map number (set ws n x) ≡ run f (map number xs) (take (n + 1) (map number ys))
  paired_step n x w y e a b g h i =
      mapped_one_step number f n (n + 1) xs ws x w 0 (number y) 0 (map number ys) e refl a (omega (arith, length-map ys number))
      (ap number h ∙ sym (get_or-map number ys n y 0 b)) g i

  pub paired_whole : (n : ℕ) → map number ws ≡ run f (map number xs) (take n (map number ys)) → n ≡ min (length xs) (length ys)
      → map number ws ≡ run f (map number xs) (map number ys)
  paired_whole n e h = e ∙ over_both f n (map number xs) (map number ys) (omega (arith, length-map xs number, length-map ys number))

  -- the block after k blocks of b, made element by element
  pub next_paired_block : (b k : ℕ) (new : List C) → map number ws ≡ run f (map number xs) (take (b * k) (map number ys))
      → b * k + b ≤ length xs → b * k + b ≤ length ys
      → map number new ≡ zip2 f (map number (take (b * k + b - b * k) (drop (b * k) ws))) (map number (take (b * k + b - b * k) (drop (b * k) ys)))
      → map number (put_mid (b * k) (b * k + b - b * k) ws new) ≡ run f (map number xs) (take (b * (k + 1)) (map number ys))
  next_paired_block b k new e h i j =
      let n = b * k + b - b * k in
      let us = take n (drop (b * k) ws) in
      let vs = take n (drop (b * k) ys) in
      let l = same_length number f xs ws (take (b * k) (map number ys)) e in
      next_mapped_block number f number b k xs ws new ys e h i
      (j ∙ sym (over_same f (map number us) (map number vs)
      (omega (arith, length-map us number, length-map vs number, length-take n (drop (b * k) ws), length-take n (drop (b * k) ys), length-drop (b * k) ws, length-drop (b * k) ys))))

-- an element that does not depend on the old one
pub mapped_put_step : {C B : Type 0} (number : C → ℕ) (f : B → ℕ) (n m : ℕ) (xs ws : List C) (x : C) (y c : B) (ys : List B)
    → map number ws ≡ over (λ y x. f y) (take n ys) (map number xs) → m ≡ n + 1 → n < length xs → n < length ys
    → y ≡ get_or ys n c → number x ≡ f y → map number (set ws n x) ≡ over (λ y x. f y) (take m ys) (map number xs)
mapped_put_step number f n m xs ws x y c ys e j a b h i =
    let l = same_length number (λ x y. f y) xs ws (take n ys) e in
    mapped_one_step number (λ x y. f y) n m xs ws x (get_or ws n x) 0 y c ys e j a b h (read_within ws n x (get_or ws n x) (omega arith)) i

module _ {A : Type 0} where
  pub length-triples : (xs ys zs : List A) → length (triples xs ys zs) ≡ min (length xs) (min (length ys) (length zs))
  length-triples [] ys zs = omega arith
  length-triples (x ∷ xs) [] zs = omega arith
  length-triples (x ∷ xs) (y ∷ ys) [] = omega arith
  length-triples (x ∷ xs) (y ∷ ys) (z ∷ zs) = omega (arith, length-triples xs ys zs)

  pub take-triples : (n : ℕ) (xs ys zs : List A) → take n (triples xs ys zs) ≡ triples (take n xs) (take n ys) (take n zs)
  take-triples zero xs ys zs = refl
  take-triples (suc n) [] ys zs = refl
  take-triples (suc n) (x ∷ xs) [] zs = refl
  take-triples (suc n) (x ∷ xs) (y ∷ ys) [] = refl
  take-triples (suc n) (x ∷ xs) (y ∷ ys) (z ∷ zs) = ap (λ (l : List (A × A × A)). (x, y, z) ∷ l) (take-triples n xs ys zs)

  triples-nil : (xs ys : List A) → triples xs ys [] ≡ []
  triples-nil [] ys = refl
  triples-nil (x ∷ xs) [] = refl
  triples-nil (x ∷ xs) (y ∷ ys) = refl

  triples-none : (xs zs : List A) → triples xs [] zs ≡ []
  triples-none [] zs = refl
  triples-none (x ∷ xs) zs = refl

  pub drop-triples : (n : ℕ) (xs ys zs : List A) → drop n (triples xs ys zs) ≡ triples (drop n xs) (drop n ys) (drop n zs)
  drop-triples zero xs ys zs = refl
  drop-triples (suc n) [] ys zs = refl
  drop-triples (suc n) (x ∷ xs) [] zs = sym (triples-none (drop n xs) (drop (suc n) zs))
  drop-triples (suc n) (x ∷ xs) (y ∷ ys) [] = sym (triples-nil (drop n xs) (drop n ys))
  drop-triples (suc n) (x ∷ xs) (y ∷ ys) (z ∷ zs) = drop-triples n xs ys zs

  -- a part of the triples
  pub part-triples : (n k : ℕ) (xs ys zs : List A)
      → take k (drop n (triples xs ys zs)) ≡ triples (take k (drop n xs)) (take k (drop n ys)) (take k (drop n zs))
  part-triples n k xs ys zs = ap (take k) (drop-triples n xs ys zs) ∙ take-triples k (drop n xs) (drop n ys) (drop n zs)

-- one element again and again
pub length-replicate : {A : Type 0} (n : ℕ) (x : A) → length (replicate n x) ≡ n
length-replicate zero x = refl
length-replicate (suc n) x = ap suc (length-replicate n x)

pub get_or-same : {A : Type 0} (n i : ℕ) (x : A) → get_or (replicate n x) i x ≡ x
get_or-same zero i x = refl
get_or-same (suc n) zero x = refl
get_or-same (suc n) (suc i) x = get_or-same n i x

pub part_of_same : {A : Type 0} (at k n : ℕ) (x : A) → at + k ≤ n → replicate k x ≡ take k (drop at (replicate n x))
part_of_same zero zero n x h = refl
part_of_same zero (suc k) zero x h = absurd (omega arith)
part_of_same {A} zero (suc k) (suc n) x h = ap (λ (l : List A). x ∷ l) (part_of_same zero k n x (omega arith))
part_of_same (suc at) k zero x h = absurd (omega arith)
part_of_same (suc at) k (suc n) x h = part_of_same at k n x (omega arith)

-- a run of one element with each, at the block after k blocks of b
pub next_same_block : {C A B : Type 0} (number : C → A) (f : A → B → A) (b k n : ℕ) (xs ws new : List C) (y : B)
    → map number ws ≡ run f (map number xs) (take (b * k) (replicate n y)) → b * k + b ≤ length xs → b * k + b ≤ n
    → map number new ≡ run f (map number (take (b * k + b - b * k) (drop (b * k) ws))) (replicate b y)
    → map number (put_mid (b * k) (b * k + b - b * k) ws new) ≡ run f (map number xs) (take (b * (k + 1)) (replicate n y))
next_same_block number f b k n xs ws new y e h i j =
    let m : b ≡ b * k + b - b * k = omega arith in
    next_block number f b k xs ws new (replicate n y) e h (omega (arith, length-replicate n y))
    (j ∙ ap (run f (map number (take (b * k + b - b * k) (drop (b * k) ws))))
    (ap (λ c. replicate c y) m ∙ part_of_same (b * k) (b * k + b - b * k) n y (omega arith)))

pub over_color : {A B : Type 0} (f : A → B → A) (i n : ℕ) (y : B) (xs : List A) → length xs ≤ i → length xs ≡ n → run f xs (take i (replicate n y)) ≡ map (λ x. f x y) xs
over_color f i n y [] h e = refl
over_color f zero n y (x ∷ xs) h e = absurd (omega arith)
over_color f (suc i) zero y (x ∷ xs) h e = absurd (omega arith)
over_color {A} f (suc i) (suc n) y (x ∷ xs) h e = ap (λ (l : List A). f x y ∷ l) (over_color f i n y xs (omega arith) (omega arith))

pub get_or-triples : {A : Type 0} (i : ℕ) (xs ys zs : List A) (x y z : A) → i < length xs → i < length ys → i < length zs
    → get_or (triples xs ys zs) i (x, y, z) ≡ (get_or xs i x, get_or ys i y, get_or zs i z)
get_or-triples i [] ys zs x y z h j k = absurd (omega arith)
get_or-triples i (a ∷ xs) [] zs x y z h j k = absurd (omega arith)
get_or-triples i (a ∷ xs) (b ∷ ys) [] x y z h j k = absurd (omega arith)
get_or-triples zero (a ∷ xs) (b ∷ ys) (c ∷ zs) x y z h j k = refl
get_or-triples (suc i) (a ∷ xs) (b ∷ ys) (c ∷ zs) x y z h j k = get_or-triples i xs ys zs x y z (omega arith) (omega arith) (omega arith)
