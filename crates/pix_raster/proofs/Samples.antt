-- channels and their numbers, and pixels and the numbers of their channels, one pixel after the
-- other
use Rattle.std.proofs.Common.{◌≡◌, ℕ, ◌<◌, ◌≤◌, ◌+◌, ◌-◌, ◌*◌, List, [], ◌++◌, length, get_or, set, take, drop, map, sym, ap, ◌∙◌, arith}
use Rattle.std.specs.List.{flat_map}
use Rattle.std.proofs.lemmas.List.{length-map, map-set, get_or-map, take-map, drop-map, map-append, take_more, take_more_set, take_all, flat_map_more}
use Rattle.std.proofs.lemmas.List.Edits.{fill_by_more}
use Rattle.std.proofs.lemmas.Grind.{same_number_lists, flat_map-append}
use Rattle.std.proofs.lemmas.Slice.{take-put_mid}
use Rattle.std.proofs.Math.Seq.{take-add, take-length}
use Rattle.std.proofs.Math.Nat.{mul-le-mul_right}
use borrow.Rule.Slice.PartMut.{put_mid}

-- the elements below i have the numbers of those of the other list
abbrev pub SameBelow : {X Y : Type 0} → (X → ℕ) → (Y → ℕ) → List X → List Y → ℕ → Type 0
SameBelow n m xs ys i = (k : ℕ) → k < i → get_or (map n xs) k 0 ≡ get_or (map m ys) k 0

-- one more element was set to one of the same number
pub same_more : {X Y : Type 0} (n : X → ℕ) (m : Y → ℕ) (xs : List X) (ys : List Y) (i : ℕ) (x : X) (y : Y) → i < length xs → i < length ys
    → y ≡ get_or ys i y → n x ≡ m y → SameBelow n m xs ys i → SameBelow n m (set xs i x) ys (i + 1)
same_more n m xs ys i x y here there is same so_far =
    let new : n x ≡ get_or (map m ys) i 0 = same ∙ ap m is ∙ sym (get_or-map m ys i y 0 there) in
    rw (map-set, new) (fill_by_more (λ k. get_or (map m ys) k 0) (map n xs) i 0 (omega (arith, length-map xs n)) so_far)

-- all elements were
pub same_all : {X Y : Type 0} (n : X → ℕ) (m : Y → ℕ) (xs : List X) (ys : List Y) (i : ℕ) → length xs ≡ length ys → length xs ≤ i
    → SameBelow n m xs ys i → map n xs ≡ map m ys
same_all n m xs ys i long all so_far =
    same_number_lists (map n xs) (map m ys) (omega (arith, length-map xs n, length-map ys m)) (λ k h. so_far k (omega (arith, length-map xs n)))

-- one more pixel was set to the next numbers
pub unpacked_more : {P S : Type 0} (n : P → List ℕ) (m : S → ℕ) (pixels : List P) (samples : List S) (i count start wide : ℕ) (p : P) → i < length pixels
    → start ≡ i * count → wide ≡ count → flat_map n (take i pixels) ≡ take (i * count) (map m samples) → n p ≡ map m (take wide (drop start samples))
    → flat_map n (take (i + 1) (set pixels i p)) ≡ take ((i + 1) * count) (map m samples)
unpacked_more n m pixels samples i count start wide p lt at span so_far new =
    let next : map m (take wide (drop start samples)) ≡ take count (drop (i * count) (map m samples)) =
    rw (at, span) (sym (take-map m count (drop (i * count) samples)) ∙ ap (take count) (sym (drop-map m (i * count) samples))) in
    let end : i * count + count ≡ (i + 1) * count = omega arith in
    ap (flat_map n) (take_more_set pixels i p lt)
    ∙ sym (flat_map_more n [] (take i pixels) p)
    ∙ ap (λ l. l ++ n p) so_far
    ∙ ap (λ l. take (i * count) (map m samples) ++ l) (new ∙ next)
    ∙ sym (take-add (i * count) count (map m samples))
    ∙ ap (λ k. take k (map m samples)) end

-- the next numbers were set to those of one more pixel
pub packed_more : {P S : Type 0} (n : P → List ℕ) (m : S → ℕ) (pixels : List P) (samples part : List S) (i count start wide : ℕ) (d : P) → i < length pixels
    → start ≡ i * count → start ≤ length samples → length part ≡ count
    → take (i * count) (map m samples) ≡ flat_map n (take i pixels) → map m part ≡ n (get_or pixels i d)
    → take ((i + 1) * count) (map m (put_mid start wide samples part)) ≡ flat_map n (take (i + 1) pixels)
packed_more n m pixels samples part i count start wide d lt at fits long so_far new =
    let end : (i + 1) * count ≡ start + length part = omega arith in
    take-map m ((i + 1) * count) (put_mid start wide samples part)
    ∙ ap (map m) (take-put_mid start wide samples part ((i + 1) * count) end fits)
    ∙ map-append m (take start samples) part
    ∙ ap (λ l. l ++ map m part) (sym (take-map m start samples) ∙ ap (λ k. take k (map m samples)) at ∙ so_far)
    ∙ ap (λ l. flat_map n (take i pixels) ++ l) new
    ∙ flat_map_more n [] (take i pixels) (get_or pixels i d)
    ∙ ap (flat_map n) (sym (take_more pixels i d lt))

-- the numbers of j pixels from i on are among all
pub numbers_reach : (i j count n pixels samples : ℕ) → n ≡ count → samples ≡ pixels * count → i + j ≤ pixels → i * n + j * n ≤ samples
numbers_reach i j count n pixels samples same long fits =
    let up : (i + j) * count ≤ pixels * count = mul-le-mul_right count fits in
    rw (same, long) (omega (arith, up))

-- the numbers that are left are those of the last j pixels
pub numbers_left : (i j count n pixels samples : ℕ) → n ≡ count → samples ≡ pixels * count → i + j ≡ pixels → samples - i * n ≡ j * count
numbers_left i j count n pixels samples same long whole = rw (same, long, sym whole) (omega arith)

-- the next numbers were set to those of the next j pixels
pub packed_part : {P S : Type 0} (n : P → List ℕ) (m : S → ℕ) (pixels : List P) (samples part : List S) (i j end count start wide span : ℕ)
    → end ≡ i + j → span ≡ j → start ≡ i * count → start ≤ length samples → length part ≡ j * count
    → take (i * count) (map m samples) ≡ flat_map n (take i pixels) → map m part ≡ flat_map n (take span (drop i pixels))
    → take (end * count) (map m (put_mid start wide samples part)) ≡ flat_map n (take end pixels)
packed_part n m pixels samples part i j end count start wide span whole next at fits long so_far new =
    let stop : (i + j) * count ≡ start + length part = omega arith in
    rw whole (take-map m ((i + j) * count) (put_mid start wide samples part)
    ∙ ap (map m) (take-put_mid start wide samples part ((i + j) * count) stop fits)
    ∙ map-append m (take start samples) part
    ∙ ap (λ l. l ++ map m part) (sym (take-map m start samples) ∙ ap (λ k. take k (map m samples)) at ∙ so_far)
    ∙ ap (λ l. flat_map n (take i pixels) ++ l) (new ∙ ap (λ k. flat_map n (take k (drop i pixels))) next)
    ∙ sym (flat_map-append n (take i pixels) (take j (drop i pixels)))
    ∙ ap (flat_map n) (sym (take-add i j pixels)))

-- all numbers were set to those of the pixels
pub packed_whole : {P S : Type 0} (n : P → List ℕ) (m : S → ℕ) (pixels : List P) (samples : List S) (count : ℕ)
    → length samples ≡ length pixels * count → take (length pixels * count) (map m samples) ≡ flat_map n (take (length pixels) pixels)
    → map m samples ≡ flat_map n pixels
packed_whole n m pixels samples count long so_far =
    sym (take_all (length pixels * count) (map m samples) (omega (arith, length-map samples m)))
    ∙ so_far ∙ ap (flat_map n) (take-length pixels)

-- the next j pixels were set to the next numbers
pub unpacked_part : {P S : Type 0} (n : P → List ℕ) (m : S → ℕ) (pixels block : List P) (samples : List S) (i j end count start wide span : ℕ)
    → end ≡ i + j → i ≤ length pixels → length block ≡ j → start ≡ i * count → wide ≡ j * count
    → flat_map n (take i pixels) ≡ take (i * count) (map m samples) → flat_map n block ≡ map m (take wide (drop start samples))
    → flat_map n (take end (put_mid i span pixels block)) ≡ take (end * count) (map m samples)
unpacked_part n m pixels block samples i j end count start wide span whole fits long at has so_far new =
    let next : map m (take wide (drop start samples)) ≡ take (j * count) (drop (i * count) (map m samples)) =
    rw (at, has) (sym (take-map m (j * count) (drop (i * count) samples)) ∙ ap (take (j * count)) (sym (drop-map m (i * count) samples))) in
    let stop : i * count + j * count ≡ (i + j) * count = omega arith in
    rw whole (ap (flat_map n) (take-put_mid i span pixels block (i + j) (omega arith) fits)
    ∙ flat_map-append n (take i pixels) block
    ∙ ap (λ l. l ++ flat_map n block) so_far
    ∙ ap (λ l. take (i * count) (map m samples) ++ l) (new ∙ next)
    ∙ sym (take-add (i * count) (j * count) (map m samples))
    ∙ ap (λ k. take k (map m samples)) stop)

-- all pixels were set to the numbers
pub unpacked_whole : {P S : Type 0} (n : P → List ℕ) (m : S → ℕ) (pixels : List P) (samples : List S) (len count : ℕ)
    → length pixels ≡ len → length samples ≡ len * count → flat_map n (take len pixels) ≡ take (len * count) (map m samples)
    → flat_map n pixels ≡ map m samples
unpacked_whole n m pixels samples len count many long so_far =
    ap (flat_map n) (sym (take_all len pixels (omega arith)))
    ∙ so_far ∙ take_all (len * count) (map m samples) (omega (arith, length-map samples m))
