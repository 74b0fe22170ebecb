-- Planes cut out of pixels and put together again.
use Rattle.std.proofs.Common.{◌≡◌, ℕ, zero, suc, ◌+◌, ◌*◌, ◌/◌, ◌%◌, ◌^◌, ◌<◌, List, [], ◌∷◌, ◌++◌, length, take, refl, ap, sym, ◌∙◌, arith, replicate, w8, Fits, get_or, bit_and, bit_or}
use lib.Lanes.{zip2, Each1, pick_l, number_l, digits_l}
use Rattle.std.specs.List.{range_with_len}
use Rattle.std.proofs.lemmas.Simd.{pick_l-range_with_len}
use Rattle.std.proofs.lemmas.List.{take_all, take_at, drop_at, length-append}
use Rattle.std.proofs.lemmas.Nat.{and_mask}
use Rattle.std.specs.Int.Bits.{or_shifted_r}
use Rattle.pix_chan.proofs.Lanes.{shr}
use Rattle.pix_chan.specs.Planes.{in_turn, both_in_turn}

-- two lists joined, as the parts of both
pub front : (n : ℕ) (u v : List ℕ) → length u ≡ n → u ≡ pick_l 0 (u ++ v) (range_with_len 0 n)
front n u v h = sym (pick_l-range_with_len 0 (u ++ v) 0 n (omega (arith, length-append u v)) ∙ take_at u v n h)

pub back : (n : ℕ) (u v : List ℕ) → length u ≡ n → length v ≡ n → v ≡ pick_l 0 (u ++ v) (range_with_len n n)
back n u v h k =
    sym (pick_l-range_with_len 0 (u ++ v) n n (omega (arith, length-append u v)) ∙ ap (take n) (drop_at u v n h) ∙ take_all n v (omega arith))

-- a function of two halves, each of two lists of sixteen, as one of the parts of all
pub through : (f : List ℕ → List ℕ → List ℕ) (a b c d : List ℕ) → length a ≡ 16 → length b ≡ 16 → length c ≡ 16 → length d ≡ 16
    → let all = (a ++ b) ++ (c ++ d) in f (a ++ b) (c ++ d) ≡ f (pick_l 0 all (range_with_len 0 32)) (pick_l 0 all (range_with_len 32 32))
through f a b c d i j k l =
    let m : length (a ++ b) ≡ 32 = omega (arith, length-append a b) in
    let n : length (c ++ d) ≡ 32 = omega (arith, length-append c d) in
    ap (λ u. f u (c ++ d)) (front 32 (a ++ b) (c ++ d) m) ∙ ap (f _) (back 32 (a ++ b) (c ++ d) m n)

-- one lane of each pair: the lanes at even places by `low`, and those at odd ones by `high`
abbrev pub of_pairs : (ℕ → ℕ → ℕ) → List ℕ → List ℕ
of_pairs g [] = []
of_pairs g (x ∷ []) = []
of_pairs g (x ∷ y ∷ r) = g x y ∷ of_pairs g r

abbrev pub low : ℕ → ℕ → ℕ
low x y = x

abbrev pub high : ℕ → ℕ → ℕ
high x y = y

abbrev pair : ℕ → ℕ → ℕ → ℕ
pair x y z = x + 256 * (y + 256 * z)

pair_mod : (x y z : ℕ) → x < 256 → y < 256 → pair x y z % 65536 ≡ x + 256 * y
pair_mod x y z a b = omega arith

pair_rest : (x y z : ℕ) → x < 256 → y < 256 → pair x y z / 65536 ≡ z
pair_rest x y z a b = omega arith

low_of_pair : (x y z : ℕ) → x < 256 → y < 256 → bit_and (pair x y z % 65536) 255 ≡ x
low_of_pair x y z a b = and_mask (pair x y z % 65536) 8 ∙ (let e = pair_mod x y z a b in omega arith)

high_of_pair : (x y z : ℕ) → x < 256 → y < 256 → shr (pair x y z % 65536) 8 ≡ y
high_of_pair x y z a b = let e = pair_mod x y z a b in omega arith

pub cons : {A : Type 0} {x y : A} {xs ys : List A} → x ≡ y → xs ≡ ys → x ∷ xs ≡ y ∷ ys
cons e f = cc

-- pairs of bytes as words, and what is made of each
module _ (g f : ℕ → ℕ → ℕ) (k : ℕ) (is : (x y z : ℕ) → x < 256 → y < 256 → f (pair x y z % 65536) k ≡ g x y) where
  of_words : (n : ℕ) (xs : List ℕ) → length xs ≡ n + n → Each1 (Fits w8) xs
      → zip2 f (digits_l 65536 n (number_l 256 xs)) (replicate n k) ≡ of_pairs g xs
  of_words zero [] h p = refl
  of_words zero (x ∷ xs) h p = absurd (omega arith)
  of_words (suc n) [] h p = absurd (omega arith)
  of_words (suc n) (x ∷ []) h p = absurd (omega arith)
  of_words (suc n) (x ∷ y ∷ r) h p =
      let a : x < 256 = p.0.fits in
      let b : y < 256 = p.1.0.fits in
      cons (is x y (number_l 256 r) a b)
      (ap (λ z. zip2 f (digits_l 65536 n z) (replicate n k)) (pair_rest x y (number_l 256 r) a b) ∙ of_words n r (omega arith) p.1.1)

-- .. by the low byte, and by the high one
pub lows : (n : ℕ) (xs : List ℕ) → length xs ≡ n + n → Each1 (Fits w8) xs
    → zip2 bit_and (digits_l 65536 n (number_l 256 xs)) (replicate n 255) ≡ of_pairs low xs
lows = of_words low bit_and 255 low_of_pair

pub highs : (n : ℕ) (xs : List ℕ) → length xs ≡ n + n → Each1 (Fits w8) xs
    → zip2 shr (digits_l 65536 n (number_l 256 xs)) (replicate n 8) ≡ of_pairs high xs
highs = of_words high shr 8 high_of_pair

pub Each1-joined : (u v : List ℕ) → Each1 (Fits w8) u → Each1 (Fits w8) v → Each1 (Fits w8) (u ++ v)
Each1-joined [] v f g = g
Each1-joined (x ∷ u) v f g = (f.0, Each1-joined u v f.1 g)

at_fits : (u : List ℕ) (i : ℕ) → Each1 (Fits w8) u → Fits w8 (get_or u i 0)
at_fits [] i f = record { fits = omega arith }
at_fits (x ∷ u) zero f = f.0
at_fits (x ∷ u) (suc i) f = at_fits u i f.1

pub Each1-picked : (u ks : List ℕ) → Each1 (Fits w8) u → Each1 (Fits w8) (pick_l 0 u ks)
Each1-picked u [] f = tt
Each1-picked u (k ∷ ks) f = (at_fits u k f, Each1-picked u ks f)

pub Each1-of_pairs : (g : ℕ → ℕ → ℕ) → ((x y : ℕ) → Fits w8 x → Fits w8 y → Fits w8 (g x y)) → (u : List ℕ) → Each1 (Fits w8) u → Each1 (Fits w8) (of_pairs g u)
Each1-of_pairs g is [] f = tt
Each1-of_pairs g is (x ∷ []) f = tt
Each1-of_pairs g is (x ∷ y ∷ r) f = (is x y f.0 f.1.0, Each1-of_pairs g is r f.1.1)

-- pairs of bytes of two lists in turn

abbrev pub quad : ℕ → ℕ → ℕ → ℕ → ℕ
quad x y u v = x + 256 * y + 65536 * (u + 256 * v)

abbrev pub quads : List ℕ → List ℕ → List ℕ
quads [] b = []
quads (x ∷ []) b = []
quads (x ∷ y ∷ a) [] = []
quads (x ∷ y ∷ a) (u ∷ []) = []
quads (x ∷ y ∷ a) (u ∷ v ∷ b) = quad x y u v ∷ quads a b

abbrev pub meshed : List ℕ → List ℕ → List ℕ
meshed [] b = []
meshed (x ∷ []) b = []
meshed (x ∷ y ∷ a) [] = []
meshed (x ∷ y ∷ a) (u ∷ []) = []
meshed (x ∷ y ∷ a) (u ∷ v ∷ b) = x ∷ y ∷ u ∷ v ∷ meshed a b

abbrev pub four_times : ℕ → ℕ
four_times zero = zero
four_times (suc n) = suc (suc (suc (suc (four_times n))))

shifted : (m n : ℕ) → m < 65536 → n < 65536 → bit_or m (n * 2 ^ 16 % 2 ^ 32) ≡ m + 65536 * n
shifted m n h k =
    let e : n * 2 ^ 16 % 2 ^ 32 ≡ n * 2 ^ 16 = omega arith in
    rw e (or_shifted_r n 16 m h ∙ omega arith)

quad_is : (x y z u v t : ℕ) → x < 256 → y < 256 → u < 256 → v < 256
    → bit_or (pair x y z % 65536) (pair u v t % 65536 * 2 ^ 16 % 2 ^ 32) ≡ quad x y u v
quad_is x y z u v t a b c d =
    let e = pair_mod x y z a b in
    let f = pair_mod u v t c d in
    rw e (rw f (shifted (x + 256 * y) (u + 256 * v) (omega arith) (omega arith)))

pub mesh_words : (n : ℕ) (a b : List ℕ) → length a ≡ n + n → length b ≡ n + n → Each1 (Fits w8) a → Each1 (Fits w8) b
    → zip2 bit_or (digits_l 65536 n (number_l 256 a)) (zip2 (λ (x y : ℕ). x * 2 ^ y % 2 ^ 32) (digits_l 65536 n (number_l 256 b)) (replicate n 16)) ≡ quads a b
mesh_words zero [] b h k f g = refl
mesh_words zero (x ∷ a) b h k f g = absurd (omega arith)
mesh_words (suc n) [] b h k f g = absurd (omega arith)
mesh_words (suc n) (x ∷ []) b h k f g = absurd (omega arith)
mesh_words (suc n) (x ∷ y ∷ a) [] h k f g = absurd (omega arith)
mesh_words (suc n) (x ∷ y ∷ a) (u ∷ []) h k f g = absurd (omega arith)
mesh_words (suc n) (x ∷ y ∷ a) (u ∷ v ∷ b) h k f g =
    let p : x < 256 = f.0.fits in
    let q : y < 256 = f.1.0.fits in
    let r : u < 256 = g.0.fits in
    let s : v < 256 = g.1.0.fits in
    cons (quad_is x y (number_l 256 a) u v (number_l 256 b) p q r s)
    (ap (λ z. zip2 bit_or (digits_l 65536 n z) (zip2 (λ (x y : ℕ). x * 2 ^ y % 2 ^ 32) (digits_l 65536 n (pair u v (number_l 256 b) / 65536)) (replicate n 16))) (pair_rest x y (number_l 256 a) p q)
    ∙ ap (λ z. zip2 bit_or (digits_l 65536 n (number_l 256 a)) (zip2 (λ (x y : ℕ). x * 2 ^ y % 2 ^ 32) (digits_l 65536 n z) (replicate n 16))) (pair_rest u v (number_l 256 b) r s)
    ∙ mesh_words n a b (omega arith) (omega arith) f.1.1 g.1.1)

module _ (x y u v z : ℕ) (a : x < 256) (b : y < 256) (c : u < 256) (d : v < 256) where
  abbrev whole : ℕ
  whole = quad x y u v + 4294967296 * z

  first_byte : whole % 256 ≡ x
  first_byte = omega arith

  second_byte : whole / 256 % 256 ≡ y
  second_byte = omega arith

  third_byte : whole / 256 / 256 % 256 ≡ u
  third_byte = omega arith

  fourth_byte : whole / 256 / 256 / 256 % 256 ≡ v
  fourth_byte = omega arith

  other_bytes : whole / 256 / 256 / 256 / 256 ≡ z
  other_bytes = omega arith

pub mesh_bytes : (n : ℕ) (a b : List ℕ) → length a ≡ n + n → length b ≡ n + n → Each1 (Fits w8) a → Each1 (Fits w8) b
    → digits_l 256 (four_times n) (number_l 4294967296 (quads a b)) ≡ meshed a b
mesh_bytes zero [] b h k f g = refl
mesh_bytes zero (x ∷ a) b h k f g = absurd (omega arith)
mesh_bytes (suc n) [] b h k f g = absurd (omega arith)
mesh_bytes (suc n) (x ∷ []) b h k f g = absurd (omega arith)
mesh_bytes (suc n) (x ∷ y ∷ a) [] h k f g = absurd (omega arith)
mesh_bytes (suc n) (x ∷ y ∷ a) (u ∷ []) h k f g = absurd (omega arith)
mesh_bytes (suc n) (x ∷ y ∷ a) (u ∷ v ∷ b) h k f g =
    let p : x < 256 = f.0.fits in
    let q : y < 256 = f.1.0.fits in
    let r : u < 256 = g.0.fits in
    let s : v < 256 = g.1.0.fits in
    let z = number_l 4294967296 (quads a b) in
    cons (first_byte x y u v z p q r s) (cons (second_byte x y u v z p q r s) (cons (third_byte x y u v z p q r s) (cons (fourth_byte x y u v z p q r s)
    (ap (digits_l 256 (four_times n)) (other_bytes x y u v z p q r s) ∙ mesh_bytes n a b (omega arith) (omega arith) f.1.1 g.1.1))))

-- equal lists make equal ones
pub same_turn : {A : Type 0} {a b c d e f g h : List A} → a ≡ e → b ≡ f → c ≡ g → d ≡ h → in_turn a b c d ≡ in_turn e f g h
same_turn p q r s = cc

pub same_both : {A : Type 0} {a b e f : List A} → a ≡ e → b ≡ f → both_in_turn a b ≡ both_in_turn e f
same_both p q = cc

pub same_joined : {A : Type 0} {a b c d e f g h : List A} → a ≡ e → b ≡ f → c ≡ g → d ≡ h → (a ++ b) ++ (c ++ d) ≡ (e ++ f) ++ (g ++ h)
same_joined p q r s = cc

pub same_pair : {A : Type 0} {a b e f : List A} → a ≡ e → b ≡ f → a ++ b ≡ e ++ f
same_pair p q = cc

-- two lists of sixteen in turn
pub both_picked : (a b : List ℕ) → length a ≡ 16 → length b ≡ 16
    → both_in_turn a b ≡ both_in_turn (pick_l 0 (a ++ b) (range_with_len 0 16)) (pick_l 0 (a ++ b) (range_with_len 16 16))
both_picked a b h k = same_both (front 16 a b h) (back 16 a b h k)

-- both of each half are both of all
pub both-joined : {A : Type 0} (a b c d : List A) → length a ≡ length c → both_in_turn a c ++ both_in_turn b d ≡ both_in_turn (a ++ b) (c ++ d)
both-joined [] b [] d h = refl
both-joined [] b (z ∷ c) d h = absurd (omega arith)
both-joined (x ∷ a) b [] d h = absurd (omega arith)
both-joined {A} (x ∷ a) b (z ∷ c) d h = ap (λ (l : List A). x ∷ z ∷ l) (both-joined a b c d (omega arith))

-- the first and the third, and the second and the fourth
pub both_of_both : {A : Type 0} (a b c d : List A) → length b ≡ length a → length c ≡ length a → length d ≡ length a
    → both_in_turn (both_in_turn a c) (both_in_turn b d) ≡ in_turn a b c d
both_of_both [] [] [] [] h i j = refl
both_of_both [] [] [] (z ∷ d) h i j = absurd (omega arith)
both_of_both [] [] (y ∷ c) d h i j = absurd (omega arith)
both_of_both [] (x ∷ b) c d h i j = absurd (omega arith)
both_of_both (w ∷ a) [] c d h i j = absurd (omega arith)
both_of_both (w ∷ a) (x ∷ b) [] d h i j = absurd (omega arith)
both_of_both (w ∷ a) (x ∷ b) (y ∷ c) [] h i j = absurd (omega arith)
both_of_both {A} (w ∷ a) (x ∷ b) (y ∷ c) (z ∷ d) h i j = ap (λ (l : List A). w ∷ x ∷ y ∷ z ∷ l) (both_of_both a b c d (omega arith) (omega arith) (omega arith))
