-- Levels of sixteen channels, lane by lane.
use Rattle.std.proofs.Common.{◌≡◌, ℕ, zero, suc, ◌+◌, ◌*◌, ◌/◌, ◌%◌, ◌^◌, ◌<◌, List, [], ◌∷◌, length, map, get_or, refl, ap, sym, ◌∙◌, arith, replicate, bit_and, Fits}
use Rattle.std.specs.Prelude.{slice_index_or}
use Rattle.std.proofs.lemmas.Nat.{and_mask}
use Rattle.std.proofs.lemmas.List.{map-id}
use Rattle.std.proofs.lemmas.Simd.{zip2_of_maps, splat_is_map}
use mir.Syntax.{w16}
use lib.Lanes.{zip2, Each1, number_l, digits_l}
use Rattle.pix_chan.specs.Srgb16.{srgb_encoded8}
use Rattle.pix_chan.specs.declared.chan.srgb16.TheConstants.{LEVELS}
use Rattle.pix_chan.proofs.Lanes.{add, shr}
use Rattle.pix_chan.proofs.Planes.{cons, four_times}
use Rattle.pix_chan.proofs.Sixteen.{is_four}
use Rattle.pix_chan.proofs.Srgb16.{entry_fits}

-- the entry of a channel's sixteen
abbrev pub entry_at : ℕ → ℕ
entry_at x = slice_index_or LEVELS (x / 16) 0

-- the entries whose numbers stand in words, four in each
abbrev pub entries_of : List ℕ → List ℕ
entries_of [] = []
entries_of (w ∷ ws) =
    slice_index_or LEVELS (w / 2 ^ 4 % 4096) 0 ∷ slice_index_or LEVELS (w / 2 ^ 20 % 4096) 0
    ∷ slice_index_or LEVELS (w / 2 ^ 36 % 4096) 0 ∷ slice_index_or LEVELS (w / 2 ^ 52 % 4096) 0 ∷ entries_of ws

-- a word of four channels, and those behind it
abbrev word : ℕ → ℕ → ℕ → ℕ → ℕ → ℕ
word w x y z r = w + 65536 * (x + 65536 * (y + 65536 * (z + 65536 * r)))

word_first : (w x y z r : ℕ) → w < 65536 → word w x y z r % 2 ^ 64 / 2 ^ 4 % 4096 ≡ w / 16
word_first w x y z r a = omega (arith, a)

word_second : (w x y z r : ℕ) → w < 65536 → x < 65536 → word w x y z r % 2 ^ 64 / 2 ^ 20 % 4096 ≡ x / 16
word_second w x y z r a b = omega (arith, a, b)

word_third : (w x y z r : ℕ) → w < 65536 → x < 65536 → y < 65536 → word w x y z r % 2 ^ 64 / 2 ^ 36 % 4096 ≡ y / 16
word_third w x y z r a b c = omega (arith, a, b, c)

word_last : (w x y z r : ℕ) → w < 65536 → x < 65536 → y < 65536 → z < 65536 → word w x y z r % 2 ^ 64 / 2 ^ 52 % 4096 ≡ z / 16
word_last w x y z r a b c d = omega (arith, a, b, c, d)

word_rest : (w x y z r : ℕ) → w < 65536 → x < 65536 → y < 65536 → z < 65536 → word w x y z r / 2 ^ 64 ≡ r
word_rest w x y z r a b c d = omega (arith, a, b, c, d)

entry_by : {m n : ℕ} → m ≡ n → slice_index_or LEVELS m 0 ≡ slice_index_or LEVELS n 0
entry_by e = ap (λ (k : ℕ). slice_index_or LEVELS k 0) e

words_entries : (n : ℕ) (xs : List ℕ) → length xs ≡ four_times n → Each1 (Fits w16) xs
    → entries_of (digits_l (2 ^ 64) n (number_l (2 ^ 16) xs)) ≡ map entry_at xs
words_entries zero [] h f = refl
words_entries zero (w ∷ u) h f = absurd (omega arith)
words_entries (suc n) [] h f = absurd (omega arith)
words_entries (suc n) (w ∷ []) h f = absurd (omega arith)
words_entries (suc n) (w ∷ x ∷ []) h f = absurd (omega arith)
words_entries (suc n) (w ∷ x ∷ y ∷ []) h f = absurd (omega arith)
words_entries (suc n) (w ∷ x ∷ y ∷ z ∷ u) h f =
    let a : w < 65536 = f.0.fits in
    let b : x < 65536 = f.1.0.fits in
    let c : y < 65536 = f.1.1.0.fits in
    let d : z < 65536 = f.1.1.1.0.fits in
    let r = number_l (2 ^ 16) u in
    cons (entry_by (word_first w x y z r a)) (cons (entry_by (word_second w x y z r a b)) (cons (entry_by (word_third w x y z r a b c))
    (cons (entry_by (word_last w x y z r a b c d))
    (ap (λ r. entries_of (digits_l (2 ^ 64) n r)) (word_rest w x y z r a b c d) ∙ words_entries n u (omega arith) f.1.1.1.1))))

-- four words as they are read
four_words : (ws : List ℕ) → length ws ≡ 4
    → entries_of (get_or ws 0 0 ∷ get_or ws 1 0 ∷ get_or ws 2 0 ∷ get_or ws 3 0 ∷ []) ≡ entries_of ws
four_words ws h = rw (← (is_four ws h).1) refl

pub entries_are : (xs ws : List ℕ) → length xs ≡ 16 → Each1 (Fits w16) xs → ws ≡ digits_l (2 ^ 64) 4 (number_l (2 ^ 16) xs)
    → entries_of (get_or ws 0 0 ∷ get_or ws 1 0 ∷ get_or ws 2 0 ∷ get_or ws 3 0 ∷ []) ≡ map entry_at xs
entries_are xs ws l f e = four_words ws (ap length e) ∙ ap entries_of e ∙ words_entries 4 xs l f

level_lane : (x : ℕ) → x < 65536 → add (2 ^ 16) (entry_at x) (bit_and x 15) / 2 ^ 4 ≡ srgb_encoded8 x
unfolding srgb_encoded8
level_lane x h =
    let fits = entry_fits (x / 16) (x / 16) refl (omega arith) in
    let low : bit_and x 15 ≡ x % 16 = and_mask x 4 in
    omega (arith, fits, low)

each_level : (xs : List ℕ) → Each1 (Fits w16) xs → map (λ x. add (2 ^ 16) (entry_at x) (bit_and x 15) / 2 ^ 4) xs ≡ map srgb_encoded8 xs
each_level [] f = refl
each_level (x ∷ xs) f = cons (level_lane x f.0.fits) (each_level xs f.1)

pub levels_are : (xs entries : List ℕ) → length xs ≡ 16 → Each1 (Fits w16) xs → entries ≡ map entry_at xs
    → zip2 shr (zip2 (add (2 ^ 16)) entries (zip2 bit_and xs (replicate 16 15))) (replicate 16 4) ≡ map srgb_encoded8 xs
levels_are xs entries l f e =
    let low = zip2_of_maps bit_and (λ x. x) (λ _. 15) xs (sym (map-id xs)) (splat_is_map xs 16 15 l) in
    let sum = zip2_of_maps (add (2 ^ 16)) entry_at _ xs e low in
    zip2_of_maps shr _ _ xs sum (splat_is_map xs 16 4 l) ∙ each_level xs f
