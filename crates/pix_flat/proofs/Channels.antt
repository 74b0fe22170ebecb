-- Channels of pixels in a slice, one pixel more.
use Rattle.std.proofs.Common.{◌≡◌, ℕ, zero, suc, ◌+◌, ◌*◌, ◌<◌, ◌≤◌, List, [], ◌∷◌, ◌++◌, length, map, take, get_or, set, min, refl, arith, ap, sym, ◌∙◌}
use Rattle.std.proofs.lemmas.List.{take_more, take_more_set, map-append, get_or_read}
use Rattle.pix_chan.proofs.Planes.{same_pair, four_times}
use Rattle.pix_el.specs.Stored.{in_pixels}

four_times_is : (i : ℕ) → four_times i ≡ 4 * i
four_times_is zero = omega arith
four_times_is (suc i) = omega (arith, four_times_is i)

abbrev twice : ℕ → ℕ
twice zero = zero
twice (suc n) = suc (suc (twice n))

twice_is : (i : ℕ) → twice i ≡ 2 * i
twice_is zero = omega arith
twice_is (suc i) = omega (arith, twice_is i)

module _ {C : Type 0} (v : C → ℕ) where
  -- the four channels of a pixel are set
  abbrev set_four : ℕ → ℕ → ℕ → ℕ → List C → C → C → C → C → List C
  set_four i j k l ws a b c d = set (set (set (set ws i a) j b) k c) l d

  four_more : (i : ℕ) (ws : List C) (a b c d : C) → four_times i + 4 ≤ length ws
      → in_pixels 4 (suc i) (map v (set_four (four_times i) (suc (four_times i)) (suc (suc (four_times i))) (suc (suc (suc (four_times i)))) ws a b c d))
      ≡ in_pixels 4 i (map v ws) ++ ((v a ∷ v b ∷ v c ∷ v d ∷ []) ∷ [])
  four_more i [] a b c d h = absurd (omega arith)
  four_more i (w ∷ []) a b c d h = absurd (omega arith)
  four_more i (w ∷ x ∷ []) a b c d h = absurd (omega arith)
  four_more i (w ∷ x ∷ y ∷ []) a b c d h = absurd (omega arith)
  four_more zero (w ∷ x ∷ y ∷ z ∷ ws) a b c d h = refl
  four_more (suc i) (w ∷ x ∷ y ∷ z ∷ ws) a b c d h = ap (λ (l : List (List ℕ)). (v w ∷ v x ∷ v y ∷ v z ∷ []) ∷ l) (four_more i ws a b c d (omega arith))

  -- they are read
  four_of : (i : ℕ) (ws : List C) (e : C) → four_times i + 4 ≤ length ws
      → in_pixels 4 (suc i) (map v ws)
      ≡ in_pixels 4 i (map v ws)
      ++ ((v (get_or ws (four_times i) e) ∷ v (get_or ws (suc (four_times i)) e) ∷ v (get_or ws (suc (suc (four_times i))) e) ∷ v (get_or ws (suc (suc (suc (four_times i)))) e) ∷ []) ∷ [])
  four_of i [] e h = absurd (omega arith)
  four_of i (w ∷ []) e h = absurd (omega arith)
  four_of i (w ∷ x ∷ []) e h = absurd (omega arith)
  four_of i (w ∷ x ∷ y ∷ []) e h = absurd (omega arith)
  four_of zero (w ∷ x ∷ y ∷ z ∷ ws) e h = refl
  four_of (suc i) (w ∷ x ∷ y ∷ z ∷ ws) e h = ap (λ (l : List (List ℕ)). (v w ∷ v x ∷ v y ∷ v z ∷ []) ∷ l) (four_of i ws e (omega arith))

  -- the two of a pixel are set
  two_more : (i : ℕ) (ws : List C) (a b : C) → twice i + 2 ≤ length ws
      → in_pixels 2 (suc i) (map v (set (set ws (twice i) a) (suc (twice i)) b)) ≡ in_pixels 2 i (map v ws) ++ ((v a ∷ v b ∷ []) ∷ [])
  two_more i [] a b h = absurd (omega arith)
  two_more i (w ∷ []) a b h = absurd (omega arith)
  two_more zero (w ∷ x ∷ ws) a b h = refl
  two_more (suc i) (w ∷ x ∷ ws) a b h = ap (λ (l : List (List ℕ)). (v w ∷ v x ∷ []) ∷ l) (two_more i ws a b (omega arith))

  -- they are read
  two_of : (i : ℕ) (ws : List C) (e : C) → twice i + 2 ≤ length ws
      → in_pixels 2 (suc i) (map v ws) ≡ in_pixels 2 i (map v ws) ++ ((v (get_or ws (twice i) e) ∷ v (get_or ws (suc (twice i)) e) ∷ []) ∷ [])
  two_of i [] e h = absurd (omega arith)
  two_of i (w ∷ []) e h = absurd (omega arith)
  two_of zero (w ∷ x ∷ ws) e h = refl
  two_of (suc i) (w ∷ x ∷ ws) e h = ap (λ (l : List (List ℕ)). (v w ∷ v x ∷ []) ∷ l) (two_of i ws e (omega arith))

  module _ {X : Type 0} (r : X → List ℕ) where
    -- one pixel more is read, of four channels or of two
    pub four_loaded : (i : ℕ) (p : List X) (d : X) (ws : List C) (a b c e : C) → 4 * length p ≡ length ws → i < length p
        → v a ∷ v b ∷ v c ∷ v e ∷ [] ≡ r (get_or p i d) → in_pixels 4 i (map v ws) ≡ map r (take i p)
        → in_pixels 4 (i + 1) (map v (set_four (4 * i) (4 * i + 1) (4 * i + 2) (4 * i + 3) ws a b c e)) ≡ map r (take (i + 1) p)
    four_loaded i p d ws a b c e long lt own so_far =
        let t = four_times_is i in
        let at : 4 * i ≡ four_times i = sym t in
        let one : 4 * i + 1 ≡ suc (four_times i) = omega (arith, t) in
        let two : 4 * i + 2 ≡ suc (suc (four_times i)) = omega (arith, t) in
        let three : 4 * i + 3 ≡ suc (suc (suc (four_times i))) = omega (arith, t) in
        let on : i + 1 ≡ suc i = omega arith in
        ap (λ (n : ℕ). in_pixels 4 n (map v (set_four (4 * i) (4 * i + 1) (4 * i + 2) (4 * i + 3) ws a b c e))) on
        ∙ (λ k. in_pixels 4 (suc i) (map v (set_four (at k) (one k) (two k) (three k) ws a b c e)))
        ∙ four_more i ws a b c e (omega (arith, t))
        ∙ same_pair so_far (ap (λ (l : List ℕ). l ∷ []) own)
        ∙ sym (ap (map r) (take_more p i d lt) ∙ map-append r (take i p) (get_or p i d ∷ []))

    pub two_loaded : (i : ℕ) (p : List X) (d : X) (ws : List C) (a b : C) → 2 * length p ≡ length ws → i < length p
        → v a ∷ v b ∷ [] ≡ r (get_or p i d) → in_pixels 2 i (map v ws) ≡ map r (take i p)
        → in_pixels 2 (i + 1) (map v (set (set ws (2 * i) a) (2 * i + 1) b)) ≡ map r (take (i + 1) p)
    two_loaded i p d ws a b long lt own so_far =
        let t = twice_is i in
        let at : 2 * i ≡ twice i = sym t in
        let one : 2 * i + 1 ≡ suc (twice i) = omega (arith, t) in
        let on : i + 1 ≡ suc i = omega arith in
        ap (λ (n : ℕ). in_pixels 2 n (map v (set (set ws (2 * i) a) (2 * i + 1) b))) on
        ∙ (λ k. in_pixels 2 (suc i) (map v (set (set ws (at k) a) (one k) b)))
        ∙ two_more i ws a b (omega (arith, t))
        ∙ same_pair so_far (ap (λ (l : List ℕ). l ∷ []) own)
        ∙ sym (ap (map r) (take_more p i d lt) ∙ map-append r (take i p) (get_or p i d ∷ []))

    -- one pixel more is written
    pub four_stored : (i : ℕ) (ps : List X) (made : X) (ws : List C) (a b c e : C) → 4 * length ps ≡ length ws → i < length ps
        → a ≡ get_or ws (4 * i) a → b ≡ get_or ws (4 * i + 1) b → c ≡ get_or ws (4 * i + 2) c → e ≡ get_or ws (4 * i + 3) e
        → r made ≡ v a ∷ v b ∷ v c ∷ v e ∷ []
        → map r (take i ps) ≡ in_pixels 4 i (map v ws) → map r (take (i + 1) (set ps i made)) ≡ in_pixels 4 (i + 1) (map v ws)
    four_stored i ps made ws a b c e long lt is_a is_b is_c is_e own so_far =
        let t = four_times_is i in
        let at : 4 * i ≡ four_times i = sym t in
        let one : 4 * i + 1 ≡ suc (four_times i) = omega (arith, t) in
        let two : 4 * i + 2 ≡ suc (suc (four_times i)) = omega (arith, t) in
        let three : 4 * i + 3 ≡ suc (suc (suc (four_times i))) = omega (arith, t) in
        let there_b : b ≡ get_or ws (4 * i + 1) a = get_or_read ws (4 * i + 1) b (omega arith) is_b a in
        let there_c : c ≡ get_or ws (4 * i + 2) a = get_or_read ws (4 * i + 2) c (omega arith) is_c a in
        let there_e : e ≡ get_or ws (4 * i + 3) a = get_or_read ws (4 * i + 3) e (omega arith) is_e a in
        let on : i + 1 ≡ suc i = omega arith in
        ap (map r) (take_more_set ps i made lt) ∙ map-append r (take i ps) (made ∷ [])
        ∙ same_pair so_far
        (ap (λ (l : List ℕ). l ∷ []) (own ∙ (λ k. v (is_a k) ∷ v (there_b k) ∷ v (there_c k) ∷ v (there_e k) ∷ [])
        ∙ (λ k. v (get_or ws (at k) a) ∷ v (get_or ws (one k) a) ∷ v (get_or ws (two k) a) ∷ v (get_or ws (three k) a) ∷ [])))
        ∙ sym (four_of i ws a (omega (arith, t)))
        ∙ ap (λ (n : ℕ). in_pixels 4 n (map v ws)) (sym on)

    pub two_stored : (i : ℕ) (ps : List X) (made : X) (ws : List C) (a b : C) → 2 * length ps ≡ length ws → i < length ps
        → a ≡ get_or ws (2 * i) a → b ≡ get_or ws (2 * i + 1) b → r made ≡ v a ∷ v b ∷ []
        → map r (take i ps) ≡ in_pixels 2 i (map v ws) → map r (take (i + 1) (set ps i made)) ≡ in_pixels 2 (i + 1) (map v ws)
    two_stored i ps made ws a b long lt is_a is_b own so_far =
        let t = twice_is i in
        let at : 2 * i ≡ twice i = sym t in
        let one : 2 * i + 1 ≡ suc (twice i) = omega (arith, t) in
        let there_b : b ≡ get_or ws (2 * i + 1) a = get_or_read ws (2 * i + 1) b (omega arith) is_b a in
        let on : i + 1 ≡ suc i = omega arith in
        ap (map r) (take_more_set ps i made lt) ∙ map-append r (take i ps) (made ∷ [])
        ∙ same_pair so_far
        (ap (λ (l : List ℕ). l ∷ []) (own ∙ (λ k. v (is_a k) ∷ v (there_b k) ∷ []) ∙ (λ k. v (get_or ws (at k) a) ∷ v (get_or ws (one k) a) ∷ [])))
        ∙ sym (two_of i ws a (omega (arith, t)))
        ∙ ap (λ (n : ℕ). in_pixels 2 n (map v ws)) (sym on)

-- a number within the maximum is not cut
pub not_cut : (max x value : ℕ) → x < max + 1 → x ≡ value → min x max ≡ value
not_cut max x value lt is = omega arith
