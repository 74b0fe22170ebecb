-- Linear pixels as sRGB, four at a time.
use Rattle.std.proofs.Common.{◌≡◌, ℕ, ◌≤◌, List, [], ◌∷◌, length, map, drop, refl, ap, sym, subst, ◌∙◌, get_or, set, zero, suc, Fits, true, false, arith}
use mir.Syntax.{w8, w16}
use lib.Lanes.{Each1, zip2}
use Rattle.std.specs.List.{range_with_len}
use Rattle.pix_chan.specs.Modes.{AlphaMode, Straight, Premultiplied, alpha_kind}
use Rattle.pix_chan.specs.Planes.{last_of_four, with_alphas}
use Rattle.pix_chan.specs.Product.{channel_quotient}
use Rattle.pix_chan.proofs.Planes.{cons, four_times}
use Rattle.pix_el.proofs.Conversions.{straight_is, premultiplied_is}
use Rattle.pix_chan.specs.Srgb16.{srgb_encoded8}
use Rattle.pix_chan.proofs.Sixteen.{is_four, is_sixteen, whole16}
use Rattle.pix_chan.proofs.Srgb16.{curve}
use Rattle.pix_el.proofs.FourPlanes.{all_set, mapped4}
use Rattle.std.proofs.lemmas.Simd.{map-map}
use Rattle.pix_el.specs.Pixel.{channel, lies_in}
use Rattle.pix_el.specs.Planes.{by_fours}
use Rattle.pix_el.specs.Conversion.{Format, at_depth}
use Rattle.pix_el.specs.Light.{mode_changed, channel_as_srgb, as_srgb}
use Rattle.pix_el.specs.LightBlocks.{IsSameInBothModes, AreSameInBothModes, AreLevels, changed_four}

-- what is made of each of sixteen
pub mapped16 : {A B : Type 0} (f : A → B) (xs : List A) (d0 d1 d2 d3 d4 d5 d6 d7 d8 d9 d10 d11 d12 d13 d14 d15 : A) {r0 r1 r2 r3 r4 r5 r6 r7 r8 r9 r10 r11 r12 r13 r14 r15 : B} → length xs ≡ 16
    → r0 ≡ f (get_or xs 0 d0) → r1 ≡ f (get_or xs 1 d1) → r2 ≡ f (get_or xs 2 d2) → r3 ≡ f (get_or xs 3 d3) → r4 ≡ f (get_or xs 4 d4) → r5 ≡ f (get_or xs 5 d5) → r6 ≡ f (get_or xs 6 d6) → r7 ≡ f (get_or xs 7 d7)
    → r8 ≡ f (get_or xs 8 d8) → r9 ≡ f (get_or xs 9 d9) → r10 ≡ f (get_or xs 10 d10) → r11 ≡ f (get_or xs 11 d11) → r12 ≡ f (get_or xs 12 d12) → r13 ≡ f (get_or xs 13 d13) → r14 ≡ f (get_or xs 14 d14) → r15 ≡ f (get_or xs 15 d15)
    → r0 ∷ r1 ∷ r2 ∷ r3 ∷ r4 ∷ r5 ∷ r6 ∷ r7 ∷ r8 ∷ r9 ∷ r10 ∷ r11 ∷ r12 ∷ r13 ∷ r14 ∷ r15 ∷ [] ≡ map f xs
mapped16 f xs d0 d1 d2 d3 d4 d5 d6 d7 d8 d9 d10 d11 d12 d13 d14 d15 h e0 e1 e2 e3 e4 e5 e6 e7 e8 e9 e10 e11 e12 e13 e14 e15 =
    rw (e0, e1, e2, e3, e4, e5, e6, e7, e8, e9, e10, e11, e12, e13, e14, e15) (ap (map f) (whole16 xs d0 d1 d2 d3 d4 d5 d6 d7 d8 d9 d10 d11 d12 d13 d14 d15 h))

-- levels are bytes
pub levels_fit : (xs : List ℕ) → Each1 (Fits w16) xs → Each1 (Fits w8) (map srgb_encoded8 xs)
levels_fit [] f = tt
levels_fit (x ∷ xs) f = (record { fits = curve.encoded_fits x f.0.fits }, levels_fit xs f.1)

-- the levels of the channels of one number
mapped_at : (f : ℕ → ℕ) (xs : List ℕ) (k d : ℕ) → get_or (map f xs) k (f d) ≡ f (get_or xs k d)
mapped_at f [] k d = refl
mapped_at f (x ∷ xs) zero d = refl
mapped_at f (x ∷ xs) (suc k) d = mapped_at f xs k d

-- the levels of a pixel
levels_of : (max : ℕ) (pixel : List ℕ) (w x y z : ℕ) → w ∷ x ∷ y ∷ z ∷ [] ≡ map srgb_encoded8 pixel → AreLevels max pixel w x y
levels_of max pixel w x y z e =
    let at : (k : ℕ) → get_or (w ∷ x ∷ y ∷ z ∷ []) k (srgb_encoded8 max) ≡ srgb_encoded8 (channel max pixel k) =
    λ k. ap (λ (l : List ℕ). get_or l k (srgb_encoded8 max)) e ∙ mapped_at srgb_encoded8 pixel k max in
    record { first = at 0; second = at 1; third = at 2 }

-- four pixels by their numbers, and sixteen channels by theirs
module _ {C P : Type 0} (max : ℕ) (v : C → ℕ) (n : P → List ℕ) where
  -- the channels are the levels of the pixels
  abbrev pub Match : List C → List P → Type 0
  Match cs ps = by_fours (map v cs) ≡ map (map srgb_encoded8) (map n ps)

  -- the levels of each pixel
  abbrev pub Each : List C → List P → Type 0
  Each cs ps = (c d e : C) (p : P) →
      (AreLevels max (n (get_or ps 0 p)) (v (get_or cs 0 c)) (v (get_or cs 1 d)) (v (get_or cs 2 e)))
      × (AreLevels max (n (get_or ps 1 p)) (v (get_or cs 4 c)) (v (get_or cs 5 d)) (v (get_or cs 6 e)))
      × (AreLevels max (n (get_or ps 2 p)) (v (get_or cs 8 c)) (v (get_or cs 9 d)) (v (get_or cs 10 e)))
      × (AreLevels max (n (get_or ps 3 p)) (v (get_or cs 12 c)) (v (get_or cs 13 d)) (v (get_or cs 14 e)))

  each_of : (a b c d e f g h i j k l m o q r : C) (s t u w : P) → Match (a ∷ b ∷ c ∷ d ∷ e ∷ f ∷ g ∷ h ∷ i ∷ j ∷ k ∷ l ∷ m ∷ o ∷ q ∷ r ∷ []) (s ∷ t ∷ u ∷ w ∷ [])
      → Each (a ∷ b ∷ c ∷ d ∷ e ∷ f ∷ g ∷ h ∷ i ∷ j ∷ k ∷ l ∷ m ∷ o ∷ q ∷ r ∷ []) (s ∷ t ∷ u ∷ w ∷ [])
  each_of a b c d e f g h i j k l m o q r s t u w same _ _ _ _ = (
    levels_of max (n s) _ _ _ _ (ap (λ (x : List (List ℕ)). get_or x 0 []) same),
    levels_of max (n t) _ _ _ _ (ap (λ (x : List (List ℕ)). get_or x 1 []) same),
    levels_of max (n u) _ _ _ _ (ap (λ (x : List (List ℕ)). get_or x 2 []) same),
    levels_of max (n w) _ _ _ _ (ap (λ (x : List (List ℕ)). get_or x 3 []) same),
  )

  pub each_matches : (cs : List C) (ps : List P) → length cs ≡ 16 → length ps ≡ 4 → Match cs ps → Each cs ps
  each_matches cs ps h k =
      subst (λ (ps : List P). Match cs ps → Each cs ps) (is_four ps k).1
      (subst (λ (cs : List C). Match cs ((is_four ps k).0.0 ∷ (is_four ps k).0.1 ∷ (is_four ps k).0.2 ∷ (is_four ps k).0.3 ∷ []) → Each cs ((is_four ps k).0.0 ∷ (is_four ps k).0.1 ∷ (is_four ps k).0.2 ∷ (is_four ps k).0.3 ∷ [])) (is_sixteen cs h).1
      (each_of _ _ _ _ _ _ _ _ _ _ _ _ _ _ _ _ _ _ _ _))

-- the levels of four pixels from those of sixteen channels
pub fours_mapped : (f : ℕ → ℕ) (xs : List ℕ) → length xs ≡ 16 → by_fours (map f xs) ≡ map (map f) (by_fours xs)
fours_mapped f xs h = rw (← (is_sixteen xs h).1) refl

-- a color of a pixel as sRGB, by its level
pub shown_color : (format to : Format) (pixel : List ℕ) (ch max alpha level : ℕ) (mode to_mode : AlphaMode)
    → format.layout.max ≡ max → format.alpha_mode ≡ mode → to.alpha_mode ≡ to_mode → to.layout.alpha ≡ alpha → lies_in to.colors ch ≡ true
    → level ≡ srgb_encoded8 (mode_changed max mode to_mode (channel max pixel alpha) (channel max pixel ch))
    → level ≡ channel_as_srgb format to pixel ch
shown_color format to pixel ch max alpha level mode to_mode em ef et ea inside is =
    rw (inside, em, ef, et, ea) is

-- any other channel
pub shown_rest : (format to : Format) (pixel : List ℕ) (ch max to_max level : ℕ) → format.layout.max ≡ max → to.layout.max ≡ to_max → lies_in to.colors ch ≡ false
    → level ≡ at_depth max to_max (channel max pixel ch) → level ≡ channel_as_srgb format to pixel ch
shown_rest format to pixel ch max to_max level em et outside is = rw (outside, em, et) is

-- the levels of a pixel by another name
pub levels_at : {P : Type 0} (max : ℕ) (n : P → List ℕ) (p q : P) (one two three : ℕ) → p ≡ q → AreLevels max (n q) one two three → AreLevels max (n p) one two three
levels_at max n p q one two three is levels = subst (λ (l : List ℕ). AreLevels max l one two three) (ap n (sym is)) levels

-- four pixels, each made of that of the same index
pub four_made : {D P : Type 0} (v : D → List ℕ) (n : P → List ℕ) (made : List ℕ → List ℕ) (ds : List D) (ps : List P) (a b c d : D) (w x y z : P) → length ds ≡ 4 → length ps ≡ 4
    → w ≡ get_or ps 0 w → x ≡ get_or ps 1 x → y ≡ get_or ps 2 y → z ≡ get_or ps 3 z → v a ≡ made (n w) → v b ≡ made (n x) → v c ≡ made (n y) → v d ≡ made (n z)
    → map v (set (set (set (set ds 0 a) 1 b) 2 c) 3 d) ≡ map made (map n ps)
four_made {D = D} {P = P} v n made ds ps a b c d w x y z h k ew ex ey ez ia ib ic id =
    let f : P → List ℕ = λ p. made (n p) in
    ap (map v) (all_set ds a b c d h)
    ∙ mapped4 f ps w x y z k (ia ∙ ap f ew) (ib ∙ ap f ex) (ic ∙ ap f ey) (id ∙ ap f ez)
    ∙ sym (map-map made n ps)

-- the channels of four pixels whose colors are the same in both alpha modes
module _ {C P : Type 0} (max : ℕ) (mode to_mode : AlphaMode) (v : C → ℕ) (n : P → List ℕ) (fits : (c : C) → v c ≤ max) where
  kept_pixel : (pixel : List ℕ) (a b c d : C) → v a ∷ v b ∷ v c ∷ v d ∷ [] ≡ pixel → IsSameInBothModes max mode to_mode (channel max pixel 3)
      → pixel ≡ changed_four max mode to_mode pixel
  kept_pixel pixel a b c d same kept =
      subst (λ (p : List ℕ). IsSameInBothModes max mode to_mode (channel max p 3) → p ≡ changed_four max mode to_mode p) same
      (λ (k : IsSameInBothModes max mode to_mode (v d)).
      sym (ap (λ (x : ℕ). x ∷ mode_changed max mode to_mode (v d) (v b) ∷ mode_changed max mode to_mode (v d) (v c) ∷ v d ∷ []) (k (v a) (fits a))
      ∙ ap (λ (x : ℕ). v a ∷ x ∷ mode_changed max mode to_mode (v d) (v c) ∷ v d ∷ []) (k (v b) (fits b))
      ∙ ap (λ (x : ℕ). v a ∷ v b ∷ x ∷ v d ∷ []) (k (v c) (fits c))))
      kept

  -- the channels are those of the pixels
  abbrev pub Same : List C → List P → Type 0
  Same cs ps = by_fours (map v cs) ≡ map n ps

  -- and those of the pixels in the other mode
  abbrev pub Changed : List C → List P → Type 0
  Changed cs ps = by_fours (map v cs) ≡ map (λ p. changed_four max mode to_mode (n p)) ps

  kept_of : (a b c d e f g h i j k l m o q r : C) (s t u w : P) → AreSameInBothModes max mode to_mode 3 (map n (s ∷ t ∷ u ∷ w ∷ []))
      → Same (a ∷ b ∷ c ∷ d ∷ e ∷ f ∷ g ∷ h ∷ i ∷ j ∷ k ∷ l ∷ m ∷ o ∷ q ∷ r ∷ []) (s ∷ t ∷ u ∷ w ∷ [])
      → Changed (a ∷ b ∷ c ∷ d ∷ e ∷ f ∷ g ∷ h ∷ i ∷ j ∷ k ∷ l ∷ m ∷ o ∷ q ∷ r ∷ []) (s ∷ t ∷ u ∷ w ∷ [])
  kept_of a b c d e f g h i j k l m o q r s t u w kept same =
      let at : ℕ → List (List ℕ) → List ℕ = λ i x. get_or x i [] in
      let made : List ℕ → List ℕ = changed_four max mode to_mode in
      let one : n s ≡ made (n s) = kept_pixel (n s) a b c d (ap (at 0) same) kept.first in
      let two : n t ≡ made (n t) = kept_pixel (n t) e f g h (ap (at 1) same) kept.second in
      let three : n u ≡ made (n u) = kept_pixel (n u) i j k l (ap (at 2) same) kept.third in
      let four : n w ≡ made (n w) = kept_pixel (n w) m o q r (ap (at 3) same) kept.fourth in
      same
      ∙ ap (λ (x : List ℕ). x ∷ n t ∷ n u ∷ n w ∷ []) one
      ∙ ap (λ (x : List ℕ). made (n s) ∷ x ∷ n u ∷ n w ∷ []) two
      ∙ ap (λ (x : List ℕ). made (n s) ∷ made (n t) ∷ x ∷ n w ∷ []) three
      ∙ ap (λ (x : List ℕ). made (n s) ∷ made (n t) ∷ made (n u) ∷ x ∷ []) four

  pub kept_changed : (cs : List C) (ps : List P) → length cs ≡ 16 → length ps ≡ 4 → AreSameInBothModes max mode to_mode 3 (map n ps) → Same cs ps → Changed cs ps
  kept_changed cs ps h k =
      subst (λ (ps : List P). AreSameInBothModes max mode to_mode 3 (map n ps) → Same cs ps → Changed cs ps) (is_four ps k).1
      (subst (λ (cs : List C). AreSameInBothModes max mode to_mode 3 (map n ((is_four ps k).0.0 ∷ (is_four ps k).0.1 ∷ (is_four ps k).0.2 ∷ (is_four ps k).0.3 ∷ []))
      → Same cs ((is_four ps k).0.0 ∷ (is_four ps k).0.1 ∷ (is_four ps k).0.2 ∷ (is_four ps k).0.3 ∷ [])
      → Changed cs ((is_four ps k).0.0 ∷ (is_four ps k).0.1 ∷ (is_four ps k).0.2 ∷ (is_four ps k).0.3 ∷ [])) (is_sixteen cs h).1
      (kept_of _ _ _ _ _ _ _ _ _ _ _ _ _ _ _ _ _ _ _ _))

-- ---- four pixels, by their channels in a row
-- the levels of a pixel's colors and its alpha
abbrev pub shown_by : (ℕ → ℕ) → List ℕ → ℕ → List ℕ
shown_by at pixel alpha = srgb_encoded8 (get_or pixel 0 0) ∷ srgb_encoded8 (get_or pixel 1 0) ∷ srgb_encoded8 (get_or pixel 2 0) ∷ at alpha ∷ []

-- pixels as sRGB, by what one becomes
pub fours_shown : (at : ℕ → ℕ) (changed made : List ℕ → List ℕ) → ((w x y z : ℕ) → shown_by at (changed (w ∷ x ∷ y ∷ z ∷ [])) z ≡ made (w ∷ x ∷ y ∷ z ∷ []))
    → (n : ℕ) (xs cs : List ℕ) → length xs ≡ four_times n → length cs ≡ four_times n
    → by_fours xs ≡ map changed (by_fours cs) → by_fours (with_alphas (map srgb_encoded8 xs) (map at cs)) ≡ map made (by_fours cs)
fours_shown at changed made is zero [] [] h k same = refl
fours_shown at changed made is zero [] (w ∷ cs) h k same = absurd (omega (arith, k))
fours_shown at changed made is zero (a ∷ xs) cs h k same = absurd (omega (arith, h))
fours_shown at changed made is (suc n) [] cs h k same = absurd (omega (arith, h))
fours_shown at changed made is (suc n) (a ∷ []) cs h k same = absurd (omega (arith, h))
fours_shown at changed made is (suc n) (a ∷ b ∷ []) cs h k same = absurd (omega (arith, h))
fours_shown at changed made is (suc n) (a ∷ b ∷ c ∷ []) cs h k same = absurd (omega (arith, h))
fours_shown at changed made is (suc n) (a ∷ b ∷ c ∷ d ∷ xs) [] h k same = absurd (omega (arith, k))
fours_shown at changed made is (suc n) (a ∷ b ∷ c ∷ d ∷ xs) (w ∷ []) h k same = absurd (omega (arith, k))
fours_shown at changed made is (suc n) (a ∷ b ∷ c ∷ d ∷ xs) (w ∷ x ∷ []) h k same = absurd (omega (arith, k))
fours_shown at changed made is (suc n) (a ∷ b ∷ c ∷ d ∷ xs) (w ∷ x ∷ y ∷ []) h k same = absurd (omega (arith, k))
fours_shown at changed made is (suc n) (a ∷ b ∷ c ∷ d ∷ xs) (w ∷ x ∷ y ∷ z ∷ cs) h k same =
    cons (ap (λ (l : List (List ℕ)). shown_by at (get_or l 0 []) z) same ∙ is w x y z)
    (fours_shown at changed made is n xs cs (omega (arith, h)) (omega (arith, k)) (ap (drop 1) same))

-- pixels as sRGB, by their channels in the other alpha mode
pub all_shown : (format to : Format) (max to_max : ℕ) (mode to_mode : AlphaMode) (n : ℕ) (xs cs : List ℕ)
    → format.layout.max ≡ max → format.alpha_mode ≡ mode → to.layout.max ≡ to_max → to.alpha_mode ≡ to_mode
    → to.layout.alpha ≡ 3 → to.colors.start ≡ 0 → to.colors.end ≡ 3 → to.layout.count ≡ 4
    → length xs ≡ four_times n → length cs ≡ four_times n → by_fours xs ≡ map (changed_four max mode to_mode) (by_fours cs)
    → by_fours (with_alphas (map srgb_encoded8 xs) (map (at_depth max to_max) cs)) ≡ map (as_srgb format to) (by_fours cs)
all_shown format to max to_max mode to_mode n xs cs em ef en et ea start end count lx lc same =
    fours_shown (at_depth max to_max) (changed_four max mode to_mode) (as_srgb format to) (λ w x y z. pixel (w ∷ x ∷ y ∷ z ∷ [])) n xs cs lx lc same
  where
    level : List ℕ → ℕ → ℕ
    level p ch = srgb_encoded8 (mode_changed max mode to_mode (channel max p 3) (channel max p ch))

    pixel : (p : List ℕ) → level p 0 ∷ level p 1 ∷ level p 2 ∷ at_depth max to_max (channel max p 3) ∷ [] ≡ as_srgb format to p
    pixel p =
        cons (shown_color format to p 0 max 3 (level p 0) mode to_mode em ef et ea (rw (start, end) refl) refl)
        (cons (shown_color format to p 1 max 3 (level p 1) mode to_mode em ef et ea (rw (start, end) refl) refl)
        (cons (shown_color format to p 2 max 3 (level p 2) mode to_mode em ef et ea (rw (start, end) refl) refl)
        (cons (shown_rest format to p 3 max to_max (at_depth max to_max (channel max p 3)) em en (rw (start, end) refl) refl) refl)))
        ∙ ap (λ (k : ℕ). map (channel_as_srgb format to p) (range_with_len 0 k)) (sym count)

-- pixels that are made from each one's four channels
pub fours_made : (made : List ℕ → List ℕ) (from : ℕ → ℕ → ℕ) → ((w x y z : ℕ) → from w z ∷ from x z ∷ from y z ∷ z ∷ [] ≡ made (w ∷ x ∷ y ∷ z ∷ []))
    → (n : ℕ) (cs : List ℕ) → length cs ≡ four_times n
    → by_fours (with_alphas (zip2 from cs (last_of_four cs)) cs) ≡ map made (by_fours cs)
fours_made made from is zero [] h = refl
fours_made made from is zero (w ∷ cs) h = absurd (omega (arith, h))
fours_made made from is (suc n) [] h = absurd (omega (arith, h))
fours_made made from is (suc n) (w ∷ []) h = absurd (omega (arith, h))
fours_made made from is (suc n) (w ∷ x ∷ []) h = absurd (omega (arith, h))
fours_made made from is (suc n) (w ∷ x ∷ y ∷ []) h = absurd (omega (arith, h))
fours_made made from is (suc n) (w ∷ x ∷ y ∷ z ∷ cs) h = cons (is w x y z) (fours_made made from is n cs (omega (arith, h)))

-- pixels that stay
pub fours_kept : (made : List ℕ → List ℕ) → ((w x y z : ℕ) → w ∷ x ∷ y ∷ z ∷ [] ≡ made (w ∷ x ∷ y ∷ z ∷ []))
    → (n : ℕ) (cs : List ℕ) → length cs ≡ four_times n → by_fours cs ≡ map made (by_fours cs)
fours_kept made is zero [] h = refl
fours_kept made is zero (w ∷ cs) h = absurd (omega (arith, h))
fours_kept made is (suc n) [] h = absurd (omega (arith, h))
fours_kept made is (suc n) (w ∷ []) h = absurd (omega (arith, h))
fours_kept made is (suc n) (w ∷ x ∷ []) h = absurd (omega (arith, h))
fours_kept made is (suc n) (w ∷ x ∷ y ∷ []) h = absurd (omega (arith, h))
fours_kept made is (suc n) (w ∷ x ∷ y ∷ z ∷ cs) h = cons (is w x y z) (fours_kept made is n cs (omega (arith, h)))

-- in the same alpha mode a color stays
pub same_mode : (max : ℕ) (mode to_mode : AlphaMode) (alpha x : ℕ) → alpha_kind mode ≡ alpha_kind to_mode → x ≡ mode_changed max mode to_mode alpha x
same_mode max Straight Straight alpha x e = refl
same_mode max Straight Premultiplied alpha x e = absurd (omega (arith, e))
same_mode max Premultiplied Straight alpha x e = absurd (omega (arith, e))
same_mode max Premultiplied Premultiplied alpha x e = refl

-- a pixel of four channels in the same alpha mode
pub kept_four : (max : ℕ) (mode to_mode : AlphaMode) (w x y z : ℕ) → alpha_kind mode ≡ alpha_kind to_mode
    → w ∷ x ∷ y ∷ z ∷ [] ≡ changed_four max mode to_mode (w ∷ x ∷ y ∷ z ∷ [])
kept_four max mode to_mode w x y z e =
    cons (same_mode max mode to_mode z w e) (cons (same_mode max mode to_mode z x e) (cons (same_mode max mode to_mode z y e) refl))

-- a premultiplied pixel of four channels as a straight one
pub straight_four : (max : ℕ) (mode to_mode : AlphaMode) (w x y z : ℕ) → alpha_kind mode ≡ 1 → alpha_kind to_mode ≡ 0
    → channel_quotient max w z ∷ channel_quotient max x z ∷ channel_quotient max y z ∷ z ∷ [] ≡ changed_four max mode to_mode (w ∷ x ∷ y ∷ z ∷ [])
straight_four max mode to_mode w x y z p s = rw (premultiplied_is mode p, straight_is to_mode s) refl

-- four channels that are written to sixteen
module _ {C D : Type 0} (v : D → ℕ) (n : C → ℕ) (at : ℕ → ℕ) where
  places_set : (ls : List D) (a b c d : D) → length ls ≡ 16
      → map v (set (set (set (set ls 3 a) 7 b) 11 c) 15 d) ≡ with_alphas (map v ls) (v a ∷ v a ∷ v a ∷ v a ∷ v b ∷ v b ∷ v b ∷ v b ∷ v c ∷ v c ∷ v c ∷ v c ∷ v d ∷ v d ∷ v d ∷ v d ∷ [])
  places_set ls a b c d h = rw (← (is_sixteen ls h).1) refl

  alphas_by : (ls : List D) (cs : List C) (w x y z : C) → length ls ≡ 16 → length cs ≡ 16
      → let e = at (n (get_or cs 3 w)) in let f = at (n (get_or cs 7 x)) in let g = at (n (get_or cs 11 y)) in let h = at (n (get_or cs 15 z)) in
      with_alphas (map v ls) (e ∷ e ∷ e ∷ e ∷ f ∷ f ∷ f ∷ f ∷ g ∷ g ∷ g ∷ g ∷ h ∷ h ∷ h ∷ h ∷ []) ≡ with_alphas (map v ls) (map at (map n cs))
  alphas_by ls cs w x y z h k = rw (← (is_sixteen ls h).1, ← (is_sixteen cs k).1) refl

  pub alphas_set : (ls : List D) (cs : List C) (a b c d : D) (w x y z : C) → length ls ≡ 16 → length cs ≡ 16
      → v a ≡ at (n (get_or cs 3 w)) → v b ≡ at (n (get_or cs 7 x)) → v c ≡ at (n (get_or cs 11 y)) → v d ≡ at (n (get_or cs 15 z))
      → map v (set (set (set (set ls 3 a) 7 b) 11 c) 15 d) ≡ with_alphas (map v ls) (map at (map n cs))
  alphas_set ls cs a b c d w x y z h k ea eb ec ed =
      places_set ls a b c d h
      ∙ ap (λ (m : ℕ). with_alphas (map v ls) (m ∷ m ∷ m ∷ m ∷ v b ∷ v b ∷ v b ∷ v b ∷ v c ∷ v c ∷ v c ∷ v c ∷ v d ∷ v d ∷ v d ∷ v d ∷ [])) ea
      ∙ ap (λ (m : ℕ). with_alphas (map v ls) (at (n (get_or cs 3 w)) ∷ at (n (get_or cs 3 w)) ∷ at (n (get_or cs 3 w)) ∷ at (n (get_or cs 3 w)) ∷ m ∷ m ∷ m ∷ m ∷ v c ∷ v c ∷ v c ∷ v c ∷ v d ∷ v d ∷ v d ∷ v d ∷ [])) eb
      ∙ ap (λ (m : ℕ). with_alphas (map v ls) (at (n (get_or cs 3 w)) ∷ at (n (get_or cs 3 w)) ∷ at (n (get_or cs 3 w)) ∷ at (n (get_or cs 3 w)) ∷ at (n (get_or cs 7 x)) ∷ at (n (get_or cs 7 x)) ∷ at (n (get_or cs 7 x)) ∷ at (n (get_or cs 7 x)) ∷ m ∷ m ∷ m ∷ m ∷ v d ∷ v d ∷ v d ∷ v d ∷ [])) ec
      ∙ ap (λ (m : ℕ). with_alphas (map v ls) (at (n (get_or cs 3 w)) ∷ at (n (get_or cs 3 w)) ∷ at (n (get_or cs 3 w)) ∷ at (n (get_or cs 3 w)) ∷ at (n (get_or cs 7 x)) ∷ at (n (get_or cs 7 x)) ∷ at (n (get_or cs 7 x)) ∷ at (n (get_or cs 7 x)) ∷ at (n (get_or cs 11 y)) ∷ at (n (get_or cs 11 y)) ∷ at (n (get_or cs 11 y)) ∷ at (n (get_or cs 11 y)) ∷ m ∷ m ∷ m ∷ m ∷ [])) ed
      ∙ alphas_by ls cs w x y z h k
