-- Eight pixels of four channels in pixel order.
use Rattle.std.proofs.Common.{◌≡◌, ℕ, zero, suc, ◌∙◌, List, [], ◌∷◌, ◌++◌, length, map, take, refl, ap, sym, arith, replicate, get_or}
use Rattle.std.proofs.lemmas.List.{length-append, take-append-le, take_all}
use Rattle.pix_chan.specs.Runs.{over}
use Rattle.pix_chan.specs.Product.{channel_product}
use Rattle.pix_chan.specs.Planes.{in_turn}
use Rattle.pix_chan.proofs.Sixteen.{is_eight, whole8}
use Rattle.pix_chan.proofs.Pairs.{is_thirty_two}
use Rattle.pix_el.specs.Planes.{by_fours}
use Rattle.pix_el.specs.PixelComposite.{matted_color}
use Rattle.pix_el.proofs.FourPlanes.{four_of}

-- one color eight times
pub color_eight_times : {C : Type 0} (number : C → ℕ) (a b c d : C) (color : List ℕ) → number a ∷ number b ∷ number c ∷ number d ∷ [] ≡ color
    → by_fours (map number (a ∷ b ∷ c ∷ d ∷ a ∷ b ∷ c ∷ d ∷ a ∷ b ∷ c ∷ d ∷ a ∷ b ∷ c ∷ d ∷ a ∷ b ∷ c ∷ d ∷ a ∷ b ∷ c ∷ d ∷ a ∷ b ∷ c ∷ d ∷ a ∷ b ∷ c ∷ d ∷ [])) ≡ replicate 8 color
color_eight_times number a b c d color e = rw (← e) refl

-- eight pixels, each multiplied by a matte
pub eight_matted : (max a b c d e f g h : ℕ) (cs : List ℕ) → length cs ≡ 32
    → by_fours (over (λ y x. channel_product max x y) (a ∷ a ∷ a ∷ a ∷ b ∷ b ∷ b ∷ b ∷ c ∷ c ∷ c ∷ c ∷ d ∷ d ∷ d ∷ d ∷ e ∷ e ∷ e ∷ e ∷ f ∷ f ∷ f ∷ f ∷ g ∷ g ∷ g ∷ g ∷ h ∷ h ∷ h ∷ h ∷ []) cs)
    ≡ over (matted_color (four_of max 0)) (a ∷ b ∷ c ∷ d ∷ e ∷ f ∷ g ∷ h ∷ []) (by_fours cs)
eight_matted max a b c d e f g h cs l = rw (← (is_thirty_two cs l).1) refl

-- the same, by the places of all mattes
pub spread_matted : (max : ℕ) (ms cs : List ℕ) → length ms ≡ 8 → length cs ≡ 32
    → by_fours (over (λ y x. channel_product max x y) (in_turn ms ms ms ms) cs) ≡ over (matted_color (four_of max 0)) ms (by_fours cs)
spread_matted max ms cs h l =
    let w = is_eight ms h in
    rw (← w.1) (eight_matted max w.0.0 w.0.1 w.0.2 w.0.3 w.0.4 w.0.5 w.0.6 w.0.7 cs l)

listed : {C : Type 0} {a b c d e f g h a' b' c' d' e' f' g' h' : C} → a ≡ a' → b ≡ b' → c ≡ c' → d ≡ d' → e ≡ e' → f ≡ f' → g ≡ g' → h ≡ h'
    → a ∷ b ∷ c ∷ d ∷ e ∷ f ∷ g ∷ h ∷ [] ≡ a' ∷ b' ∷ c' ∷ d' ∷ e' ∷ f' ∷ g' ∷ h' ∷ []
listed a0 a1 a2 a3 a4 a5 a6 a7 = cc

-- of planes of sixteen, of which the first eight are those of a list: what is put together of them
pub first_turns : {A B : Type 0} (k : A → B) (ms : List A) (z a b c d e f g h : A) (one two rest : List B) → length ms ≡ 8 → length one ≡ 16 → length two ≡ 16
    → a ≡ get_or ms 0 a → b ≡ get_or ms 1 b → c ≡ get_or ms 2 c → d ≡ get_or ms 3 d → e ≡ get_or ms 4 e → f ≡ get_or ms 5 f → g ≡ get_or ms 6 g → h ≡ get_or ms 7 h
    → let w = map k (a ∷ b ∷ c ∷ d ∷ e ∷ f ∷ g ∷ h ∷ z ∷ z ∷ z ∷ z ∷ z ∷ z ∷ z ∷ z ∷ []) in
    (one ++ two) ++ rest ≡ in_turn w w w w → one ++ two ≡ in_turn (map k ms) (map k ms) (map k ms) (map k ms)
first_turns k ms z a b c d e f g h one two rest long l1 l2 a0 a1 a2 a3 a4 a5 a6 a7 made =
    let is : a ∷ b ∷ c ∷ d ∷ e ∷ f ∷ g ∷ h ∷ [] ≡ ms = listed a0 a1 a2 a3 a4 a5 a6 a7 ∙ whole8 ms a b c d e f g h long in
    let both : length (one ++ two) ≡ 32 = length-append one two ∙ rw (l1, l2) refl in
    let part : take 32 ((one ++ two) ++ rest) ≡ one ++ two = take-append-le 32 (one ++ two) rest (omega (arith, both)) ∙ take_all 32 (one ++ two) (omega (arith, both)) in
    sym part ∙ ap (take 32) made ∙ rw (← is) refl

-- one element with each
pub over-replicate : {A B : Type 0} (f : B → A → A) (n : ℕ) (ms : List B) (x : A) → length ms ≡ n → over f ms (replicate n x) ≡ map (λ m. f m x) ms
over-replicate f zero [] x h = refl
over-replicate f zero (m ∷ ms) x h = absurd (omega arith)
over-replicate f (suc n) [] x h = absurd (omega arith)
over-replicate {A} f (suc n) (m ∷ ms) x h = ap (λ (l : List A). f m x ∷ l) (over-replicate f n ms x (omega arith))
