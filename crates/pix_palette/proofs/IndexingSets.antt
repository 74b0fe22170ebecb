-- The colors of pixels, and the values of indices.
use Rattle.std.specs.Prelude.{take}
use Rattle.std.proofs.Common.{◌≡◌, ℕ, ◌+◌, ◌<◌, ◌≤◌, List, [], ◌∷◌, ◌++◌, length, map, get_or, set, arith, sym, ap, ◌∙◌, subst}
use Rattle.std.proofs.lemmas.List.{length-map, map-set, get_or-map, take_more_set, take_all, take-append-le}
use Rattle.pix_table.proofs.Writes.{set_more}
use Rattle.pix_chan.specs.Modes.{GammaMode, Srgb}
use Rattle.pix_el.specs.Conversion.{Format, converted}
use Rattle.std.proofs.Math.Seq.{take-length}
use Rattle.std.proofs.Math.ListN.{drop}
use Rattle.pix_palette.specs.Indexing.{AreGray, color_format, colors_of, values}

-- the color of a pixel
pub color_at : {P : Type 0} (format : Format) (gamma : GammaMode) (read : P → List ℕ) (pixels : List P) (i : ℕ) (p : P) (color : List ℕ) → i < length pixels
    → p ≡ get_or pixels i p → color ≡ converted format gamma color_format Srgb (read p) → color ≡ get_or (colors_of format gamma read pixels) i []
color_at format gamma read pixels i p color below is e =
    e ∙ ap (λ q. converted format gamma color_format Srgb (read q)) is
    ∙ sym (get_or-map (λ q. converted format gamma color_format Srgb (read q)) pixels i p [] below)

-- one value more
pub value_more : {P : Type 0} (read : P → List ℕ) (pixels : List P) (i : ℕ) (p : P) (k : ℕ) → i < length pixels → read p ≡ k ∷ []
    → take (i + 1) (values read (set pixels i p)) ≡ take i (values read pixels) ++ k ∷ []
value_more {P = P} read pixels i p k below e =
    let f : P → ℕ = λ q. get_or (read q) 0 0 in
    ap (take (i + 1)) (map-set f pixels i p) ∙ take_more_set (map f pixels) i (f p) (omega (arith, length-map pixels f))
    ∙ ap (λ n. take i (map f pixels) ++ n ∷ []) (ap (λ l. get_or l 0 0) e)

-- as many colors and values as pixels
pub many_colors : {P : Type 0} (format : Format) (gamma : GammaMode) (read : P → List ℕ) (pixels : List P)
    → length (colors_of format gamma read pixels) ≡ length pixels
many_colors format gamma read pixels = length-map pixels (λ q. converted format gamma color_format Srgb (read q))

pub many_values : {P : Type 0} (read : P → List ℕ) (pixels : List P) → length (values read pixels) ≡ length pixels
many_values read pixels = length-map pixels (λ q. get_or (read q) 0 0)

-- a list that is written over as a whole
pub rewritten : {X : Type 0} (n : ℕ) (xs ws : List X) → n ≡ length ws → take n (ws ++ drop (length ws) xs) ≡ ws
rewritten n xs ws e = take-append-le n ws (drop (length ws) xs) (omega arith) ∙ ap (λ m. take m ws) e ∙ take-length ws

pub refilled : {X : Type 0} (xs ws : List X) → length ws ≡ length xs → take (length xs) (ws ++ drop (length ws) xs) ≡ ws
refilled xs ws e = rewritten (length xs) xs ws (sym e)

-- one pixel more that has its gray value alone
pub gray_more : {P : Type 0} (read : P → List ℕ) (pixels : List P) (i : ℕ) (p : P) (k : ℕ) → i < length pixels → read p ≡ k ∷ []
    → take i (map read pixels) ≡ take i (map (λ n. n ∷ []) (values read pixels))
    → take (i + 1) (map read (set pixels i p)) ≡ take (i + 1) (map (λ n. n ∷ []) (values read (set pixels i p)))
gray_more {P = P} read pixels i p k below e h =
    let f : P → ℕ = λ q. get_or (read q) 0 0 in
    let alone : ℕ → List ℕ = λ n. n ∷ [] in
    let left : take (i + 1) (map read (set pixels i p)) ≡ take i (map read pixels) ++ read p ∷ [] =
    ap (take (i + 1)) (map-set read pixels i p) ∙ take_more_set (map read pixels) i (read p) (omega (arith, length-map pixels read)) in
    let right : take (i + 1) (map alone (map f (set pixels i p))) ≡ take i (map alone (map f pixels)) ++ alone (f p) ∷ [] =
    ap (λ l. take (i + 1) (map alone l)) (map-set f pixels i p) ∙ ap (take (i + 1)) (map-set alone (map f pixels) i (f p))
    ∙ take_more_set (map alone (map f pixels)) i (alone (f p)) (omega (arith, length-map pixels f, length-map (map f pixels) alone)) in
    let same : read p ≡ alone (f p) = e ∙ ap (λ l. alone (get_or l 0 0)) (sym e) in
    left ∙ ap (λ l. l ++ read p ∷ []) h ∙ ap (λ q. take i (map alone (map f pixels)) ++ q ∷ []) same ∙ sym right

pub all_gray : {P : Type 0} (read : P → List ℕ) (pixels : List P) (i : ℕ) → length pixels ≤ i
    → take i (map read pixels) ≡ take i (map (λ n. n ∷ []) (values read pixels)) → AreGray read pixels
all_gray {P = P} read pixels i above h =
    let f : P → ℕ = λ q. get_or (read q) 0 0 in
    let alone : ℕ → List ℕ = λ n. n ∷ [] in
    record {
      alone = sym (take_all i (map read pixels) (omega (arith, length-map pixels read))) ∙ h
          ∙ take_all i (map alone (map f pixels)) (omega (arith, length-map pixels f, length-map (map f pixels) alone));
    }

-- what holds of the values of the pixels below i, and of the one that is written there, holds of
-- those below i + 1
pub each_value_more : {P : Type 0} (read : P → List ℕ) (Q : ℕ → ℕ → Type 0) (pixels : List P) (i : ℕ) (p : P) (k : ℕ) → i < length pixels → read p ≡ k ∷ []
    → ((j : ℕ) → j < i → Q j (get_or (values read pixels) j 0)) → Q i k → (j : ℕ) → j < i + 1 → Q j (get_or (values read (set pixels i p)) j 0)
each_value_more {P = P} read Q pixels i p k below e before here j inside =
    let f : P → ℕ = λ q. get_or (read q) 0 0 in
    subst (λ l. Q j (get_or l j 0)) (sym (map-set f pixels i p))
    (set_more Q (map f pixels) i (f p) (omega (arith, length-map pixels f)) before (subst (Q i) (sym (ap (λ l. get_or l 0 0) e)) here) j inside)

-- the value of a pixel
pub value_at : {P : Type 0} (read : P → List ℕ) (pixels : List P) (i : ℕ) (p : P) → i < length pixels → p ≡ get_or pixels i p
    → get_or (read p) 0 0 ≡ get_or (values read pixels) i 0
value_at {P = P} read pixels i p below is =
    let f : P → ℕ = λ q. get_or (read q) 0 0 in
    ap f is ∙ sym (get_or-map f pixels i p 0 below)
