-- Rows that are filled with one value, part by part.
use Rattle.std.proofs.Common.{◌≡◌, ℕ, ◌+◌, ◌-◌, ◌≤◌, zero, suc, List, [], ◌∷◌, ◌++◌, length, take, drop, replicate, refl, ap, ◌∙◌, arith}
use borrow.Rule.Slice.PartMut.{put_mid}
use Rattle.std.proofs.lemmas.List.{append-nil, drop_all, length-append, length-drop, length-replicate, length-take-le, replicate-append-replicate, take-append-le}
use Rattle.pix_chan.proofs.Planes.{same_pair}

-- a row whose first n places are filled, with the rest from the place k on, which is not past them
pub filled_rest : {X : Type 0} (x : X) (n k : ℕ) (old ws new : List X) → k ≤ n → n ≤ length old → ws ≡ replicate n x ++ drop n old
    → new ≡ replicate (length (take (length ws - k) (drop k ws))) x → put_mid k (length ws - k) ws new ≡ replicate (length old) x
filled_rest {X = X} x n k old ws new le fits is fresh =
    let long : length ws ≡ length old = ap length is ∙ length-append (replicate n x) (drop n old) ∙ omega (arith, length-replicate n x, length-drop n old) in
    let part : length (take (length ws - k) (drop k ws)) ≡ length old - k = length-take-le (length ws - k) (drop k ws) (omega (arith, length-drop k ws)) ∙ omega (arith, long) in
    let first : take k ws ≡ replicate k x = ap (take k) is ∙ take-append-le k (replicate n x) (drop n old) (omega (arith, length-replicate n x)) ∙ take_same k n le in
    let rest : drop (length ws - k) (drop k ws) ≡ [] = drop_all (length ws - k) (drop k ws) (omega (arith, length-drop k ws)) in
    let end : k + (length old - k) ≡ length old = omega arith in
    same_pair first (ap (λ (l : List X). new ++ l) rest ∙ append-nil new ∙ fresh ∙ ap (λ (m : ℕ). replicate m x) part)
    ∙ replicate-append-replicate k (length old - k) x ∙ ap (λ (m : ℕ). replicate m x) end
  where
    take_same : (a b : ℕ) → a ≤ b → take a (replicate b x) ≡ replicate a x
    take_same zero b h = refl
    take_same (suc a) zero h = absurd (omega arith)
    take_same (suc a) (suc b) h = ap (λ (l : List X). x ∷ l) (take_same a b (omega arith))

-- a row whose first n places are filled
pub first_filled : {X : Type 0} (x : X) (n : ℕ) (old new : List X) → n ≤ length old → new ≡ replicate (length (take n old)) x
    → new ++ drop n old ≡ replicate n x ++ drop n old
first_filled x n old new fits fresh = same_pair (fresh ∙ ap (λ (k : ℕ). replicate k x) (length-take-le n old fits)) refl

-- a row whose places are all filled
pub all_filled : {X : Type 0} (x : X) (n : ℕ) (old ws : List X) → n ≡ length old → ws ≡ replicate n x ++ drop n old → ws ≡ replicate (length old) x
all_filled {X = X} x n old ws end is =
    is ∙ ap (λ (l : List X). replicate n x ++ l) (drop_all n old (omega arith)) ∙ append-nil (replicate n x) ∙ ap (λ (k : ℕ). replicate k x) end

-- a part of a row of one value
part_same : {X : Type 0} (x : X) (k m n : ℕ) → k + m ≤ n → replicate m x ≡ take m (drop k (replicate n x))
part_same x zero zero n le = refl
part_same x zero (suc m) zero le = absurd (omega arith)
part_same {X = X} x zero (suc m) (suc n) le = ap (λ (l : List X). x ∷ l) (part_same x zero m n (omega arith))
part_same x (suc k) m zero le = absurd (omega arith)
part_same x (suc k) m (suc n) le = part_same x k m n (omega arith)

-- a part that is filled
pub filled_part : {X : Type 0} (x : X) (k m n : ℕ) (ws new : List X) → k + m ≤ n → length ws ≡ n → new ≡ replicate (length (take m (drop k ws))) x
    → new ≡ take m (drop k (replicate n x))
filled_part x k m n ws new le long is =
    is ∙ ap (λ (i : ℕ). replicate i x) (length-take-le m (drop k ws) (omega (arith, length-drop k ws))) ∙ part_same x k m n le
