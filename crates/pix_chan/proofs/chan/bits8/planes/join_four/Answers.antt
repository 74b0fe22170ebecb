use Rattle.std.proofs.Common.{zero, suc, ◌+◌, ◌≡◌, ◌∙◌, ◌++◌, ap, arith, sym, length, List, ℕ, [], ◌∷◌}
use lib.Lanes.{pick_l}
use Rattle.pix_chan.specs.Planes.{in_turn}
use Rattle.std.specs.List.{range_with_len}
use Rattle.std.proofs.lemmas.List.{length-append}
use Rattle.pix_chan.specs.Lanes.{low_pairs, high_pairs}
use Rattle.pix_chan.proofs.Planes.{front, back, through, same_turn, same_joined}
use Rattle.pix_chan.proofs.chan.bits8.planes.join_four.Goals as goal

-- the indexes of the four channels of the pixels i to i + 3 in four planes, one after the other
abbrev fours_from : ℕ → ℕ → List ℕ
fours_from i zero = []
fours_from i (suc m) = i ∷ (i + 16) ∷ (i + 32) ∷ (i + 48) ∷ fours_from (i + 1) m

abbrev fours : ℕ → List ℕ
fours i = fours_from i 4

-- each of four lists of sixteen, as a part of all
pub in_all : (a b c d : List ℕ) → length a ≡ 16 → length b ≡ 16 → length c ≡ 16 → length d ≡ 16
    → let all = (a ++ b) ++ (c ++ d) in
    in_turn a b c d ≡ in_turn (pick_l 0 all (range_with_len 0 16)) (pick_l 0 all (range_with_len 16 16)) (pick_l 0 all (range_with_len 32 16)) (pick_l 0 all (range_with_len 48 16))
in_all a b c d i j k l =
    let all = (a ++ b) ++ (c ++ d) in
    let m : length (a ++ b) ≡ 32 = omega (arith, length-append a b) in
    let n : length (c ++ d) ≡ 32 = omega (arith, length-append c d) in
    let f = front 32 (a ++ b) (c ++ d) m in
    let g = back 32 (a ++ b) (c ++ d) m n in
    same_turn (front 16 a b i ∙ ap (λ (u : List ℕ). pick_l 0 u (range_with_len 0 16)) f)
    (back 16 a b i j ∙ ap (λ (u : List ℕ). pick_l 0 u (range_with_len 16 16)) f)
    (front 16 c d k ∙ ap (λ (u : List ℕ). pick_l 0 u (range_with_len 0 16)) g)
    (back 16 c d k l ∙ ap (λ (u : List ℕ). pick_l 0 u (range_with_len 16 16)) g)

pub returns : goal.returns
returns c =
    let is_a : c.mesh.result.0 ≡ pick_l 0 ((c.args.one ++ c.args.two) ++ (c.args.three ++ c.args.four)) (fours 0) = c.mesh.ensures.low ∙ through (λ u v. pick_l 0 (pick_l 0 u (0 ∷ 16 ∷ 1 ∷ 17 ∷ 2 ∷ 18 ∷ 3 ∷ 19 ∷ 4 ∷ 20 ∷ 5 ∷ 21 ∷ 6 ∷ 22 ∷ 7 ∷ 23 ∷ []) ++ pick_l 0 v (0 ∷ 16 ∷ 1 ∷ 17 ∷ 2 ∷ 18 ∷ 3 ∷ 19 ∷ 4 ∷ 20 ∷ 5 ∷ 21 ∷ 6 ∷ 22 ∷ 7 ∷ 23 ∷ [])) low_pairs) c.args.one c.args.two c.args.three c.args.four (omega arith) (omega arith) (omega arith) (omega arith) in
    let is_b : c.mesh.result.1 ≡ pick_l 0 ((c.args.one ++ c.args.two) ++ (c.args.three ++ c.args.four)) (fours 4) = c.mesh.ensures.high ∙ through (λ u v. pick_l 0 (pick_l 0 u (0 ∷ 16 ∷ 1 ∷ 17 ∷ 2 ∷ 18 ∷ 3 ∷ 19 ∷ 4 ∷ 20 ∷ 5 ∷ 21 ∷ 6 ∷ 22 ∷ 7 ∷ 23 ∷ []) ++ pick_l 0 v (0 ∷ 16 ∷ 1 ∷ 17 ∷ 2 ∷ 18 ∷ 3 ∷ 19 ∷ 4 ∷ 20 ∷ 5 ∷ 21 ∷ 6 ∷ 22 ∷ 7 ∷ 23 ∷ [])) high_pairs) c.args.one c.args.two c.args.three c.args.four (omega arith) (omega arith) (omega arith) (omega arith) in
    let is_c : c.mesh-2.result.0 ≡ pick_l 0 ((c.args.one ++ c.args.two) ++ (c.args.three ++ c.args.four)) (fours 8) = c.mesh-2.ensures.low ∙ through (λ u v. pick_l 0 (pick_l 0 u (8 ∷ 24 ∷ 9 ∷ 25 ∷ 10 ∷ 26 ∷ 11 ∷ 27 ∷ 12 ∷ 28 ∷ 13 ∷ 29 ∷ 14 ∷ 30 ∷ 15 ∷ 31 ∷ []) ++ pick_l 0 v (8 ∷ 24 ∷ 9 ∷ 25 ∷ 10 ∷ 26 ∷ 11 ∷ 27 ∷ 12 ∷ 28 ∷ 13 ∷ 29 ∷ 14 ∷ 30 ∷ 15 ∷ 31 ∷ [])) low_pairs) c.args.one c.args.two c.args.three c.args.four (omega arith) (omega arith) (omega arith) (omega arith) in
    let is_d : c.mesh-2.result.1 ≡ pick_l 0 ((c.args.one ++ c.args.two) ++ (c.args.three ++ c.args.four)) (fours 12) = c.mesh-2.ensures.high ∙ through (λ u v. pick_l 0 (pick_l 0 u (8 ∷ 24 ∷ 9 ∷ 25 ∷ 10 ∷ 26 ∷ 11 ∷ 27 ∷ 12 ∷ 28 ∷ 13 ∷ 29 ∷ 14 ∷ 30 ∷ 15 ∷ 31 ∷ []) ++ pick_l 0 v (8 ∷ 24 ∷ 9 ∷ 25 ∷ 10 ∷ 26 ∷ 11 ∷ 27 ∷ 12 ∷ 28 ∷ 13 ∷ 29 ∷ 14 ∷ 30 ∷ 15 ∷ 31 ∷ [])) high_pairs) c.args.one c.args.two c.args.three c.args.four (omega arith) (omega arith) (omega arith) (omega arith) in
    same_joined is_a is_b is_c is_d
    ∙ sym (in_all c.args.one c.args.two c.args.three c.args.four (omega arith) (omega arith) (omega arith) (omega arith))
