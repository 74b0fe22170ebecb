use Rattle.std.proofs.Common.{◌≡◌, ◌∙◌, ◌++◌, ap, arith, length}
use lib.Lanes.{pick_l}
use Rattle.std.proofs.lemmas.Simd.{pick_l_whole}
use Rattle.std.proofs.lemmas.List.{length-append}
use Rattle.pix_chan.specs.Lanes.{even_lanes, odd_lanes, indexes}
use Rattle.pix_chan.proofs.Planes.{through, same_turn}
use Rattle.pix_chan.proofs.chan.bits8.planes.split_four.Goals as goal

pub returns : goal.returns
returns c =
    let is_one : c.cut-3.result.0 ≡ pick_l 0 ((c.args.a ++ c.args.b) ++ (c.args.c ++ c.args.d)) (indexes 4 0) = c.cut-3.ensures.even ∙ ap (λ u. pick_l 0 (u ++ c.cut-2.result.0) even_lanes) c.cut.ensures.even ∙ ap (λ v. pick_l 0 (pick_l 0 (c.args.a ++ c.args.b) even_lanes ++ v) even_lanes) c.cut-2.ensures.even ∙ through (λ u v. pick_l 0 (pick_l 0 u even_lanes ++ pick_l 0 v even_lanes) even_lanes) c.args.a c.args.b c.args.c c.args.d (omega arith) (omega arith) (omega arith) (omega arith) in
    let is_two : c.cut-4.result.0 ≡ pick_l 0 ((c.args.a ++ c.args.b) ++ (c.args.c ++ c.args.d)) (indexes 4 1) = c.cut-4.ensures.even ∙ ap (λ u. pick_l 0 (u ++ c.cut-2.result.1) even_lanes) c.cut.ensures.odd ∙ ap (λ v. pick_l 0 (pick_l 0 (c.args.a ++ c.args.b) odd_lanes ++ v) even_lanes) c.cut-2.ensures.odd ∙ through (λ u v. pick_l 0 (pick_l 0 u odd_lanes ++ pick_l 0 v odd_lanes) even_lanes) c.args.a c.args.b c.args.c c.args.d (omega arith) (omega arith) (omega arith) (omega arith) in
    let is_three : c.cut-3.result.1 ≡ pick_l 0 ((c.args.a ++ c.args.b) ++ (c.args.c ++ c.args.d)) (indexes 4 2) = c.cut-3.ensures.odd ∙ ap (λ u. pick_l 0 (u ++ c.cut-2.result.0) odd_lanes) c.cut.ensures.even ∙ ap (λ v. pick_l 0 (pick_l 0 (c.args.a ++ c.args.b) even_lanes ++ v) odd_lanes) c.cut-2.ensures.even ∙ through (λ u v. pick_l 0 (pick_l 0 u even_lanes ++ pick_l 0 v even_lanes) odd_lanes) c.args.a c.args.b c.args.c c.args.d (omega arith) (omega arith) (omega arith) (omega arith) in
    let is_four : c.cut-4.result.1 ≡ pick_l 0 ((c.args.a ++ c.args.b) ++ (c.args.c ++ c.args.d)) (indexes 4 3) = c.cut-4.ensures.odd ∙ ap (λ u. pick_l 0 (u ++ c.cut-2.result.1) odd_lanes) c.cut.ensures.odd ∙ ap (λ v. pick_l 0 (pick_l 0 (c.args.a ++ c.args.b) odd_lanes ++ v) odd_lanes) c.cut-2.ensures.odd ∙ through (λ u v. pick_l 0 (pick_l 0 u odd_lanes ++ pick_l 0 v odd_lanes) odd_lanes) c.args.a c.args.b c.args.c c.args.d (omega arith) (omega arith) (omega arith) (omega arith) in
    let all = (c.args.a ++ c.args.b) ++ (c.args.c ++ c.args.d) in
    let long : length all ≡ 64 = omega (arith, length-append (c.args.a ++ c.args.b) (c.args.c ++ c.args.d), length-append c.args.a c.args.b, length-append c.args.c c.args.d) in
    same_turn is_one is_two is_three is_four ∙ pick_l_whole 0 all 64 long
