use Rattle.std.proofs.Common.{◌≡◌, ◌∙◌, arith, length, map, ◌++◌}
use Rattle.std.proofs.lemmas.Simd.{pick_l_whole}
use Rattle.std.proofs.lemmas.List.{length-map, length-append}
use Rattle.pix_chan.specs.declared.chan.bits16.Ch16.{Ch16}
use Rattle.pix_chan.proofs.Planes.{same_both}
use Rattle.pix_chan.proofs.chan.bits16.Ch16Channel.split2.Goals as goal

pub returns : goal.returns
returns c =
    let x = map (λ (x : Ch16). x.value) c.args.a in
    let y = map (λ (x : Ch16). x.value) c.args.b in
    let long : length (x ++ y) ≡ 32 = length-append x y ∙ omega (arith, length-map c.args.a (λ (x : Ch16). x.value), length-map c.args.b (λ (x : Ch16). x.value)) in
    same_both c.evens.ensures c.odds.ensures ∙ pick_l_whole 0 (x ++ y) 32 long
