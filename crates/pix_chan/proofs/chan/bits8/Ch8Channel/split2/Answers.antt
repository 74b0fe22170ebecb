use Rattle.std.proofs.Common.{◌≡◌, ◌∙◌, arith, ap, length, map, List, ℕ, ◌++◌}
use Rattle.std.proofs.lemmas.Simd.{pick_l_whole}
use Rattle.std.proofs.lemmas.List.{length-map, length-append}
use Rattle.pix_chan.specs.declared.chan.bits8.Ch8.{Ch8}
use Rattle.pix_chan.proofs.Planes.{same_both}
use Rattle.pix_chan.proofs.chan.bits8.Ch8Channel.split2.Goals as goal

pub returns : goal.returns
returns c =
    let x = c.units.result in
    let y = c.units-2.result in
    let long : length (x ++ y) ≡ 32 = length-append x y ∙ omega (arith, ap length c.units.ensures, ap length c.units-2.ensures, length-map c.args.a (λ (z : Ch8). z.value), length-map c.args.b (λ (z : Ch8). z.value)) in
    same_both (c.channels.ensures ∙ c.cut.ensures.even) (c.channels-2.ensures ∙ c.cut.ensures.odd)
    ∙ pick_l_whole 0 (x ++ y) 32 long
    ∙ ap (λ (u : List ℕ). u ++ y) c.units.ensures ∙ ap (λ (u : List ℕ). map (λ (z : Ch8). z.value) c.args.a ++ u) c.units-2.ensures
