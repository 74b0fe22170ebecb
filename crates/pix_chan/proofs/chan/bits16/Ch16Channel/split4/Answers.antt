use Rattle.std.proofs.Common.{◌∙◌, arith, sym, map}
use Rattle.std.proofs.lemmas.List.{length-map}
use Rattle.pix_chan.specs.declared.chan.bits16.Ch16.{Ch16}
use Rattle.pix_chan.proofs.Planes.{same_both, same_pair, both-joined, both_of_both}
use Rattle.pix_chan.proofs.chan.bits16.Ch16Channel.split4.Goals as goal

pub returns : goal.returns
returns c =
    let v = (λ (x : Ch16). x.value) in
    let one = c.split2-3.result.0 in
    let two = c.split2-4.result.0 in
    let three = c.split2-3.result.1 in
    let four = c.split2-4.result.1 in
    let low = c.split2.result in
    let high = c.split2-2.result in
    sym (both_of_both (map v one) (map v two) (map v three) (map v four) (omega (arith, length-map one v, length-map two v)) (omega (arith, length-map one v, length-map three v)) (omega (arith, length-map one v, length-map four v)))
    ∙ same_both c.split2-3.ensures c.split2-4.ensures
    ∙ sym (both-joined (map v low.0) (map v high.0) (map v low.1) (map v high.1) (omega (arith, length-map low.0 v, length-map low.1 v)))
    ∙ same_pair c.split2.ensures c.split2-2.ensures
