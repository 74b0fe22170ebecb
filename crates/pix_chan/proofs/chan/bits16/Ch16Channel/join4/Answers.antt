use Rattle.std.proofs.Common.{◌∙◌, arith, map}
use Rattle.std.proofs.lemmas.List.{length-map}
use Rattle.pix_chan.specs.declared.chan.bits16.Ch16.{Ch16}
use Rattle.pix_chan.proofs.Planes.{same_both, same_pair, both-joined, both_of_both}
use Rattle.pix_chan.proofs.chan.bits16.Ch16Channel.join4.Goals as goal

pub returns : goal.returns
returns c =
    let v = (λ (x : Ch16). x.value) in
    let first = c.join2.result in
    let second = c.join2-2.result in
    let one = c.args.one in
    let two = c.args.two in
    let three = c.args.three in
    let four = c.args.four in
    same_pair c.join2-3.ensures c.join2-4.ensures
    ∙ both-joined (map v first.0) (map v first.1) (map v second.0) (map v second.1) (omega (arith, length-map first.0 v, length-map second.0 v))
    ∙ same_both c.join2.ensures c.join2-2.ensures
    ∙ both_of_both (map v one) (map v two) (map v three) (map v four) (omega (arith, length-map one v, length-map two v)) (omega (arith, length-map one v, length-map three v)) (omega (arith, length-map one v, length-map four v))
