use Rattle.std.proofs.Common.{◌∙◌, arith, map, ap, sym, take, drop}
use Rattle.std.proofs.lemmas.List.{length-map, length-take, map-append}
use Rattle.pix_chan.specs.declared.chan.bits16.Ch16.{Ch16}
use Rattle.pix_chan.proofs.Sixteen.{halves}
use Rattle.pix_chan.proofs.Planes.{same_both, same_pair, both-joined}
use Rattle.pix_chan.proofs.chan.bits16.Ch16Channel.join2.Goals as goal

pub returns : goal.returns
returns c =
    let v = (λ (x : Ch16). x.value) in
    let a = c.args.one in
    let b = c.args.two in
    same_pair c.both.ensures c.both-2.ensures
    ∙ both-joined (map v (take 8 a)) (map v (take 8 (drop 8 a))) (map v (take 8 b)) (map v (take 8 (drop 8 b)))
    (omega (arith, length-map (take 8 a) v, length-map (take 8 b) v, length-take 8 a, length-take 8 b))
    ∙ same_both (sym (map-append v (take 8 a) (take 8 (drop 8 a))) ∙ ap (map v) (halves a (omega arith))) (sym (map-append v (take 8 b) (take 8 (drop 8 b))) ∙ ap (map v) (halves b (omega arith)))
