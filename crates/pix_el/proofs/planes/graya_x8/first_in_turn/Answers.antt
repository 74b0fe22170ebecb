use Rattle.std.proofs.Common.{arith, map}
use Rattle.std.proofs.lemmas.List.{length-map}
use Rattle.pix_el.proofs.TwoPixels.{first_part}
use Rattle.pix_el.proofs.planes.graya_x8.first_in_turn.Goals as goal

pub returns : goal.returns
returns g c =
    let v = g.C.Channel.number in
    let both = c.join2-first.result in
    first_part 16 (map v both.0) (map v both.1) _ (omega (arith, length-map both.0 v)) c.join2-first.ensures
