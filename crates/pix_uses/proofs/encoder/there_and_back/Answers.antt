-- Of `there_and_back`: the clause `back`.
use Rattle.pix_uses.proofs.PicturesBack.{back_of_indexed}
use Rattle.pix_uses.proofs.encoder.there_and_back.Goals as goal

pub returns-in-Some : goal.returns-in-Some
returns-in-Some c =
    let h = rw c.in-Some.is at c.in_ok-index_pixels.ensures.indexed in
    record { back = back_of_indexed c.look_up.result _ _ _ _ _ _ _ _ _ c.args.picture.now.pixels h c.requires c.look_up.ensures.colors }
