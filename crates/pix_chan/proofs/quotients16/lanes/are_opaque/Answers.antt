use Rattle.std.proofs.Common.{refl, arith}
use Rattle.pix_chan.proofs.LaneQuotients.{opaque_at}
use Rattle.pix_chan.proofs.quotients16.lanes.are_opaque.Goals as goal

pub returns : goal.returns
returns c =
    let long = c.fits-x.0 in
    record {
      three = λ same. opaque_at c.args.x 3 long (omega arith) refl refl (c.are_all.ensures same);
      seven = λ same. opaque_at c.args.x 7 long (omega arith) refl refl (c.are_all.ensures same);
      eleven = λ same. opaque_at c.args.x 11 long (omega arith) refl refl (c.are_all.ensures same);
      fifteen = λ same. opaque_at c.args.x 15 long (omega arith) refl refl (c.are_all.ensures same);
    }
