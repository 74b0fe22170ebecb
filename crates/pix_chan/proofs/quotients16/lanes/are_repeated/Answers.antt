use Rattle.std.proofs.Common.{ℕ, List, get_or, refl, arith}
use Rattle.pix_chan.proofs.LaneQuotients.{repeated_at, repeated_alphas}
use Rattle.pix_chan.proofs.quotients16.lanes.are_repeated.Goals as goal

pub returns : goal.returns
returns c = λ same.
    let x : List ℕ = c.args.x in
    let all = c.are_all.ensures same in
    repeated_alphas (get_or x 3 0) (get_or x 7 0) (get_or x 11 0) (get_or x 15 0)
    (repeated_at x 3 c.fits-x.0 c.fits-x.1 (omega arith) refl refl refl all)
    (repeated_at x 7 c.fits-x.0 c.fits-x.1 (omega arith) refl refl refl all)
    (repeated_at x 11 c.fits-x.0 c.fits-x.1 (omega arith) refl refl refl all)
    (repeated_at x 15 c.fits-x.0 c.fits-x.1 (omega arith) refl refl refl all)
