-- What holds at each turn of the loop over `i` in `copy_pixels`.
use Rattle.pix_scale.proofs.Written.{Copied}
use Rattle.pix_scale.proofs.points.copy_pixels.Given as goal

-- the pixels below i are copied
abbrev pub invariant-loop-i : goal.invariant-loop-i
invariant-loop-i g l = Copied g.D.Stored.reads l.to l.from l.places l.i
