-- What holds at each turn of the loop over `d` in `Pixel::copy_color`.
use Rattle.pix_el.proofs.Written.{Written}
use Rattle.pix_el.proofs.el.Pixel.copy_color.Given as goal

-- the pixels below the index are the color
abbrev pub invariant-loop-d : goal.invariant-loop-d
invariant-loop-d g l = Written (λ _ _. l.clr) l.clr l.initial.dst l.dst l.d-index
