-- What holds at each turn of the loop over `i` in `deepened`.
use Rattle.pix_el.specs.Conversion.{at_depth}
use Rattle.pix_el.proofs.Made.{Made}
use Rattle.pix_el.proofs.conversion.depth.deepened.Given as goal

-- the channels below the index are made
abbrev pub invariant-loop-i : goal.invariant-loop-i
invariant-loop-i g l = Made g.D.Channel.number g.C.Channel.number (at_depth g.C.Channel.max g.D.Channel.max) 32 l.i l.to l.from
