-- What holds at each turn of the loops over `k` and over `i` in `convert_sixteen`.
use Rattle.pix_el.specs.Conversion.{converted}
use Rattle.pix_el.specs.Gray.{rgba_converted}
use Rattle.pix_el.proofs.Gray.{Apart}
use Rattle.pix_el.proofs.Made.{Made}
use Rattle.pix_el.proofs.conversion.gray.convert_sixteen.Given as goal

-- the channels of the pixels below the index are written
abbrev pub invariant-loop-k : goal.invariant-loop-k
invariant-loop-k g l =
    Apart g.D.Chan.Channel.number g.P.Pixel.numbers (rgba_converted g.P.Pixel.format g.P.Gamma.Gamma-2.mode g.D.Pixel.format g.D.Gamma.Gamma.mode)
    l.k l.reds l.greens l.blues l.alphas l.src

-- the pixels below the index are made
abbrev pub invariant-loop-i : goal.invariant-loop-i
invariant-loop-i g l =
    Made g.D.Pixel.numbers g.P.Pixel.numbers (converted g.P.Pixel.format g.P.Gamma.Gamma-2.mode g.D.Pixel.format g.D.Gamma.Gamma.mode) 16 l.i l.dst l.src
