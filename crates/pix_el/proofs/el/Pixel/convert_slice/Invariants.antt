-- What holds at each turn of the loop over `i` in `Pixel::convert_slice`.
use Rattle.std.proofs.Common.{◌≡◌, take, map}
use Rattle.pix_chan.specs.Runs.{over}
use Rattle.pix_el.specs.Conversion.{converted}
use Rattle.pix_el.proofs.el.Pixel.convert_slice.Given as goal

-- the pixels below the index are converted
abbrev pub invariant-loop-i : goal.invariant-loop-i
invariant-loop-i g l =
    map g.D.Pixel.numbers l.dst ≡ over (λ p d. converted g.Self.Pixel.format g.Self.Gamma.Gamma-2.mode g.D.Pixel.format g.D.Gamma.Gamma.mode p)
    (take l.i (map g.Self.Pixel.numbers l.src)) (map g.D.Pixel.numbers l.fn.dst)
