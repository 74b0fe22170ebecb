-- What holds at each turn of the loop over `k` in `convert_fours`.
use Rattle.std.proofs.Common.{◌≡◌, ◌*◌, take, map}
use Rattle.pix_chan.specs.Runs.{over}
use Rattle.pix_el.specs.Conversion.{converted}
use Rattle.pix_el.proofs.conversion.channelwise.convert_fours.Given as goal

-- the pixels of the first k fours are converted
abbrev pub invariant-loop-k : goal.invariant-loop-k
invariant-loop-k g l =
    map g.D.Pixel.numbers l.dst ≡ over (λ p d. converted g.P.Pixel.format g.P.Gamma.Gamma-2.mode g.D.Pixel.format g.D.Gamma.Gamma.mode p)
    (take (4 * l.k) (map g.P.Pixel.numbers l.src)) (map g.D.Pixel.numbers l.fn.dst)
