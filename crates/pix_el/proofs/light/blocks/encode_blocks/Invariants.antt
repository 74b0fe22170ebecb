-- What holds at each turn of the loop over `k` in `encode_blocks`.
use Rattle.std.proofs.Common.{◌≡◌, ◌*◌, take, map}
use Rattle.pix_chan.specs.Runs.{over}
use Rattle.pix_el.specs.Light.{as_srgb}
use Rattle.pix_el.proofs.light.blocks.encode_blocks.Given as goal

-- the pixels of the first k fours are encoded
abbrev pub invariant-loop-k : goal.invariant-loop-k
invariant-loop-k g l =
    map g.D.Pixel.numbers l.dst ≡ over (λ p d. as_srgb g.P.Pixel.format g.D.Pixel.format p) (take (4 * l.k) (map g.P.Pixel.numbers l.src)) (map g.D.Pixel.numbers l.fn.dst)
