-- What holds at each turn of the loop over `i` in `Light::encode_srgb_slice`.
use Rattle.std.proofs.Common.{◌≡◌, take, map}
use Rattle.pix_chan.specs.Runs.{over}
use Rattle.pix_el.specs.Light.{as_srgb}
use Rattle.pix_el.proofs.light.Light.encode_srgb_slice.Given as goal

-- the pixels below the index are made
abbrev pub invariant-loop-i : goal.invariant-loop-i
invariant-loop-i g l =
    map g.D.Pixel.numbers l.dst ≡ over (λ p d. as_srgb g.Self.Pixel.format g.D.Pixel.format p)
    (take l.i (map g.Self.Pixel.numbers l.src)) (map g.D.Pixel.numbers l.fn.dst)
