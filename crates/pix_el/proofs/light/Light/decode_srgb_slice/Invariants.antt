-- What holds at each turn of the loop over `i` in `Light::decode_srgb_slice`.
use Rattle.std.proofs.Common.{◌≡◌, take, map}
use Rattle.pix_chan.specs.Runs.{over}
use Rattle.pix_el.specs.Light.{in_light}
use Rattle.pix_el.proofs.light.Light.decode_srgb_slice.Given as goal

-- the pixels below the index are made
abbrev pub invariant-loop-i : goal.invariant-loop-i
invariant-loop-i g l =
    map g.D.Pixel.numbers l.dst ≡ over (λ p d. in_light g.Self.Pixel.format g.D.Pixel.format p)
    (take l.i (map g.Self.Pixel.numbers l.src)) (map g.D.Pixel.numbers l.fn.dst)
